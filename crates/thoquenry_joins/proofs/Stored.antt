-- One element more of a list, in its array.
-- Assumes nothing.
use Prim.Native.Nat.{ℕ, ◌+◌, ◌<◌}
use mathlib.Core.List.{List}
use mathlib.Core.Path.{◌≡◌, ◌∙◌}
use native.Mathlib.Numerals.{add-one}
use native.Mathlib.Omega.{arith}
use lib.ListN.{length, get_or, set, take}
use lib.Seq.{take-suc, length-take-le}
use Rattle.combinators.specs.Padding.{pad_to, store_pad_to}

pub store_take : (n blank : ℕ) (l : List ℕ) (i : ℕ) → i < length l → i < n
    → set (pad_to n blank (take i l)) i (get_or l i 0) ≡ pad_to n blank (take (i + 1) l)
store_take n blank l i h k =
    store_pad_to n blank (get_or l i 0) (take i l) i (length-take-le i l (omega arith)) k ∙ rw (add-one i, take-suc l i 0 h)
