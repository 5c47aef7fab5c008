-- `row_bytes::put_numbers` meets its contract: the first i layers are laid in.
-- Assumes nothing.
use Prim.Native.Nat.{ℕ, ◌+◌, ◌-◌, ◌≤◌}
use mathlib.Core.Path.{◌≡◌}
use mathlib.Core.List.{List, map}
use lib.ListN.{length, take}
use lib.Seq.{sets}
use Rattle.row_bytes.proofs.put_numbers.Given as goal

-- the bytes of the layers
abbrev pub bytes_of : List ℕ → List ℕ
bytes_of list = map (λ n. 192 + n) list

abbrev pub invariant-loop-i : goal.invariant-loop-i
invariant-loop-i l = (l.i ≤ length l.list) × (length l.out ≡ length l.initial.out) × (l.out ≡ sets l.initial.out l.at (take l.i (bytes_of l.list)))
