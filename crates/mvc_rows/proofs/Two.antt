-- Two rows laid into a buffer, one after the other, each into a part that was lent for it.
-- Assumes nothing.
use Prim.Native.Nat.{ℕ}
use mathlib.Core.Path.{◌≡◌, sym, ◌∙◌, ap}
use mathlib.Core.List.{List, ◌++◌}
use lib.ListN.{length, take, drop}
use Rattle.buffers.specs.Buffers.{over}
use Rattle.buffers.proofs.Laws.{over_part}

pub two_rows : {A : Type 0} (first second old : List A) (n m : ℕ) → length first ≡ n → length second ≡ m
    → take n (first ++ drop n old) ++ (second ++ drop m (drop n (first ++ drop n old))) ≡ over (first ++ second) old
two_rows {A} first second old n m is_first is_second =
    ap (λ (l : List A). take n l ++ (second ++ drop m (drop n l))) (ap (λ (k : ℕ). first ++ drop k old) (sym is_first))
    ∙ over_part first second old n m is_first is_second
