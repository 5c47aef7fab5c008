-- `row_laying::clear_tail` meets its contract. The invariant: the places passed hold 0.
-- Assumes nothing.
use Prim.Native.Nat.{ℕ, ◌-◌}
use mathlib.Core.List.{List}
use mathlib.Core.Path.{◌≡◌, refl, ap, ◌∙◌}
use native.Mathlib.Omega.{arith}
use lib.ListN.{set, replicate, length-set}
use lib.Seq.{sets}
use Rattle.buffers.proofs.Laws.{blank_more, blank_rest}
use Rattle.row_laying.proofs.clear_tail.Goals as goal

pub loop-i-init : goal.loop-i-init
loop-i-init c = (omega arith, omega arith, omega arith, refl)

pub loop-i-preserved : goal.loop-i-preserved
loop-i-preserved c =
    let a = c.args in
    let here = c.loop-i in (
      omega arith,
      omega arith,
      simp length-set (omega arith),
      ap (λ (l : List ℕ). set l here.i 0) here.invariant.3 ∙ blank_more a.row.now 16 0 here.i (omega arith),
    )

pub returns : goal.returns
returns c =
    let a = c.args in
    let here = c.loop-i in
    let all : here.i ≡ 80 = omega arith in
    here.invariant.3 ∙ ap (λ (n : ℕ). sets a.row.now 16 (replicate (n - 16) 0)) all ∙ blank_rest a.row.now 16 0 80 (omega arith) (omega arith)
