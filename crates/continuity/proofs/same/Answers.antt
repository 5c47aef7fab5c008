-- `continuity::same` meets its contract. The invariant: as many differences as there are at the places passed. The measure is the number of
-- places left. Assumes nothing.
use Prim.Native.Nat.{ℕ, ◌+◌}
use mathlib.Core.Path.{◌≡◌, refl, sym, ap, ap₂, ◌∙◌}
use native.Mathlib.Omega.{arith}
use lib.Dec.{eqb}
use lib.ListN.{length, get_or}
use Rattle.combinators.specs.Below.{count, count_short}
use Rattle.continuity.specs.Following.{differs}
use Rattle.continuity.proofs.Comparing.{difference_small, counted_next}
use Rattle.continuity.proofs.same.Goals as goal

pub loop-at-init : goal.loop-at-init
loop-at-init c = (omega arith, refl)

pub overflow_add-differences : goal.overflow_add-differences
overflow_add-differences c =
    let one = c.args.one.now in
    let other = c.args.other.now in
    let at = c.loop-at.at in
    omega (arith, c.difference-differences.ensures, difference_small (get_or one at 0) (get_or other at 0), count_short (differs one other) at)

pub loop-at-preserved : goal.loop-at-preserved
loop-at-preserved c =
    let one = c.args.one.now in
    let other = c.args.other.now in
    let at = c.loop-at.at in
    (omega arith, ap₂ ◌+◌ c.loop-at.invariant.1 c.difference-differences.ensures ∙ sym (counted_next one other at))

pub returns : goal.returns
returns c =
    let one = c.args.one.now in
    let other = c.args.other.now in
    let all : c.loop-at.at ≡ length one = omega arith in
    ap (λ (n : ℕ). eqb n 0) (c.loop-at.invariant.1 ∙ ap (count (differs one other)) all)
