-- `lay_stored` meets its contract: the numbers passed are in place.
-- Assumes nothing.
use Rattle.layer_set_rows.proofs.Tests.{put_next}
use Prim.Native.Nat.{◌≤◌, ◌<◌}
use mathlib.Core.Path.{sym, ◌∙◌}
use native.Mathlib.Omega.{arith}
use lib.ListN.{length, length-set}
use Rattle.combinators.specs.Each.{each_only}
use Rattle.layer_set_rows.specs.Buffers.{number_of, stored_numbers}
use Rattle.layer_set_rows.proofs.laying.lay_stored.Goals as goal

pub loop-place-init : goal.loop-place-init
loop-place-init c = (omega arith, c.requires, λ k h. absurd (omega arith))

pub loop-place-preserved : goal.loop-place-preserved
loop-place-preserved c =
    let a = c.args in
    let at = c.loop-place in
    let inside : at.place < length at.stored = omega (arith, at.invariant.1) in (
      omega arith,
      length-set at.stored at.place c.stored_number.result ∙ at.invariant.1,
      put_next (number_of a.kept.now) at.stored at.place c.stored_number.result inside c.stored_number.ensures at.invariant.2,
    )

pub shape_of-stored : goal.shape_of-stored
shape_of-stored c = c.loop-place.invariant.1 ∙ sym c.requires

pub returns : goal.returns
unfolding stored_numbers
returns c =
    let a = c.args in
    let at = c.loop-place in
    let end : 192 ≤ at.place = omega arith in
    each_only (number_of a.kept.now) at.stored 192 0 at.invariant.1 (λ k h. at.invariant.2 k (omega arith))
