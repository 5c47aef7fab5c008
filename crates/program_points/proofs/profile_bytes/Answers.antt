-- `profile_bytes` meets its contract.
-- Assumes nothing.
use Rattle.program_points.proofs.Tallying.{head_parts, summing_start, summing_on, summing_end}
use lib.ListN.{get_or}
use native.Mathlib.Omega.{arith}
use Rattle.program_points.proofs.profile_bytes.Goals as goal

pub loop-place-init : goal.loop-place-init
loop-place-init c = summing_start c.args.program.now c.args.places.now

pub head_at-head-requires : goal.head_at-head-requires
head_at-head-requires c =
    let a = c.args in
    let at = c.loop-place in
    (head_parts a.program.now (λ i. (c.shared_slice_known-1.given i).fits) (get_or a.places.now at.place-index 0) (c.requires.0 at.place-index c.loop-place-test.true)).at_within

pub overflow_add-bytes : goal.overflow_add-bytes
overflow_add-bytes c =
    let a = c.args in
    let at = c.loop-place in
    omega (arith, c.requires.1, at.invariant.within, at.invariant.small)

pub loop-place-preserved : goal.loop-place-preserved
loop-place-preserved c =
    let a = c.args in
    let at = c.loop-place in
    rw c.from.ensures (summing_on a.program.now a.places.now at.bytes at.place-index at.invariant (λ i. (c.shared_slice_known-1.given i).fits) c.loop-place-test.true c.requires.0 c.head_at-head.result c.head_at-head.ensures (omega arith))

pub returns : goal.returns
returns c =
    let a = c.args in
    let at = c.loop-place in
    summing_end a.program.now a.places.now at.bytes at.place-index at.invariant (omega (arith, c.loop-place-test.false))
