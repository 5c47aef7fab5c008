-- `tell` meets its contract.
-- Assumes nothing.
use Rattle.program_points.proofs.Filled.{points_in_lem, payloads_held, points_many, payloads_many, all_points, all_payloads, points_short, payloads_short, tell_absent, tell_told}
use Rattle.program_points.proofs.tell.Goals as goal

pub slice_bounds-points-end : goal.slice_bounds-points-end
slice_bounds-points-end c = points_in_lem c.args.program.now (λ i. (c.shared_slice_known-1.given i).fits) c.args.found c.requires

pub slice_bounds-tally_points-end : goal.slice_bounds-tally_points-end
slice_bounds-tally_points-end c = points_many c.args.program.now (λ i. (c.shared_slice_known-1.given i).fits) c.args.found c.requires

pub tally_points-tally-requires : goal.tally_points-tally-requires
tally_points-tally-requires c = (all_points c.args.program.now (λ i. (c.shared_slice_known-1.given i).fits) c.args.found c.requires, points_short c.args.program.now (λ i. (c.shared_slice_known-1.given i).fits) c.args.found c.requires)

pub returns-then-tally : goal.returns-then-tally
returns-then-tally c = tell_absent c.args.program.now (λ i. (c.shared_slice_known-1.given i).fits) c.args.found c.requires c.args.layers c.tally_points-tally.result c.tally_points-tally.ensures c.refused.ensures c.if-tally.true

pub slice_bounds-payloads-end : goal.slice_bounds-payloads-end
slice_bounds-payloads-end c = payloads_held c.args.program.now (λ i. (c.shared_slice_known-1.given i).fits) c.args.found c.requires

pub slice_bounds-profile_bytes-end : goal.slice_bounds-profile_bytes-end
slice_bounds-profile_bytes-end c = payloads_many c.args.program.now (λ i. (c.shared_slice_known-1.given i).fits) c.args.found c.requires

pub profile_bytes-requires : goal.profile_bytes-requires
profile_bytes-requires c = (all_payloads c.args.program.now (λ i. (c.shared_slice_known-1.given i).fits) c.args.found c.requires, payloads_short c.args.program.now (λ i. (c.shared_slice_known-1.given i).fits) c.args.found c.requires)

pub returns : goal.returns
returns c = tell_told c.args.program.now (λ i. (c.shared_slice_known-1.given i).fits) c.args.found c.requires c.args.layers c.tally_points-tally.result c.tally_points-tally.ensures c.profile_bytes.ensures c.if-tally.false
