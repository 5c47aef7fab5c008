-- `add_points_in` meets its contract.
-- Assumes nothing.
use Rattle.point_descriptors.proofs.Walking.{nothing_held, no_head, points_by}
use Rattle.operation_points.proofs.Judging.{head_within}
use mathlib.Core.Path.{sym, ◌∙◌}
use native.Mathlib.Omega.{arith}
use Rattle.point_descriptors.proofs.add_points_in.Goals as goal

pub add_points-requires : goal.add_points-requires
add_points-requires c =
    let within = head_within c.args.payload.now c.in-Some.head (sym c.read_head.ensures ∙ c.in-Some.is) in
    (omega (arith, c.requires.0), within, c.requires.1, c.requires.2)

pub returns-in-None : goal.returns-in-None
returns-in-None c = nothing_held c.args.places.now c.args.count _ (no_head c.args.base c.args.payload.now (sym c.in-None.is ∙ c.read_head.ensures))

pub returns-in-Some : goal.returns-in-Some
returns-in-Some c = points_by c.args.places.now c.add_points.new.places c.args.count c.add_points.result c.args.base c.args.payload.now c.in-Some.head (sym c.in-Some.is ∙ c.read_head.ensures) c.add_points.ensures
