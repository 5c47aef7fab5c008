-- `add_points_if` meets its contract.
-- Assumes nothing.
use Rattle.point_descriptors.proofs.Walking.{nothing_held, points_if, points_else}
use Rattle.point_descriptors.proofs.Adding.{has_body}
use Rattle.combinators.specs.Lists.{part_to_end}
use lib.ListN.{length, take, drop, length-drop}
use mathlib.Core.Path.{◌≡◌, sym, ap, ◌∙◌}
use Prim.Native.Nat.{◌-◌}
use native.Mathlib.Omega.{arith}
use Rattle.point_descriptors.proofs.add_points_if.Goals as goal

pub slice_bounds-add_points_in-count : goal.slice_bounds-add_points_in-count
slice_bounds-add_points_in-count c = has_body c.args.tag c.args.body.now (sym c.is_points.ensures ∙ c.if-is_points.true)

pub slice_bounds-add_points_in-start : goal.slice_bounds-add_points_in-start
slice_bounds-add_points_in-start c = has_body c.args.tag c.args.body.now (sym c.is_points.ensures ∙ c.if-is_points.true)

pub add_points_in-requires : goal.add_points_in-requires
add_points_in-requires c =
    let body = c.args.body.now in
    let some = has_body c.args.tag c.args.body.now (sym c.is_points.ensures ∙ c.if-is_points.true) in
    let long : length (take (length body - 1) (drop 1 body)) ≡ length body - 1 = ap length (part_to_end body 1) ∙ length-drop 1 body in
    (omega (arith, c.requires.0), omega (arith, c.requires.1, long, some), c.requires.2)

pub returns-then-is_points : goal.returns-then-is_points
returns-then-is_points c = points_if c.args.places.now c.add_points_in.new.places c.args.count c.add_points_in.result c.args.at c.args.tag c.args.body.now (sym c.is_points.ensures ∙ c.if-is_points.true) c.add_points_in.ensures

pub returns : goal.returns
returns c = nothing_held c.args.places.now c.args.count _ (points_else c.args.at c.args.tag c.args.body.now (sym c.is_points.ensures ∙ c.if-is_points.false))
