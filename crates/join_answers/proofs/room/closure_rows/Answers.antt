-- `join_answers::room::closure_rows` meets its contract. The invariant: the rows of the layers so far are counted (ClosureRows). The measure is the number of layers left.
-- Assumes nothing.
use Prim.Native.Nat.{ℕ, ◌<◌}
use mathlib.Core.Path.{sym, subst, ◌∙◌}
use native.Mathlib.Omega.{arith}
use lib.ListN.{length}
use Rattle.sets.specs.Sets.{members_of}
use Rattle.sets.proofs.Members.{fewer_left}
use Rattle.join_answers.proofs.ClosureRows.{Counted, counted_start, counted_next, counted_end, layer_small, between, next_short}
use Rattle.join_answers.proofs.room.closure_rows.Goals as goal
use Rattle.join_answers.proofs.room.closure_rows.Goals.{After-from-layer}

pub loop-left-init : goal.loop-left-init
loop-left-init c = counted_start _ _ _ c.requires c.ranges.closure.fits

-- the layer at hand is one, and its rows lie between two starts
small : (c : After-from-layer) → c.from-layer.result < 64
small c = layer_small _ _ _ c.requires _ _ c.loop-left.invariant c.loop-left-test.true _ (c.from-layer.ensures ∙ c.lowest.ensures)

pub overflow_add-rows : goal.overflow_add-rows
overflow_add-rows c = omega (arith, small c)

pub offset_bounds-starts-layer : goal.offset_bounds-starts-layer
offset_bounds-starts-layer c = omega (arith, small (goal.at.offset_bounds-starts-layer c).After-from-layer)

pub bounds-starts-layer : goal.bounds-starts-layer
bounds-starts-layer c = omega (arith, small (goal.at.bounds-starts-layer c).After-from-layer)

pub offset_bounds-starts-layer-in-loop-left : goal.offset_bounds-starts-layer-in-loop-left
offset_bounds-starts-layer-in-loop-left c = omega (arith, small (goal.at.offset_bounds-starts-layer-in-loop-left c).After-from-layer)

pub bounds-starts-layer-in-loop-left : goal.bounds-starts-layer-in-loop-left
bounds-starts-layer-in-loop-left c = omega (arith, small (goal.at.bounds-starts-layer-in-loop-left c).After-from-layer)

pub overflow_sub-rows : goal.overflow_sub-rows
overflow_sub-rows c =
    omega (arith, between c.args.indices.now c.args.starts.now c.args.closure c.requires _ _ c.loop-left.invariant c.loop-left-test.true _ (c.from-layer.ensures ∙ c.lowest.ensures))

pub overflow_add-rows-in-loop-left : goal.overflow_add-rows-in-loop-left
overflow_add-rows-in-loop-left c =
    omega (arith, next_short c.args.indices.now c.args.starts.now c.args.closure c.requires _ _ c.loop-left.invariant c.loop-left-test.true _ (c.from-layer.ensures ∙ c.lowest.ensures), c.well_formed)

pub loop-left-smaller : goal.loop-left-smaller
loop-left-smaller c =
    let loop = c.loop-left in
    subst (λ (s : ℕ). length (members_of s) < length (members_of loop.left)) (sym c.rest-left.ensures) (fewer_left loop.left loop.invariant.within c.loop-left-test.true)

pub loop-left-preserved : goal.loop-left-preserved
loop-left-preserved c =
    subst (Counted c.args.indices.now c.args.closure _) (sym c.rest-left.ensures)
    (counted_next c.args.indices.now c.args.starts.now c.args.closure c.requires _ _ c.loop-left.invariant c.loop-left-test.true _ (c.from-layer.ensures ∙ c.lowest.ensures))

pub returns : goal.returns
returns c = counted_end _ _ _ c.requires _ _ c.loop-left.invariant c.loop-left-test.false
