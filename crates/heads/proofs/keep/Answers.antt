-- `heads::keep` meets its contract. The invariant, what is left of the unit marked and kept from here on, and each turn are in Marking.
-- The measure is the number of members left. Assumes nothing.
use Prim.Native.Nat.{◌<◌}
use mathlib.Core.Path.{◌∙◌}
use native.Mathlib.Omega.{arith}
use lib.ListN.{length}
use Rattle.heads.proofs.Marking.{keeping_start, keeping_more, row_before, here_own, place_inside, all_cleared, all_marked, all_kept, small_layer, less_left}
use Rattle.heads.proofs.keep.Goals as goal
use Rattle.heads.proofs.keep.Goals.{After-from-layer}

pub loop-left-init : goal.loop-left-init
loop-left-init c = keeping_start _ _ _ _ _ _ c.requires.0.small

-- the layer at hand is one
small : (c : After-from-layer) → c.from-layer.result < 64
small c = small_layer _ _ (c.from-layer.ensures ∙ c.lowest.ensures) c.loop-left.invariant.within c.loop-left-test.true

pub offset_bounds-rows-layer : goal.offset_bounds-rows-layer
offset_bounds-rows-layer c = omega (arith, small (goal.at.offset_bounds-rows-layer c).After-from-layer)

pub bounds-rows-layer : goal.bounds-rows-layer
bounds-rows-layer c = omega (arith, small (goal.at.bounds-rows-layer c).After-from-layer)

pub offset_bounds-rows-layer-in-loop-left : goal.offset_bounds-rows-layer-in-loop-left
offset_bounds-rows-layer-in-loop-left c = omega (arith, small (goal.at.offset_bounds-rows-layer-in-loop-left c).After-from-layer)

pub bounds-rows-layer-in-loop-left : goal.bounds-rows-layer-in-loop-left
bounds-rows-layer-in-loop-left c = omega (arith, small (goal.at.bounds-rows-layer-in-loop-left c).After-from-layer)

pub bounds-used-row : goal.bounds-used-row
bounds-used-row c =
    let own = here_own _ _ _ _ _ _ _ _ _ _ _ c.loop-left.invariant c.loop-left-test.true _ (c.from-layer.ensures ∙ c.lowest.ensures) in
    let before = row_before _ _ _ _ _ _ _ _ _ _ _ c.loop-left.invariant c.loop-left-test.true _ (c.from-layer.ensures ∙ c.lowest.ensures) in
    omega (arith, c.requires.0.row _ own, before, c.loop-left.invariant.long_used)

-- and there is a place for its row
room : (c : After-from-layer) → c.loop-left.at < length c.loop-left.kept
room c =
    let inside = place_inside _ _ _ _ _ _ _ _ _ _ _ c.loop-left.invariant c.loop-left-test.true _ (c.from-layer.ensures ∙ c.lowest.ensures) in
    omega (arith, inside, c.requires.1, c.loop-left.invariant.long_kept)

pub offset_bounds-kept-at : goal.offset_bounds-kept-at
offset_bounds-kept-at c = omega (arith, room (goal.at.offset_bounds-kept-at c).After-from-layer)

pub bounds-kept-at : goal.bounds-kept-at
bounds-kept-at c = omega (arith, room (goal.at.bounds-kept-at c).After-from-layer)

pub overflow_add-at : goal.overflow_add-at
overflow_add-at c = omega (arith, room (goal.at.overflow_add-at c).After-from-layer)

pub loop-left-smaller : goal.loop-left-smaller
loop-left-smaller c = less_left _ _ (c.from-layer.ensures ∙ c.lowest.ensures) c.loop-left.invariant.within c.loop-left-test.true _ c.rest-left.ensures

pub loop-left-preserved : goal.loop-left-preserved
loop-left-preserved c = keeping_more _ _ _ _ _ _ _ _ _ _ _ c.loop-left.invariant c.loop-left-test.true _ (c.from-layer.ensures ∙ c.lowest.ensures) _ c.rest-left.ensures

pub shape_of-used : goal.shape_of-used
shape_of-used c = c.loop-left.invariant.long_used

pub shape_of-kept : goal.shape_of-kept
shape_of-kept c = c.loop-left.invariant.long_kept

pub returns : goal.returns
returns c =
    let known = c.loop-left.invariant in record {
      blank = all_cleared _ _ _ _ _ _ _ _ _ _ _ known c.loop-left-test.false;
      marks = all_marked _ _ _ _ _ _ _ _ _ _ _ known c.loop-left-test.false;
      content = all_kept _ _ _ _ _ _ _ _ _ _ _ known c.loop-left-test.false;
    }
