-- `heads::any_used` meets its contract. The invariant: what is left of the unit has a used row exactly where the whole unit has
-- (Marking). The measure is the number of members left. Assumes nothing.
use Prim.Native.Nat.{◌<◌}
use mathlib.Core.Path.{◌∙◌}
use native.Mathlib.Omega.{arith}
use Rattle.heads.proofs.Marking.{looking_start, looking_end, used_here, unused_here, here_looked, small_layer, less_left}
use Rattle.heads.proofs.any_used.Goals as goal
use Rattle.heads.proofs.any_used.Goals.{After-from-layer}

pub loop-left-init : goal.loop-left-init
loop-left-init c = looking_start _ _ _ c.requires.small

-- the layer at hand is one
small : (c : After-from-layer) → c.from-layer.result < 64
small c = small_layer _ _ (c.from-layer.ensures ∙ c.lowest.ensures) c.loop-left.invariant.within c.loop-left-test.true

pub offset_bounds-rows-layer : goal.offset_bounds-rows-layer
offset_bounds-rows-layer c = omega (arith, small (goal.at.offset_bounds-rows-layer c).After-from-layer)

pub bounds-rows-layer : goal.bounds-rows-layer
bounds-rows-layer c = omega (arith, small (goal.at.bounds-rows-layer c).After-from-layer)

pub bounds-used-rows : goal.bounds-used-rows
bounds-used-rows c = c.requires.row _ (here_looked _ _ _ _ c.loop-left.invariant c.loop-left-test.true _ (c.from-layer.ensures ∙ c.lowest.ensures))

pub returns-then-used-rows : goal.returns-then-used-rows
returns-then-used-rows c = used_here _ _ _ _ c.loop-left.invariant c.loop-left-test.true _ (c.from-layer.ensures ∙ c.lowest.ensures) c.if-used-rows.true

pub loop-left-smaller : goal.loop-left-smaller
loop-left-smaller c = less_left _ _ (c.from-layer.ensures ∙ c.lowest.ensures) c.loop-left.invariant.within c.loop-left-test.true _ c.rest-left.ensures

pub loop-left-preserved : goal.loop-left-preserved
loop-left-preserved c =
    unused_here _ _ _ _ c.loop-left.invariant c.loop-left-test.true _ (c.from-layer.ensures ∙ c.lowest.ensures) c.if-used-rows.false _ c.rest-left.ensures

pub returns : goal.returns
returns c = looking_end _ _ _ _ c.loop-left.invariant c.loop-left-test.false
