-- `closure_over` meets its contract. The invariant: what is put together so far, and what comes of those that are left (Putting). The measure is the number of
-- members left. Assumes nothing.
use Prim.Native.Nat.{ℕ, ◌<◌}
use mathlib.Core.Path.{sym, subst}
use native.Mathlib.Omega.{arith}
use lib.ListN.{length}
use Rattle.sets.specs.Sets.{members_of}
use Rattle.sets.proofs.Members.{fewer_left}
use Rattle.kept_closures.proofs.Putting.{Putting, putting_start, putting_next, putting_end, low_inside}
use Rattle.kept_closures.proofs.closure_over.Goals as goal
use Rattle.kept_closures.proofs.closure_over.Goals.{After-lowest-lower}

pub overflow_shl-closure : goal.overflow_shl-closure
overflow_shl-closure c = c.requires

pub loop-left-init : goal.loop-left-init
loop-left-init c = rw c.below-left.ensures (putting_start _ _ _ c.requires)

-- the index at hand is one
small : (c : After-lowest-lower) → c.lowest-lower.result < 64
small c =
    let inside = low_inside _ _ _ _ _ c.loop-left.invariant c.loop-left-test.true _ c.lowest-lower.ensures in
    omega (arith, c.requires)

pub offset_bounds-closures-lower : goal.offset_bounds-closures-lower
offset_bounds-closures-lower c = omega (arith, small c)

pub bounds-closures-lower : goal.bounds-closures-lower
bounds-closures-lower c = omega (arith, small (goal.at.bounds-closures-lower c).After-lowest-lower)

pub overflow_shl-closure-in-loop-left : goal.overflow_shl-closure-in-loop-left
overflow_shl-closure-in-loop-left c = small (goal.at.overflow_shl-closure-in-loop-left c).After-lowest-lower

pub loop-left-smaller : goal.loop-left-smaller
loop-left-smaller c =
    let left = c.loop-left.left in
    subst (λ (s : ℕ). length (members_of s) < length (members_of left)) (sym c.rest-left.ensures) (fewer_left left c.loop-left.invariant.within c.loop-left-test.true)

pub loop-left-preserved : goal.loop-left-preserved
loop-left-preserved c =
    let a = c.args in
    let loop = c.loop-left in
    subst (Putting a.closures.now a.index a.names _) (sym c.rest-left.ensures)
    (putting_next a.closures.now a.index a.names loop.closure loop.left loop.invariant c.loop-left-test.true _ c.lowest-lower.ensures (small (goal.at.loop-left-preserved c).After-lowest-lower))

pub returns : goal.returns
returns c = putting_end _ _ _ _ _ c.loop-left.invariant c.loop-left-test.false
