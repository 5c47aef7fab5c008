-- `claims::mark_timed` meets its contract. The invariant: what is marked, and what is asked for of the layers that are left (Marking). The measure is the
-- number of layers left. Assumes nothing.
use Prim.Native.Nat.{ℕ, ◌<◌}
use mathlib.Core.List.{[]}
use mathlib.Core.Path.{sym, ◌∙◌, subst}
use native.Mathlib.Omega.{arith}
use lib.ListN.{length}
use Rattle.sets.specs.Sets.{members_of}
use Rattle.sets.proofs.Members.{fewer_left}
use Rattle.rows.specs.Table.{table}
use Rattle.claims.proofs.Marking.{walk_start, walk_layer, walk_member, walk_next, walk_end}
use Rattle.claims.proofs.mark_timed.Goals as goal

pub loop-left-init : goal.loop-left-init
loop-left-init c = walk_start _ _ _ _ c.ranges.layers.fits

pub row_at-row-requires : goal.row_at-row-requires
row_at-row-requires c =
    let loop = c.loop-left in
    let more = c.loop-left-test.true in
    (c.requires.0.sorted, walk_layer _ _ _ _ _ _ loop.invariant more _ (c.from-layer.ensures ∙ c.lowest.ensures), c.requires.0.rising _ (walk_member _ _ _ _ _ _ loop.invariant more _ (c.from-layer.ensures ∙ c.lowest.ensures)))

pub mark-requires : goal.mark-requires
mark-requires c = omega (arith, c.loop-left.invariant.as_long, c.requires.1)

pub loop-left-smaller : goal.loop-left-smaller
loop-left-smaller c =
    let left = c.loop-left.left in
    subst (λ (s : ℕ). length (members_of s) < length (members_of left)) (sym c.rest-left.ensures) (fewer_left left c.loop-left.invariant.within c.loop-left-test.true)

pub loop-left-preserved : goal.loop-left-preserved
loop-left-preserved c =
    let a = c.args in
    let pre = c.requires in
    let loop = c.loop-left in
    let more = c.loop-left-test.true in
    let t = table a.indices.now a.decodings.now [] in
    rw (c.mark.ensures, c.rest-left.ensures)
    (walk_next t a.layers a.time a.marks.now loop.left loop.marks loop.invariant more _ (c.from-layer.ensures ∙ c.lowest.ensures) pre.1
    (pre.0.rising _ (walk_member t a.layers a.time a.marks.now loop.left loop.marks loop.invariant more _ (c.from-layer.ensures ∙ c.lowest.ensures))) _ c.row_at-row.ensures)

pub shape_of-marks : goal.shape_of-marks
shape_of-marks c = c.loop-left.invariant.as_long

pub returns : goal.returns
returns c = walk_end _ _ _ _ _ _ c.loop-left.invariant c.loop-left-test.false
