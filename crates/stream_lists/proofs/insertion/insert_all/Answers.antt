-- `stream_lists::insertion::insert_all` meets its contract (Inserting has the turns). The measure is the number of members left. Assumes nothing.
use Prim.Native.Nat.{ℕ, ◌+◌, ◌<◌}
use mathlib.Core.Path.{sym, subst}
use native.Mathlib.Omega.{arith}
use lib.ListN.{length}
use Rattle.sets.specs.Sets.{members_of}
use Rattle.stream_lists.proofs.Inserting.{Inserting, inserting_start, inserting_end, inserting_less, inserting_room, inserting_long, inserting_more}
use Rattle.stream_lists.proofs.insertion.insert_all.Goals as goal

pub loop-left-init : goal.loop-left-init
loop-left-init c = inserting_start c.args.members.now c.args.count c.args.place c.args.new c.requires.0 (omega arith)

pub lowest-index-requires : goal.lowest-index-requires
lowest-index-requires c = tt

pub insert-requires : goal.insert-requires
insert-requires c =
    let a = c.args in
    let at = c.loop-left in
    let more = c.loop-left-test.true in
    let room = inserting_room a.members.now a.count a.place a.new c.requires.0 at.members at.end at.at at.left at.invariant more c.requires.1 in
    (room.0, room.1, inserting_long a.members.now a.count a.place a.new c.requires.0 at.members at.end at.at at.left at.invariant more c.requires.2 c.requires.1)

pub rest-left-requires : goal.rest-left-requires
rest-left-requires c = tt

pub overflow_add-end : goal.overflow_add-end
overflow_add-end c =
    let a = c.args in
    let at = c.loop-left in
    let more = c.loop-left-test.true in
    omega (arith, (inserting_room a.members.now a.count a.place a.new c.requires.0 at.members at.end at.at at.left at.invariant more c.requires.1).1)

pub overflow_add-at : goal.overflow_add-at
overflow_add-at c =
    let a = c.args in
    let at = c.loop-left in
    let more = c.loop-left-test.true in
    omega (arith, (inserting_room a.members.now a.count a.place a.new c.requires.0 at.members at.end at.at at.left at.invariant more c.requires.1).0, (inserting_room a.members.now a.count a.place a.new c.requires.0 at.members at.end at.at at.left at.invariant more c.requires.1).1)

pub loop-left-smaller : goal.loop-left-smaller
loop-left-smaller c =
    let a = c.args in
    let at = c.loop-left in
    let more = c.loop-left-test.true in
    subst (λ (n : ℕ). length (members_of n) < length (members_of at.left))
    (sym c.rest-left.ensures)
    (inserting_less a.members.now a.count a.place a.new c.requires.0 at.members at.end at.at at.left at.invariant more)

pub loop-left-preserved : goal.loop-left-preserved
loop-left-preserved c =
    let a = c.args in
    let at = c.loop-left in
    let more = c.loop-left-test.true in
    subst (Inserting a.members.now a.count a.place a.new c.insert.new.members (at.end + 1) (at.at + 1))
    (sym c.rest-left.ensures)
    (inserting_more a.members.now a.count a.place a.new c.requires.0 at.members at.end at.at at.left at.invariant more _ _ c.requires.2 c.requires.1 c.lowest-index.ensures c.insert.ensures)

pub returns : goal.returns
returns c = let a = c.args in inserting_end a.members.now a.count a.place a.new c.requires.0 _ _ _ _ c.loop-left.invariant c.loop-left-test.false
