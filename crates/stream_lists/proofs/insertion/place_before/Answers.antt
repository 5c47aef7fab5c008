-- `stream_lists::insertion::place_before` meets its contract: the index first, then what goes before it (Inserting). Assumes nothing.
use native.Mathlib.Omega.{arith}
use Rattle.sets.proofs.Members.{members_size}
use Rattle.stream_lists.proofs.Inserting.{ready_first, before_nothing, before_short, before_room, before_inside, before_all}
use Rattle.stream_lists.proofs.insertion.place_before.Goals as goal

pub add-with_index-requires : goal.add-with_index-requires
add-with_index-requires c =
    let a = c.args in
    ready_first a.members.now a.count a.present a.index a.new c.requires

pub returns-then-new-eq0 : goal.returns-then-new-eq0
returns-then-new-eq0 c =
    let a = c.args in
    before_nothing a.members.now a.count a.present a.index a.new c.requires _ _ c.if-new-eq0.true c.add-with_index.ensures.0 c.add-with_index.ensures.1

pub place_of-place-requires : goal.place_of-place-requires
place_of-place-requires c =
    let a = c.args in
    before_short a.members.now a.count a.present a.index a.new c.requires _ _ c.add-with_index.ensures.0 c.add-with_index.ensures.1

pub insert_all-requires : goal.insert_all-requires
insert_all-requires c =
    let a = c.args in
    let added = c.add-with_index in (
      before_inside a.members.now a.count a.present a.index a.new c.requires _ _ added.ensures.0 added.ensures.1 _ c.place_of-place.ensures,
      before_room a.members.now a.count a.present a.index a.new c.requires _ _ added.ensures.0 added.ensures.1,
      (before_short a.members.now a.count a.present a.index a.new c.requires _ _ added.ensures.0 added.ensures.1).1,
    )

pub overflow_add-result : goal.overflow_add-result
overflow_add-result c =
    let a = c.args in
    let added = c.add-with_index in
    omega (arith, before_room a.members.now a.count a.present a.index a.new c.requires _ _ added.ensures.0 added.ensures.1, c.size.ensures, members_size a.new)

pub returns : goal.returns
returns c =
    let a = c.args in
    let added = c.add-with_index in
    before_all a.members.now a.count a.present a.index a.new c.requires _ _ added.ensures.0 added.ensures.1 _ c.place_of-place.ensures _ _
    c.size.ensures c.insert_all.ensures
