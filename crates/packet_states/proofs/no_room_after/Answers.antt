-- `packet_states::no_room_after` meets its contract: each test picks the case. Assumes nothing.
use borrow.Author.Tests.{eq-eqb, ne_eqb, lt-ltb, le-ltb}
use Rattle.packet_states.proofs.no_room_after.Goals as goal

pub returns-then-no_room-eq1 : goal.returns-then-no_room-eq1
returns-then-no_room-eq1 c = simp (eq-eqb _ _ c.if-no_room-eq1.true)

pub returns-then-room-rows : goal.returns-then-room-rows
returns-then-room-rows c = simp (ne_eqb _ _ c.if-no_room-eq1.false, lt-ltb _ _ c.if-room-rows.true)

pub returns : goal.returns
returns c = simp (ne_eqb _ _ c.if-no_room-eq1.false, le-ltb _ _ c.if-room-rows.false)
