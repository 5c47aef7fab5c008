-- `thoquenry_pieces::room_told` meets its contract. Assumes nothing.
use borrow.Author.Tests.{eq-eqb, ne_eqb}
use Rattle.thoquenry_pieces.proofs.room_told.Goals as goal

pub returns-then-no_room-eq1 : goal.returns-then-no_room-eq1
returns-then-no_room-eq1 c = simp (eq-eqb _ _ c.if-no_room-eq1.true)

pub returns : goal.returns
returns c = simp (ne_eqb _ _ c.if-no_room-eq1.false)
