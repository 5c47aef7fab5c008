-- What is right, in the words of document 01 and of W-204 of document 02, with no word of how it is found: THE ANSWER of joining, 11 to 18 or the units, as
-- one relation (`Answers`, at the end). What it is made of stands in Meaning of the crates `rows` (13, 14), `claims` (heads), `heads` (15, 16, units), `spans` (18)
-- and `unit_lists` (the order of units). `most` is how many rows a table may have: 512, where nobody says more.
-- proofs/Meant.antt has the laws that join this to what is computed: the computed answer has this meaning, and no other answer has it.
-- Assumes nothing.
use Rattle.join_answers.specs.Answer.{joined_units, Joined}
use Rattle.std.specs.Prelude.{ℕ, ◌<◌, List, ◌≡◌, ℤ, length, Err, Ok}
use Rattle.buffers.specs.Buffers.{over}
use Rattle.closure.specs.declared.Layers.{Layers}
use Rattle.closure.specs.Meaning.{Answers as ClosureAnswers}
use Rattle.combinators.specs.Ascending.{Ascending}
use Rattle.vocabulary.specs.declared.refusal.Refusal.{Refusal}
use Rattle.vocabulary.specs.declared.refusal.Refusal.TheVariants.{OutOfRange, TimeOrderBroken, Unpaired, UsedTwice, SpanTooWide, NoRoom}
use Rattle.rows.specs.Table.{Table}
use Rattle.rows.specs.Meaning.{FirstRow, NoRow, WrongShape, RowOutOfRange, BreaksOrder, InOrder}
use Rattle.spans.specs.Meaning.{ClosureRow, SpansTooFar}
use Rattle.heads.specs.Meaning.{NoAssembly, SharesRow}
use Rattle.unit_lists.specs.Meaning.{HeadsInOrder, UnitsOf}
use Rattle.unit_lists.specs.Sequence.{Lists, lists}
use Rattle.join_answers.specs.Joining.{Room, room_of}

-- 17: 'output room too small', where 'each output list, the sizes too, needs one place per closure row'
pub data TooSmall (rows : ℕ) (room : Room) : Type 0 where
  for_numbers : room.numbers < rows → TooSmall rows room
  for_lags : room.lags < rows → TooSmall rows room
  for_sizes : room.sizes < rows → TooSmall rows room

-- The units in their order: how many there are, how many closure rows the table has, 'the row numbers, a lag beside each', and 'its own size' of each.
-- 'On acceptance the room beyond what was written is untouched too.'
pub record Accepted (layers : Layers) (target : ℕ) (t : Table) (before : Lists) (units rows : ℕ) (after : Lists) : Type 0 where
  pub heads : List ℕ
  pub in_order : HeadsInOrder layers target t heads
  pub number_of_units : units ≡ length heads
  pub closure_rows : List ℕ
  pub all_closure_rows : Ascending (ClosureRow layers target t) closure_rows
  pub number_of_rows : rows ≡ length closure_rows
  pub enough_room : TooSmall rows (room_of before) → ⊥
  pub numbers : List ℕ
  pub lags : List ℤ
  pub sizes : List ℕ
  pub units_of_heads : UnitsOf layers t heads sizes numbers lags
  pub lists_hold : after ≡ lists (over numbers before.numbers) (over lags before.lags) (over sizes before.sizes)

-- THE ANSWER OF A TABLE over the closure of a target, to lists that hold what `before` says, and what they hold after it: 'the lowest number that
-- applies, at the earliest place', where 'every output buffer is untouched', or the units; but 18 comes 'after 16 and before 17'. Each number is answered where none that
-- comes before it applies.
pub data AnswersOver (most : ℕ) (layers : Layers) (target closure : ℕ) (t : Table) (before : Lists) : Joined → Lists → Type 0 where
  -- 13: 'row columns of unequal length, more than 512 rows (place 0), or a row out of range'
  wrong_shape_lem : WrongShape most t → AnswersOver most layers target closure t before (Err (OutOfRange 0)) before
  out_of_range_lem : {row : ℕ} → (WrongShape most t → ⊥) → FirstRow t (RowOutOfRange t) row
      → AnswersOver most layers target closure t before (Err (OutOfRange row)) before
  -- 14: 'time order broken in a closure layer'
  order_broken : {row : ℕ} → (WrongShape most t → ⊥) → NoRow t (RowOutOfRange t) → FirstRow t (BreaksOrder layers target t) row
      → AnswersOver most layers target closure t before (Err (TimeOrderBroken row)) before
  -- 15: a head has no assembly
  no_assembly : {row : ℕ} → InOrder most layers target t → FirstRow t (NoAssembly layers target t) row
      → AnswersOver most layers target closure t before (Err (Unpaired row)) before
  -- 16: 'the earliest head in the table that shares a row with a head before it'
  in_two_units : {row : ℕ} → InOrder most layers target t → NoRow t (NoAssembly layers target t) → FirstRow t (SharesRow layers target t) row
      → AnswersOver most layers target closure t before (Err (UsedTwice row)) before
  -- 18: 'when the distances of closure rows from that first row span 2^32 or more'
  too_far_apart : InOrder most layers target t → NoRow t (NoAssembly layers target t) → NoRow t (SharesRow layers target t)
      → SpansTooFar layers target t → AnswersOver most layers target closure t before (Err SpanTooWide) before
  -- 17: 'output room too small'
  no_room : {rows : List ℕ} → InOrder most layers target t → NoRow t (NoAssembly layers target t) → NoRow t (SharesRow layers target t)
      → (SpansTooFar layers target t → ⊥) → Ascending (ClosureRow layers target t) rows → TooSmall (length rows) (room_of before)
      → AnswersOver most layers target closure t before (Err NoRoom) before
  -- accepted: the closure, 'the number of units', and how many places of the lists they fill
  joined : {units rows : ℕ} {after : Lists} → InOrder most layers target t → NoRow t (SharesRow layers target t) → (SpansTooFar layers target t → ⊥)
      → Accepted layers target t before units rows after → AnswersOver most layers target closure t before (joined_units closure units rows) after

-- THE ANSWER OF JOINING, in two steps: 'the target 11 and 12, joining 13 to 17 after these', and 18.
pub data Answers (most : ℕ) (layers : Layers) (target : ℕ) (t : Table) (before : Lists) : Joined → Lists → Type 0 where
  -- 11 and 12: as the closure has them
  no_closure : {refusal : Refusal} → ClosureAnswers layers target (Err refusal) → Answers most layers target t before (Err refusal) before
  -- 13 to 18, or the units: the table over the closure
  over_closure : {closure : ℕ} {answer : Joined} {after : Lists} → ClosureAnswers layers target (Ok closure)
      → AnswersOver most layers target closure t before answer after → Answers most layers target t before answer after
