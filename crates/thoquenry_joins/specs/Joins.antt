-- ROWS JOINED TO UNITS over layers that the caller gives, with work space of the library's or of the caller's, and over the layers of a loop's bytes: thq_join,
-- thq_join_long and thq_import.
-- Assumes nothing.
use Rattle.join_answers.specs.Answer.{joined_units, Joined}
use Rattle.std.specs.Prelude.{ℕ, cond, List, [], ◌∷◌, ltb, length, take, Err, None, Ok, Some}
use Rattle.combinators.specs.Padding.{pad_to}
use Rattle.vocabulary.specs.declared.refusal.Refusal.TheVariants.{NoRoom}
use Rattle.closure.specs.declared.Layers.{Layers}
use Rattle.es_loop.specs.Reading.{loop_read}
use Rattle.rows.specs.Table.{Table, most_rows}
use Rattle.buffers.specs.Buffers.{over}
use Rattle.unit_lists.specs.Sequence.{Lists}
use Rattle.join_answers.specs.Joining.{room_of, joined_of, lists_after}
use Rattle.importing.specs.Importing.{layers_read, import_of}
use Rattle.c_answers.specs.Answer.{Asked}
use Rattle.c_answers.specs.Answers.{accepted, refused, not_a_call, asked_for}

-- 'bit i of `present` is 1 when there is a layer of index i, and number i of `embedded` is the set of the indices that this layer names (a number that
-- is not there is the empty set)'
abbrev pub layers_given : ℕ → List ℕ → Layers
layers_given present embedded = record { present = present; embedded = pad_to 64 0 (take 64 embedded) }

-- '17 where .. or `summary` fewer than two'
abbrev pub with_summary : ℕ → Joined → Joined
with_summary room (Ok joined) = cond (ltb room 2) (Err NoRoom) (joined_units joined.closure joined.units joined.rows)
with_summary room (Err refusal) = Err refusal

-- 'Counts the rows of such layers'
abbrev pub joined_answer : Joined → ℕ
joined_answer (Ok joined) = accepted joined.rows
joined_answer (Err refusal) = refused refusal

-- '`summary` receives two numbers: the set of the layer indices that the target rests on, and the number of units.'
abbrev pub summary_after : Joined → List ℕ → List ℕ
summary_after (Ok joined) before = over (joined.closure ∷ joined.units ∷ []) before
summary_after (Err refusal) before = before

-- What a call leaves: its answer, and the final content of its three lists and of the summary.
pub record JoinReply : Type 0 where
  pub answer : ℕ
  pub after : Lists
  pub summary : List ℕ

abbrev pub join_reply : Layers → Table → Joined → Lists → List ℕ → JoinReply
join_reply layers t joined before summary =
    record { answer = joined_answer joined; after = lists_after layers t joined before; summary = summary_after joined summary }

-- Of a table of at most `most` rows: 'Refusals: 11, 12; then 13 ..; then 14 to 16, and 18; then 17'
abbrev pub join_over : ℕ → Layers → ℕ → Table → Lists → List ℕ → JoinReply
join_over most layers target t before summary =
    join_reply layers t (with_summary (length summary) (joined_of most layers target t (room_of before))) before summary

-- thq_join: 'at place 0 for more than 512 rows'
abbrev pub join_call : ℕ → List ℕ → ℕ → Table → Lists → List ℕ → JoinReply
join_call present embedded target t before summary = join_over most_rows (layers_given present embedded) target t before summary

-- thq_join_long: '13 is given at place 0 for more rows than the shortest of them has'
abbrev pub join_long_call : ℕ → ℕ → List ℕ → ℕ → Table → Lists → List ℕ → JoinReply
join_long_call most present embedded target t before summary = join_over most (layers_given present embedded) target t before summary

-- thq_import: 'the layers of a loop's bytes, and the rows joined over them'
abbrev pub import_asked : Asked → List ℕ → ℕ → Table → Lists → List ℕ → JoinReply
import_asked (Some reading) bytes target t before summary =
    join_reply (layers_read (loop_read reading bytes)) t (with_summary (length summary) (import_of reading bytes target t (room_of before))) before summary
import_asked None bytes target t before summary = record { answer = not_a_call; after = before; summary = summary }

abbrev pub import_call : ℕ → List ℕ → ℕ → Table → Lists → List ℕ → JoinReply
import_call reading bytes target t before summary = import_asked (asked_for reading) bytes target t before summary
