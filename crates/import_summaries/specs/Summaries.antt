-- WHAT AN IMPORT LEAVES for C: its answer, its three lists, and the summary.
-- Assumes nothing.
use Rattle.recording_imports.specs.Answer.{imported_units, Imported}
use Rattle.std.specs.Prelude.{ℕ, cond, List, [], ◌∷◌, ltb, Err, Ok}
use Rattle.vocabulary.specs.declared.refusal.Refusal.TheVariants.{NoRoom}
use Rattle.closure.specs.declared.Layers.{Layers}
use Rattle.buffers.specs.Buffers.{over}
use Rattle.rows.specs.Table.{Table}
use Rattle.unit_lists.specs.Sequence.{Lists}
use Rattle.recording_imports.specs.declared.Unread.TheVariants.{Refused}
use Rattle.recording_imports.specs.Imports.{lists_with}
use Rattle.packet_answers.specs.Answers.{imported_answer}

-- '17 where .. or `summary` fewer than two'
abbrev pub with_summary : ℕ → Imported → Imported
with_summary room (Ok joined) = cond (ltb room 2) (Err (Refused NoRoom)) (imported_units joined.closure joined.units joined.rows)
with_summary room (Err unread) = Err unread

-- '`summary` receives two numbers: the set of the layer indices that the target rests on, and the number of units.'
abbrev pub summary_after : Imported → List ℕ → List ℕ
summary_after (Ok joined) before = over (joined.closure ∷ joined.units ∷ []) before
summary_after (Err unread) before = before

-- What a call leaves: its answer, and the final content of its three lists and of the summary. The units are over these layers, of this table.
pub record ImportReply : Type 0 where
  pub answer : ℕ
  pub after : Lists
  pub summary : List ℕ

abbrev pub import_reply : Layers → Table → Imported → Lists → List ℕ → ImportReply
import_reply layers t imported before summary =
    record { answer = imported_answer imported; after = lists_with layers t imported before; summary = summary_after imported summary }
