-- WHAT IS RIGHT, in the words of document 01: the answer of the whole import, and what the three lists hold after it. Loop reading uses 1 to 9,
-- 'the target 11 and 12, joining 13 to 17 after these', and 18.
-- proofs/Meant.antt has the laws that join this to what is computed: the computed answer has this meaning, and no other answer has it.
-- Assumes nothing.
use Rattle.std.specs.Prelude.{ℕ, List, map, Err}
use Rattle.vocabulary.specs.declared.stream_types.Reading.{Reading}
use Rattle.vocabulary.specs.declared.refusal.Refusal.{Refusal}
use Rattle.loop_entries.specs.declared.Stream.{Stream}
use Rattle.loop_entries.specs.Entries.{entry_of}
use Rattle.es_loop.specs.Reading.{refused_with, accepted}
use Rattle.es_loop.specs.Meaning as Loop
use Rattle.closure.specs.declared.Layers.{Layers}
use Rattle.loop_layers.specs.Meaning.{LayersOf}
use Rattle.join_answers.specs.Answer.{Joined}
use Rattle.rows.specs.Table.{Table, most_rows}
use Rattle.unit_lists.specs.Sequence.{Lists}
use Rattle.join_answers.specs.Meaning as Joining

-- THE ANSWER to the bytes of a loop, a target, a row table and three lists, with what the lists hold after it: 'the answer is the closure with
-- the answer of joining, or the refusal with its place'.
pub data Answers (reading : Reading) (bytes : List ℕ) (target : ℕ) (t : Table) (before : Lists) : Joined → Lists → Type 0 where
  -- 1 to 9: a loop that is refused gives its refusal, and 'every output buffer is untouched'
  loop_refused : {refusal : Refusal} → Loop.Answers reading bytes (refused_with refusal) → Answers reading bytes target t before (Err refusal) before
  -- 11 to 18, or the closure with its units: the answer of joining in the layers of the loop's entries, for a table of at most 512 rows
  loop_accepted : (streams : List Stream) {layers : Layers} {answer : Joined} {after : Lists} → Loop.Answers reading bytes (accepted streams)
      → LayersOf (map entry_of streams) layers → Joining.Answers most_rows layers target t before answer after
      → Answers reading bytes target t before answer after
