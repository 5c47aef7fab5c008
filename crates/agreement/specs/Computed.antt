-- DEMAND 3 OF WHAT IS COMPUTED, as the call `import` promises it: the layers and the answer in a reading, and that it always refuses with 11 or 12.
-- The laws stand in proofs/Computed.antt: `identical_answer` and `always_refused`.
-- Assumes nothing.
use Rattle.std.specs.Prelude.{ℕ, ◌≡◌, List, Err}
use Rattle.vocabulary.specs.declared.stream_types.Reading.{Reading}
use Rattle.vocabulary.specs.declared.stream_types.Reading.TheVariants.{Edition2009}
use Rattle.vocabulary.specs.declared.refusal.Refusal.{Refusal}
use Rattle.closure.specs.declared.Layers.{Layers}
use Rattle.loop_layers.specs.Closures.{loop_closure}
use Rattle.loop_layers.specs.Layers.{layers_of}
use Rattle.join_answers.specs.Answer.{Joined}
use Rattle.rows.specs.Table.{Table}
use Rattle.unit_lists.specs.Sequence.{Lists}
use Rattle.join_answers.specs.Joining.{room_of}
use Rattle.importing.specs.Importing.{import_of, imported_lists}
use Rattle.agreement.specs.Meaning.{Answer, answer_of, NoSet}
use Rattle.agreement.specs.Entries.{entries_in}

-- the layers of a loop's entries
abbrev pub layers_in : Reading → List ℕ → Layers
layers_in reading bytes = layers_of (entries_in reading bytes)

-- the answer of the import for the bytes of a loop
abbrev pub answer_in : Reading → List ℕ → ℕ → Table → Lists → Answer
answer_in reading bytes target t before =
    let joined : Joined = import_of reading bytes target t (room_of before) in
    answer_of (loop_closure reading bytes target) joined (imported_lists reading bytes t joined before)

-- the 2009 reading refuses, with one refusal for every row table and both lists
pub record AlwaysRefused (bytes : List ℕ) (target : ℕ) : Type 0 where
  pub refusal : Refusal
  pub is_11_or_12 : NoSet refusal
  pub always : (t : Table) (before : Lists)
      → answer_in Edition2009 bytes target t before ≡ answer_of (Err refusal) (Err refusal) before
