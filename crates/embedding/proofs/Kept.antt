-- Every loop that was accepted keeps its bytes and its answers: no number of now applies where none of before did.
-- Assumes nothing.
use Rattle.std.specs.Prelude.{Ok}
use Prim.Native.Nat.{ℕ}
use mathlib.Core.List.{List}
use Rattle.vocabulary.specs.declared.stream_types.Reading.{Reading}
use Rattle.loop_entries.specs.declared.Entry.{Entry}
use Rattle.loop_entries.specs.declared.Stream.{Stream}
use Rattle.es_loop.specs.Reading.{accepted as acceptedNow}
use Rattle.es_loop.specs.Meaning as Loop
use Rattle.loop_writer.specs.Meaning as Writer
use Rattle.loop_layers.specs.Meaning as LoopClosure
use Rattle.rows.specs.Table.{Table}
use Rattle.unit_lists.specs.Sequence.{Lists}
use Rattle.importing.specs.Meaning as Import
use Rattle.agreement.specs.Meaning.{Answer, Gives}
use Rattle.embedding.specs.Before.{accepted}
use Rattle.embedding.specs.ReadingBefore as Read
use Rattle.embedding.specs.WritingBefore as Written
use Rattle.embedding.specs.Changed.{Gave, AnswersKept}

entries_kept : {reading : Reading} {bytes : List ℕ} {streams : List Stream} → Read.Answers reading bytes (accepted streams)
    → Loop.Answers reading bytes (acceptedNow streams)
entries_kept (Read.accepts short cuts none) = Loop.accepts short cuts (λ n k now. none n k (Read.as_now now))

given_still : {reading : Reading} {bytes : List ℕ} {target : ℕ} {t : Table} {before : Lists} {a : Answer}
    → Gave reading bytes target t before a → Gives reading bytes target t before a
given_still gave =
    let read = entries_kept gave.loop_accepted in
    record {
      right_closure = LoopClosure.loop_accepted gave.streams read gave.layers_of_loop gave.closure;
      right_import = Import.loop_accepted gave.streams read gave.layers_of_loop gave.joined;
    }

bytes_kept : {count n : ℕ} {array : List Entry} {old new : List ℕ} → Written.Answers count array old (accepted n) new
    → Writer.Answers count array old (Ok n) new
bytes_kept (Written.accepts each few bytes short none room) = Writer.accepts each few bytes short (λ n k now. none n k (Written.as_now now)) room

pub answers_kept : AnswersKept
answers_kept = record { entries = entries_kept; closure_and_import = given_still; bytes_written = bytes_kept }
