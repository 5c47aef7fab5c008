-- WHAT W-206 CHANGED, and what it left. 'Every loop that was accepted keeps its bytes and its answers. A loop written with more than 8 will be refused
-- with 10 by 2015 readers that haven't been updated, and by no other number of the loop reading, where all else is sound.' proofs/Kept.antt and
-- proofs/Long.antt have the proofs.
-- Assumes nothing.
use Rattle.std.specs.Prelude.{ℕ, ◌<◌, List, map, ◌≡◌, Ok}
use Rattle.combinators.specs.Lists.{Nth}
use Rattle.vocabulary.specs.declared.stream_types.Reading.{Reading}
use Rattle.vocabulary.specs.declared.stream_types.Reading.TheVariants.{Edition2009, Edition2015}
use Rattle.loop_entries.specs.declared.Entry.{Entry}
use Rattle.loop_entries.specs.declared.Stream.{Stream}
use Rattle.loop_entries.specs.Entries.{entry_of}
use Rattle.es_loop.specs.Reading.{accepted as acceptedNow}
use Rattle.es_loop.specs.Meaning as Loop
use Rattle.loop_writer.specs.Meaning as Writer
use Rattle.closure.specs.declared.Layers.{Layers}
use Rattle.closure.specs.Meaning as Target
use Rattle.loop_layers.specs.Meaning.{LayersOf}
use Rattle.rows.specs.Table.{Table, most_rows}
use Rattle.unit_lists.specs.Sequence.{Lists}
use Rattle.join_answers.specs.Meaning as Joining
use Rattle.agreement.specs.Meaning.{Answer, Gives}
use Rattle.embedding.specs.Before.{MoreThan8, Told, refused, accepted}
use Rattle.embedding.specs.ReadingBefore as Read
use Rattle.embedding.specs.WritingBefore as Written

-- ---- 'Every loop that was accepted keeps its bytes and its answers.'

-- What a reading of before gave for a loop that it accepted, a target, a row table and three lists: in the layers of the entries that it answered, the
-- closure, and the answer of joining with what the lists then held.
pub record Gave (reading : Reading) (bytes : List ℕ) (target : ℕ) (t : Table) (before : Lists) (a : Answer) : Type 0 where
  pub streams : List Stream
  pub loop_accepted : Read.Answers reading bytes (accepted streams)
  pub layers : Layers
  pub layers_of_loop : LayersOf (map entry_of streams) layers
  pub closure : Target.Answers layers target a.closure
  pub joined : Joining.Answers most_rows layers target t before a.joined a.after

-- Both readings answer the entries that they answered, and give the closure and the import that they gave, the content of the lists included; and the
-- writer writes the bytes that it wrote.
pub record AnswersKept : Type 0 where
  pub entries : {reading : Reading} {bytes : List ℕ} {streams : List Stream} → Read.Answers reading bytes (accepted streams)
      → Loop.Answers reading bytes (acceptedNow streams)
  pub closure_and_import : {reading : Reading} {bytes : List ℕ} {target : ℕ} {t : Table} {before : Lists} {a : Answer}
      → Gave reading bytes target t before a → Gives reading bytes target t before a
  pub bytes_written : {count n : ℕ} {array : List Entry} {old new : List ℕ} → Written.Answers count array old (accepted n) new
      → Writer.Answers count array old (Ok n) new

-- ---- 'A loop written with more than 8 will be refused with 10 by 2015 readers that haven't been updated'

-- The first of these entries that lists more than 8 layers.
pub record FirstLong (entries : List Entry) (k : ℕ) : Type 0 where
  pub entry : Entry
  pub here : Nth entries k entry
  pub long : MoreThan8 entry.«record»
  pub earlier : (j : ℕ) (e : Entry) → j < k → Nth entries j e → MoreThan8 e.«record» → ⊥

-- The 2015 reading of before refuses these bytes with 10, at that entry, and gives no other answer.
pub record TenAlone (bytes : List ℕ) (entries : List Entry) : Type 0 where
  pub place : ℕ
  pub first : FirstLong entries place
  pub ten : Read.Answers Edition2015 bytes (refused 10 place)
  pub nothing_else : (answer : Told (List Stream)) → Read.Answers Edition2015 bytes answer → answer ≡ refused 10 place

-- The 2009 reading of before accepts these bytes as the one of now does, with the same entries, and gives no other answer.
pub record As2009 (bytes : List ℕ) : Type 0 where
  pub streams : List Stream
  pub now_accepted : Loop.Answers Edition2009 bytes (acceptedNow streams)
  pub before_accepted : Read.Answers Edition2009 bytes (accepted streams)
  pub nothing_else : (answer : Told (List Stream)) → Read.Answers Edition2009 bytes answer → answer ≡ accepted streams

-- Of every loop that the 2015 reading of now accepts, and that lists more than 8 layers at some entry:
pub record LongLists : Type 0 where
  pub in_2015 : {bytes : List ℕ} (streams : List Stream) → Loop.Answers Edition2015 bytes (acceptedNow streams) → {k : ℕ} {e : Entry}
      → Nth (map entry_of streams) k e → MoreThan8 e.«record» → TenAlone bytes (map entry_of streams)
  pub in_2009 : {bytes : List ℕ} (streams : List Stream) → Loop.Answers Edition2015 bytes (acceptedNow streams) → As2009 bytes
