-- WHAT WRITING A LOOP MEANS, in the words of document 01 and of W-201: the bytes, the condition of each number at an entry, and the answer with what the buffer then
-- holds. proofs/Meant.antt has the law that joins this to what is computed: the computed answer has this meaning, and no other answer has it.
-- Assumes nothing.
use Rattle.std.specs.Prelude.{ℕ, ◌≤◌, ◌<◌, ◌≡◌, true, false, List, [], ◌∷◌, ◌++◌, length, take, drop, Err, Ok}
use Rattle.combinators.specs.Lists.{Nth}
use Rattle.syntax.specs.Table.{Fit}
use Rattle.syntax.specs.Named.{WrittenBy}
use Rattle.syntax.specs.Filled.{Filled, values_in, Writes}
use Rattle.vocabulary.specs.declared.refusal.Refusal.{Refusal}
use Rattle.vocabulary.specs.declared.refusal.Refusal.TheVariants.{LoopTooLong, NoRoom, TooWide}
use Rattle.vocabulary.specs.Refusals.{number_of, place_of}
use Rattle.hierarchy.specs.declared.HierarchyRecord.{HierarchyRecord}
use Rattle.records.specs.declared.Record.TheVariants.{NoRecord, Hierarchy, Implied}
use Rattle.records.specs.Records.{is_layer, index_of, record_tables}
use Rattle.implied.specs.Rule.{is_view}
use Rattle.judging.specs.Meaning.{has_descriptor, TypeNotAllowed, WrongFlags, WrongEmbedded}
use Rattle.loop_entries.specs.declared.Entry.{Entry}
use Rattle.loop_writer.specs.Layout.{entry_head_table, entry_tables}
use Rattle.loop_writer.specs.Answer.{Written}

-- THE BYTES. An entry: its head, in which ES_info_length counts the descriptor bytes, and the descriptor, if any: 'the writer writes no
-- descriptor for these implied layers'.
pub data WritesEntry (e : Entry) : List ℕ → Type 0 where
  head_then : {head info : List ℕ} → (let table : Filled = entry_head_table e.stream_type e.pid (length info) in WrittenBy table.table table.given head)
      → Writes (record_tables e.«record» e.embedded) info → WritesEntry e (head ++ info)

-- A loop: its entries in order.
pub data WritesEntries : List Entry → List ℕ → Type 0 where
  nothing : WritesEntries [] []
  entry_then : {e : Entry} {es : List Entry} {bytes rest : List ℕ} → WritesEntry e bytes → WritesEntries es rest → WritesEntries (e ∷ es) (bytes ++ rest)

-- 25: 'a value to be written is too wide for its field': some table of some entry cannot hold its values. Else every one can.
pub data SomeTooWide (entries : List Entry) : Type 0 where
  too_wide_at : {k i : ℕ} {e : Entry} {f : Filled} → Nth entries k e → Nth (entry_tables e) i f → (Fit f.table (values_in f) → ⊥) → SomeTooWide entries

abbrev pub EachFits : List Entry → Type 0
EachFits entries = (k i : ℕ) (e : Entry) (f : Filled) → Nth entries k e → Nth (entry_tables e) i f → Fit f.table (values_in f)

-- W-201: 'exactly one' entry of this type, and it has no hierarchy descriptor.
pub record OnlyView (entries : List Entry) (t : ℕ) : Type 0 where
  pub place : ℕ
  pub entry : Entry
  pub stands : Nth entries place entry
  pub type : entry.stream_type ≡ t
  pub alone : (j : ℕ) (other : Entry) → Nth entries j other → other.stream_type ≡ t → j ≡ place
  pub plain : (h : HierarchyRecord) → entry.«record» ≡ Hierarchy h → ⊥

-- 'When a loop holds exactly one 0x1B and exactly one 0x20 and neither has a hierarchy descriptor'
pub record ImpliedViews (entries : List Entry) : Type 0 where
  pub first : OnlyView entries 0x1B
  pub second : OnlyView entries 0x20

-- The table 'Refusal numbers', 3 and 6 to 9: the condition of each number, and the entry that is its place.
module _ (entries : List Entry) where
  pub data Condition : ℕ → ℕ → Type 0 where
    -- 3: a PID seen in an earlier entry
    pid_seen : {j k : ℕ} {e e' : Entry} → j < k → Nth entries j e → Nth entries k e' → e.pid ≡ e'.pid → Condition 3 k
    -- 6: type not allowed on this stream, or an extension on 0x1B, 0x1F, 0x20; also a record on a stream type the 2015 reading doesn't know
    type_wrong : {k : ℕ} {e : Entry} → Nth entries k e → has_descriptor e.«record» ≡ true → TypeNotAllowed false e.stream_type e.«record» → Condition 6 k
    -- also an 'entry whose implied mark isn't what this rule gives': a mark where it gives none, and none where it gives one
    mark_not_given : {k : ℕ} {e : Entry} → Nth entries k e → e.«record» ≡ Implied → (ImpliedViews entries → is_view e.stream_type ≡ true → ⊥) → Condition 6 k
    mark_missing : {k : ℕ} {e : Entry} → Nth entries k e → e.«record» ≡ NoRecord → ImpliedViews entries → is_view e.stream_type ≡ true → Condition 6 k
    -- 7: type 9 with a flag at 0, or more than one flag at 0 and type not 8
    flags_wrong : {k : ℕ} {e : Entry} → Nth entries k e → WrongFlags e.«record» → Condition 7 k
    -- 8: a layer index held by an earlier layer, 'also when an implied index meets a written one, at the later entry'
    index_held : {j k : ℕ} {e e' : Entry} → j < k → Nth entries j e → Nth entries k e' → is_layer e.«record» ≡ true → is_layer e'.«record» ≡ true
        → index_of e.stream_type e.«record» ≡ index_of e'.stream_type e'.«record» → Condition 8 k
    -- 9: an embedded index not below the layer's own, or listed twice
    embedded_wrong : {k : ℕ} {e : Entry} → Nth entries k e → WrongEmbedded e.stream_type e.«record» e.embedded → Condition 9 k

-- The answer, and what the buffer then holds, where the entries are the first `count` of the array: on a refusal what it held, and on acceptance the
-- bytes, and beyond them what it held.
pub data Answers (count : ℕ) (array : List Entry) (old : List ℕ) : Written → List ℕ → Type 0 where
  -- 25 before all else
  too_wide_lem : SomeTooWide (take count array) → Answers count array old (Err TooWide) old
  -- 1: more entries than 1,008 bytes can hold, or more bytes
  too_many : EachFits (take count array) → 201 < count → Answers count array old (Err LoopTooLong) old
  too_long_lem : {bytes : List ℕ} → EachFits (take count array) → WritesEntries (take count array) bytes → 1008 < length bytes
      → Answers count array old (Err LoopTooLong) old
  -- the lowest number that applies, at its earliest place
  refuses : {bytes : List ℕ} {refusal : Refusal} → EachFits (take count array) → count ≤ 201 → WritesEntries (take count array) bytes → length bytes ≤ 1008
      → Condition (take count array) (number_of refusal) (place_of refusal)
      → ((m j : ℕ) → m < number_of refusal → Condition (take count array) m j → ⊥)
      → ((j : ℕ) → j < place_of refusal → Condition (take count array) (number_of refusal) j → ⊥)
      → Answers count array old (Err refusal) old
  -- 17: output room too small
  no_room : {bytes : List ℕ} → EachFits (take count array) → count ≤ 201 → WritesEntries (take count array) bytes → length bytes ≤ 1008
      → ((n k : ℕ) → Condition (take count array) n k → ⊥) → length old < length bytes → Answers count array old (Err NoRoom) old
  -- the number of bytes written
  accepts : {bytes : List ℕ} → EachFits (take count array) → count ≤ 201 → WritesEntries (take count array) bytes → length bytes ≤ 1008
      → ((n k : ℕ) → Condition (take count array) n k → ⊥) → length bytes ≤ length old
      → Answers count array old (Ok (length bytes)) (bytes ++ drop (length bytes) old)
