-- WHAT WRITING A STEREO SET MEANS, in the words of W-211: the bytes, and the answer with what the buffer then holds. (25 is tested before, by whoever has the numbers.)
-- proofs/Meant.antt has the law that joins this to what is computed: the computed answer has this meaning, and no other answer has it.
-- Assumes nothing.
use Rattle.std.specs.Prelude.{ℕ, ◌+◌, ◌≤◌, ◌<◌, ◌≡◌, List, [], ◌∷◌, ◌++◌, length, drop, Err, Ok}
use Rattle.syntax.specs.Named.{WrittenBy}
use Rattle.syntax.specs.Filled.{Filled, Writes}
use Rattle.vocabulary.specs.declared.refusal.Refusal.{Refusal}
use Rattle.vocabulary.specs.declared.refusal.Refusal.TheVariants.{LoopTooLong, NoRoom, NotStereoSet, RangesMeet}
use Rattle.vocabulary.specs.Refusals.{number_of, place_of}
use Rattle.loop_entries.specs.declared.Entry.{Entry}
use Rattle.loop_writer.specs.Answer.{Written}
use Rattle.loop_writer.specs.Layout.{entry_head_table}
use Rattle.loop_writer.specs.Meaning.{WritesEntries, Condition}
use Rattle.loop_writer.specs.Meaning as Loop
use Rattle.mvc_extension.specs.declared.MvcExtension.{MvcExtension}
use Rattle.mvc_extension.specs.Ranges.{WrongRanges}
use Rattle.mvc_descriptors.specs.Tables.{mvc_extension_tables}
use Rattle.stereo_set.specs.Two.{LayerAt, LayerOf, TwoLayers}

-- THE BYTES. 'an entry has its hierarchy descriptor, if any, then tag 49': what the loop writer writes behind its head of 5 bytes, then these tables, and before both a head in which
-- ES_info_length counts both.
pub data WritesWith (e : Entry) (extra : List Filled) : List ℕ → Type 0 where
  with_more : (plain info : List ℕ) {head more : List ℕ} → Loop.WritesEntry e (plain ++ info) → length plain ≡ 5 → Writes extra more
      → (let table : Filled = entry_head_table e.stream_type e.pid (length (info ++ more)) in WrittenBy table.table table.given head)
      → WritesWith e extra (head ++ (info ++ more))

module _ (x y : MvcExtension) where
  -- the base is given the first descriptor, the other layer the second, and what is no layer none
  pub data WritesEntry (e : Entry) : List ℕ → Type 0 where
    the_base : {bytes : List ℕ} → LayerOf (e ∷ []) 0 0x1B 0 [] e → WritesWith e (mvc_extension_tables x) bytes → WritesEntry e bytes
    the_second : {bytes : List ℕ} → LayerOf (e ∷ []) 0 0x20 1 (0 ∷ []) e → WritesWith e (mvc_extension_tables y) bytes → WritesEntry e bytes
    no_layer_lem : {bytes : List ℕ} → (LayerAt (e ∷ []) 0 e → ⊥) → WritesWith e [] bytes → WritesEntry e bytes

  pub data WritesSet : List Entry → List ℕ → Type 0 where
    nothing : WritesSet [] []
    entry_then : {e : Entry} {es : List Entry} {bytes rest : List ℕ} → WritesEntry e bytes → WritesSet es rest → WritesSet (e ∷ es) (bytes ++ rest)

  -- what the loop writer does not refuse, 'sizes with the two descriptors, 20 bytes more'
  pub record Sound (entries : List Entry) : Type 0 where
    pub few : length entries ≤ 201
    pub loop : List ℕ
    pub written : WritesEntries entries loop
    pub short : length loop + 20 ≤ 1008
    pub none : (n k : ℕ) → Condition entries n k → ⊥

  -- THE ANSWER, and what the buffer then holds: on a refusal what it held, and on acceptance the bytes, and beyond them what it held.
  pub data Answers (entries : List Entry) (old : List ℕ) : Written → List ℕ → Type 0 where
    -- 'the loop writer's numbers': 1
    too_many : 201 < length entries → Answers entries old (Err LoopTooLong) old
    too_long_lem : {loop : List ℕ} → WritesEntries entries loop → 1008 < length loop + 20 → Answers entries old (Err LoopTooLong) old
    -- 3 and 6 to 9: the lowest that applies, at its earliest place
    refuses : {loop : List ℕ} {refusal : Refusal} → length entries ≤ 201 → WritesEntries entries loop → length loop + 20 ≤ 1008
        → Condition entries (number_of refusal) (place_of refusal) → ((m j : ℕ) → m < number_of refusal → Condition entries m j → ⊥)
        → ((j : ℕ) → j < place_of refusal → Condition entries (number_of refusal) j → ⊥) → Answers entries old (Err refusal) old
    -- 44
    not_the_two : Sound entries → ((base second : Entry) → TwoLayers entries base second → ⊥) → Answers entries old (Err NotStereoSet) old
    -- 46
    wrong_ranges_lem : {base second : Entry} → Sound entries → TwoLayers entries base second → WrongRanges x y → Answers entries old (Err RangesMeet) old
    -- 17 'last'
    no_room : {base second : Entry} {bytes : List ℕ} → Sound entries → TwoLayers entries base second → (WrongRanges x y → ⊥) → WritesSet entries bytes
        → length old < length bytes → Answers entries old (Err NoRoom) old
    -- the number of bytes written
    accepts : {base second : Entry} {bytes : List ℕ} → Sound entries → TwoLayers entries base second → (WrongRanges x y → ⊥) → WritesSet entries bytes
        → length bytes ≤ length old → Answers entries old (Ok (length bytes)) (bytes ++ drop (length bytes) old)
