-- A loop that the 2015 reading accepts and that lists more than 8 layers somewhere: the 2015 reading before W-206 refuses it with 10 alone, and the 2009
-- reading before it accepts it.
-- Assumes nothing.
use Rattle.std.specs.Prelude.{Ok}
use Prim.Native.Nat.{ℕ, ◌≤◌, ◌<◌}
use mathlib.Core.Bool.{Bool, true, false, true≢false}
use mathlib.Core.List.{List, ◌∷◌, map, nil≢cons, head-eq_of_cons-eq}
use mathlib.Core.Logic.{◌⊎◌, inl, inr}
use mathlib.Core.Path.{◌≡◌, refl, sym, ◌∙◌, ap, subst}
use native.Mathlib.Omega.{arith}
use borrow.Author.Tests.{lt-ltb, ltb-true}
use lib.Dec.{ltb}
use lib.ListN.{length, get_or, length-map}
use Rattle.combinators.specs.Below.{First, seek, some_at}
use Rattle.combinators.proofs.Seeking.{seek_first, seek_inside}
use Rattle.combinators.specs.Bools.{apart, both_ways}
use Rattle.combinators.specs.Lists.{Nth, nth_inside, nth_get_d, get_d_nth, get_d_map, gather}
use Rattle.framing.specs.Pieces.{Item, Cuts}
use Rattle.vocabulary.specs.declared.LayerIndex.{LayerIndex}
use Rattle.vocabulary.specs.declared.stream_types.Reading.{Reading}
use Rattle.vocabulary.specs.declared.stream_types.Reading.TheVariants.{Edition2009, Edition2015}
use Rattle.extension.specs.declared.ExtensionRecord.{ExtensionRecord}
use Rattle.records.specs.declared.Record.{Record}
use Rattle.records.specs.declared.Record.TheVariants.{NoRecord, Hierarchy, Extension, Implied}
use Rattle.descriptors.specs.Looking.{Kind, Held, held_in}
use Rattle.descriptors.specs.Meaning.{ShowEach, none, one_then, unfit, a_hierarchy, not_4_long, an_extension, without_its_count, not_as_counted, other_extension, no_extension_tag, extension_in_2009, other_tag}
use Rattle.records.specs.Records.{is_layer}
use Rattle.loop_entries.specs.declared.Entry.{Entry}
use Rattle.loop_entries.specs.declared.Stream.{Stream}
use Rattle.es_loop.specs.declared.reader.LoopRead.{LoopRead}
use Rattle.loop_entries.specs.Entries.{es_info_length, stream_of, no_stream, pair_of, marked_stream, marked_streams, entry_of, blank_entry}
use Rattle.loop_faults.specs.Conditions.{record_at}
use Rattle.es_loop.specs.Reading.{accepted as acceptedNow, loop_read}
use Rattle.es_loop.specs.Meaning.{RecordAt, LayerAt, written, implied}
use Rattle.es_loop.specs.Meaning as Loop
use Rattle.es_loop.proofs.Meant.{broken_last, record_there, entry_case, layer_where, answer_meant, answer_only}
use Rattle.loop_layers.specs.Closures.{entries_read}
use Rattle.loop_layers.proofs.Meant.{entries_read_lem}
use Rattle.agreement.proofs.Entries.{accepted_in_2009}
use Rattle.embedding.specs.Before.{MoreThan8, more_than_8, refused, accepted}
use Rattle.embedding.specs.ReadingBefore.{Condition, as_now, embedded_many, Answers, refuses, accepts}
use Rattle.embedding.specs.Changed.{TenAlone, As2009, LongLists}
use Rattle.embedding.proofs.Unique.{one_answer}

-- ---- 10 as a test

abbrev more_than8 : Record → Bool
more_than8 NoRecord = false
more_than8 (Hierarchy h) = false
more_than8 (Extension x) = ltb 8 x.num_embedded_layers
more_than8 Implied = false

is_more : {r : Record} → MoreThan8 r → more_than8 r ≡ true
is_more (more_than_8 {x} h) = lt-ltb 8 x.num_embedded_layers h

more_is : (r : Record) → more_than8 r ≡ true → MoreThan8 r
more_is NoRecord e = apart e
more_is (Hierarchy h) e = apart e
more_is (Extension x) e = more_than_8 (ltb-true 8 x.num_embedded_layers e)
more_is Implied e = apart e

a_layer : {r : Record} → MoreThan8 r → is_layer r ≡ true
a_layer (more_than_8 h) = refl

-- ---- a loop that is accepted, as it is cut into entries

record Sound (reading : Reading) (bytes : List ℕ) (read : LoopRead) : Type 0 where
  items : List Item
  short : length bytes ≤ 1008
  cuts : Cuts 5 es_info_length bytes items
  nothing_applies : (n k : ℕ) → Loop.Condition reading items n k → ⊥
  is_read : read ≡ acceptedNow (marked_streams (map (stream_of reading) items))

sound : {reading : Reading} {bytes : List ℕ} {read : LoopRead} → Loop.Answers reading bytes read → read.outcome ≡ Ok tt → Sound reading bytes read
sound (Loop.too_long_lem h) e = let z : ◌≡◌ {A = ℕ} 0 1 = cc in absurd (omega arith)
sound (Loop.refuses short cuts at-k lower earlier) e = let z : ◌≡◌ {A = ℕ} 0 1 = cc in absurd (omega arith)
sound (Loop.accepts {entries} short cuts no-condition) e =
    record { items = entries; short = short; cuts = cuts; nothing_applies = no-condition; is_read = refl }

-- ---- the 2015 reading

module _ (reading : Reading) (bytes : List ℕ) (items : List Item) (cuts : Cuts 5 es_info_length bytes items) where
  abbrev all : List Stream
  all = marked_streams (map (stream_of reading) items)

  -- what lists more than 8 is written
  by_layer : {k t : ℕ} {r : Record} {layers : List LayerIndex} → LayerAt reading items k t r layers → MoreThan8 r → Condition reading items 10 k
  by_layer (written l) w = embedded_many l w
  by_layer (implied views s v none_held) w = apart (is_more w)

  long_at : (k : ℕ) → k < length items → MoreThan8 (record_at all k) → Condition reading items 10 k
  long_at k h long =
      layer_where reading items (broken_last cuts) (entry_case reading items (broken_last cuts) k h) (a_layer long) (λ t layers l. by_layer l long)

  now_or_10 : {n k : ℕ} → Condition reading items n k → Loop.Condition reading items n k ⊎ ((n ≡ 10) × MoreThan8 (record_at all k))
  now_or_10 (as_now c) = inl c
  now_or_10 (embedded_many l w) = inr (refl, subst MoreThan8 (sym (record_there reading items l)) w)

-- the entries of an accepted loop
same_entries : (streams others : List Stream) → acceptedNow streams ≡ acceptedNow others → map entry_of streams ≡ map entry_of others
same_entries streams others e = sym (entries_read_lem streams) ∙ ap entries_read e ∙ entries_read_lem others

module _ (bytes : List ℕ) (items : List Item) (short : length bytes ≤ 1008) (cuts : Cuts 5 es_info_length bytes items)
    (nothing : (n k : ℕ) → Loop.Condition Edition2015 items n k → ⊥) where
  abbrev streams : List Stream
  streams = marked_streams (map (stream_of Edition2015) items)

  abbrev entries : List Entry
  entries = map entry_of streams

  each_stream : length streams ≡ length items
  each_stream = length-map (map (stream_of Edition2015) items) (marked_stream (pair_of (map (stream_of Edition2015) items))) ∙ length-map items (stream_of Edition2015)

  as_many : length entries ≡ length items
  as_many = length-map streams entry_of ∙ each_stream

  -- whether an entry lists more than 8
  abbrev test : ℕ → Bool
  test k = more_than8 (get_or entries k blank_entry).«record»

  same_record : (k : ℕ) → k < length items → (get_or entries k blank_entry).«record» ≡ record_at streams k
  same_record k h =
      ap (λ (e : Entry). e.«record») (get_d_map entry_of blank_entry (get_d_nth streams k no_stream (rw each_stream h)))

  first_long : {k : ℕ} {e : Entry} → Nth entries k e → MoreThan8 e.«record» → TenAlone bytes entries
  first_long {k} {e} n long = go (seek test (length entries)) (seek_first test (length entries)) inside
    where
      here : test k ≡ true
      here = ap (λ (x : Entry). more_than8 x.«record») (nth_get_d blank_entry n) ∙ is_more long

      inside : seek test (length entries) < length entries
      inside = seek_inside test (length entries) (some_at test (length entries) k (nth_inside n) here)

      go : (place : ℕ) → First test (length entries) place → place < length entries → TenAlone bytes entries
      go place found within =
          let at_place : test place ≡ true = found.found within in
          let below : place < length items = rw (← as_many) within in
          let more : MoreThan8 (record_at streams place) = subst MoreThan8 (same_record place below) (more_is (get_or entries place blank_entry).«record» at_place) in
          let ten : Answers Edition2015 bytes (refused 10 place) =
          refuses short cuts (long_at Edition2015 bytes items cuts place below more)
          (λ m j l c. lower m j l (now_or_10 Edition2015 bytes items cuts c))
          (λ j l c. earlier j l (now_or_10 Edition2015 bytes items cuts c)) in
          record {
            place = place;
            first = record {
              entry = get_or entries place blank_entry;
              here = get_d_nth entries place blank_entry within;
              long = more_is (get_or entries place blank_entry).«record» at_place;
              earlier = λ j e l m w. both_ways (ap (λ (x : Entry). more_than8 x.«record») (nth_get_d blank_entry m) ∙ is_more w) (found.before j l);
            };
            ten = ten;
            nothing_else = λ answer a. one_answer Edition2015 bytes a ten;
          }
        where
          lower : (m j : ℕ) → m < 10 → Loop.Condition Edition2015 items m j ⊎ ((m ≡ 10) × MoreThan8 (record_at streams j)) → ⊥
          lower m j l (inl c) = nothing m j c
          lower m j l (inr w) = let e = w.0 in absurd (omega arith)

          earlier : (j : ℕ) → j < place → Loop.Condition Edition2015 items 10 j ⊎ (◌≡◌ {A = ℕ} 10 10 × MoreThan8 (record_at streams j)) → ⊥
          earlier j l (inl c) = nothing 10 j c
          earlier j l (inr w) =
              let h : j < length items = (let i : place < length items = rw (← as_many) within in omega arith) in
              both_ways (ap more_than8 (same_record j h) ∙ is_more w.1) (found.before j l)

ten_alone : {bytes : List ℕ} (streams : List Stream) → Loop.Answers Edition2015 bytes (acceptedNow streams) → {k : ℕ} {e : Entry}
    → Nth (map entry_of streams) k e → MoreThan8 e.«record» → TenAlone bytes (map entry_of streams)
ten_alone {bytes} streams answer {k} {e} n long =
    let s = sound answer refl in
    let same : map entry_of streams ≡ map entry_of (marked_streams (map (stream_of Edition2015) s.items)) = same_entries streams (marked_streams (map (stream_of Edition2015) s.items)) s.is_read in
    subst (TenAlone bytes) (sym same)
    (first_long bytes s.items s.short s.cuts s.nothing_applies (subst (λ (es : List Entry). Nth es k e) same n) long)

-- ---- the 2009 reading: it skips every extension

abbrev is_extension : Record → Bool
is_extension NoRecord = false
is_extension (Hierarchy h) = false
is_extension (Extension x) = true
is_extension Implied = false

no_extension : {items : List Item} {kinds : List Kind} {x : ExtensionRecord} {layers : List LayerIndex} {others : List Held}
    → ShowEach Edition2009 items kinds → gather held_in kinds ≡ record { held = Extension x; layers = layers } ∷ others → ⊥
no_extension none e = nil≢cons e
no_extension (one_then unfit rest) e = no_extension rest e
no_extension (one_then (a_hierarchy t l) rest) e = true≢false (sym (ap (λ (h : Held). is_extension h.held) (head-eq_of_cons-eq e)))
no_extension (one_then (not_4_long t l) rest) e = no_extension rest e
no_extension (one_then (an_extension y t l) rest) e = let z : ◌≡◌ {A = ℕ} 0 1 = cc in absurd (omega arith)
no_extension (one_then (without_its_count y t l) rest) e = no_extension rest e
no_extension (one_then (not_as_counted y t l m) rest) e = no_extension rest e
no_extension (one_then (other_extension t f) rest) e = no_extension rest e
no_extension (one_then (no_extension_tag t) rest) e = no_extension rest e
no_extension (one_then (extension_in_2009 y t) rest) e = no_extension rest e
no_extension (one_then (other_tag t f) rest) e = no_extension rest e

never_10 : {items : List Item} {k t : ℕ} {r : Record} {layers : List LayerIndex} → RecordAt Edition2009 items k t r layers → MoreThan8 r → ⊥
never_10 l (more_than_8 h) = no_extension l.descriptors.shown l.first

as_2009 : {bytes : List ℕ} (streams : List Stream) → Loop.Answers Edition2015 bytes (acceptedNow streams) → As2009 bytes
as_2009 {bytes} streams answer = go (sound (answer_meant Edition2009 bytes) (accepted_in_2009 bytes (sym (ap (λ (r : LoopRead). r.outcome) (answer_only Edition2015 bytes answer)))))
  where
    go : Sound Edition2009 bytes (loop_read Edition2009 bytes) → As2009 bytes
    go s =
        let before : Answers Edition2009 bytes (accepted (marked_streams (map (stream_of Edition2009) s.items))) = accepts s.short s.cuts (λ n k c. neither c) in
        record {
          streams = marked_streams (map (stream_of Edition2009) s.items);
          now_accepted = Loop.accepts s.short s.cuts s.nothing_applies;
          before_accepted = before;
          nothing_else = λ other a. one_answer Edition2009 bytes a before;
        }
      where
        neither : {n k : ℕ} → Condition Edition2009 s.items n k → ⊥
        neither {n} {k} (as_now c) = s.nothing_applies n k c
        neither (embedded_many l w) = never_10 l w

pub long_lists : LongLists
long_lists = record { in_2015 = ten_alone; in_2009 = as_2009 }
