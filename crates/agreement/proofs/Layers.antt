-- THE LAYERS IN THE 2009 READING of a loop that the 2015 reading accepts: exactly those of its layers whose stream has a 2009 stream type,
-- each with the same embedded layers.
-- Assumes nothing.
use Rattle.std.specs.Prelude.{ℕ, ◌<◌, ◌≡◌, refl, Bool, true, false, cond, ◌&&◌, ◌||◌, List, [], ◌↔◌, eqb, ltb, get_or}
use Rattle.std.proofs.Common.{sym, ◌∙◌, ap, ap₂, subst, true≢false, arith, lt-ltb, eqb-true}
use Rattle.std.proofs.lemmas.Bool.{false≢true}
use Rattle.std.proofs.Math.Decide.{dec_lt}
use Rattle.combinators.specs.Bools.{both_right}
use Rattle.combinators.specs.Lists.{Nth, nth_one, nth_of_map, nth_map}
use Rattle.combinators.specs.Padding.{pad_to}
use Rattle.sets.specs.Sets.{has}
use Rattle.vocabulary.specs.declared.LayerIndex.{LayerIndex}
use Rattle.vocabulary.specs.declared.stream_types.Reading.TheVariants.{Edition2009, Edition2015}
use Rattle.vocabulary.specs.StreamTypes.{known}
use Rattle.records.specs.declared.Record.{Record}
use Rattle.records.specs.declared.Record.TheVariants.{NoRecord, Hierarchy, Extension, Implied}
use Rattle.extension.specs.Extension.{no_layer}
use Rattle.records.specs.Records.{index_of}
use Rattle.records.specs.Records as Records
use Rattle.loop_entries.specs.declared.Entry.{Entry}
use Rattle.closure.specs.Closures.{is_layer}
use Rattle.loop_layers.specs.Layers.{embedded_in, layers_of}
use Rattle.loop_layers.specs.Meaning.{LayerAt, LayerOf, HasLayer}
use Rattle.loop_layers.proofs.Columns.{column_meant}
use Rattle.loop_layers.proofs.Meant.{layers_meant}
use Rattle.loop_layers.proofs.Accepted.{every_layer}
use Rattle.agreement.specs.Meaning.{StreamType2009, avc, svc, mvc}
use Rattle.agreement.specs.Records.{record_in2009, with_record, entry_in2009}
use Rattle.agreement.specs.Looking.{is_extension}
use Rattle.agreement.specs.Entries.{IsAccepted, entries_in}
use Rattle.agreement.proofs.Entries.{accepted_in_2009, entries_in_2009, no_extension}
use Rattle.agreement.specs.Layers.{HasType2009}

-- A 2009 stream type is one that the 2009 reading knows.
pub types_2009 : (t : ℕ) → (known Edition2009 t ≡ true) ↔ StreamType2009 t
types_2009 t = (to, from)
  where
    one : (a b c : Bool) → a || (b || (c || false)) ≡ true → (a ≡ true → StreamType2009 t) → (b ≡ true → StreamType2009 t)
        → (c ≡ true → StreamType2009 t) → StreamType2009 t
    one true b c e f g h = f refl
    one false true c e f g h = g refl
    one false false true e f g h = h refl
    one false false false e f g h = absurd (false≢true e)

    to : known Edition2009 t ≡ true → StreamType2009 t
    to e =
        one (eqb t 0x1B) (eqb t 0x1F) (eqb t 0x20) e (λ p. subst StreamType2009 (sym (eqb-true t 0x1B p)) avc)
        (λ p. subst StreamType2009 (sym (eqb-true t 0x1F p)) svc) (λ p. subst StreamType2009 (sym (eqb-true t 0x20 p)) mvc)

    from : {n : ℕ} → StreamType2009 n → known Edition2009 n ≡ true
    from avc = refl
    from svc = refl
    from mvc = refl

-- ---- one entry

-- an entry that is a layer, and the same layer in the 2009 reading
record Alike (e early : Entry) : Type 0 where
  layer : Records.is_layer e.«record» ≡ true
  still : Records.is_layer early.«record» ≡ true
  index : index_of early.stream_type early.«record» ≡ index_of e.stream_type e.«record»
  names : embedded_in early ≡ embedded_in e

module _ (e : Entry) where
  -- of a 2009 stream type
  by_record : (r : Record) (layers : List LayerIndex) → Records.is_layer r ≡ true → is_extension r ≡ false
      → Alike (with_record e r layers) (with_record e (record_in2009 r) layers)
  by_record NoRecord layers l x = absurd (false≢true l)
  by_record (Hierarchy h) layers l x = record { layer = refl; still = refl; index = refl; names = refl }
  by_record (Extension y) layers l x = absurd (true≢false x)
  by_record Implied layers l x = record { layer = refl; still = refl; index = refl; names = refl }

  was_layer : (r : Record) → Records.is_layer (record_in2009 r) ≡ true → (Records.is_layer r ≡ true) × (is_extension r ≡ false)
  was_layer NoRecord l = absurd (false≢true l)
  was_layer (Hierarchy h) l = (refl, refl)
  was_layer (Extension x) l = absurd (false≢true l)
  was_layer Implied l = (refl, refl)

  in_2009 : known Edition2009 e.stream_type ≡ true → entry_in2009 e ≡ with_record e (record_in2009 e.«record») e.embedded
  in_2009 p =
      ap (λ (b : Bool). cond b (with_record e (record_in2009 e.«record») e.embedded) (with_record e NoRecord (pad_to 63 no_layer []))) p

  stays : known Edition2009 e.stream_type ≡ true → Records.is_layer e.«record» ≡ true → is_extension e.«record» ≡ false → Alike e (entry_in2009 e)
  stays p l x = subst (Alike e) (sym (in_2009 p)) (by_record e.«record» e.embedded l x)

  record Stayed : Type 0 where
    type : known Edition2009 e.stream_type ≡ true
    alike : Alike e (entry_in2009 e)

  stayed : Records.is_layer (entry_in2009 e).«record» ≡ true → Stayed
  stayed l = go (known Edition2009 e.stream_type) refl
    where
      go : (b : Bool) → known Edition2009 e.stream_type ≡ b → Stayed
      go true p =
          let w = was_layer e.«record» (sym (ap (λ (x : Entry). Records.is_layer x.«record») (in_2009 p)) ∙ l) in
          record { type = p; alike = stays p w.0 w.1 }
      go false p =
          absurd
          (false≢true
          (sym (ap (λ (b : Bool). Records.is_layer (cond b (with_record e (record_in2009 e.«record») e.embedded) (with_record e NoRecord (pad_to 63 no_layer []))).«record») p) ∙ l))

-- ---- the layers of a loop in both readings

-- one entry is the layer of an index
one_layer : {entries : List Entry} {i : ℕ} {a b : Entry} → LayerOf entries i a → LayerOf entries i b → a ≡ b
one_layer {entries} {i} {a} {b} l m = go (dec_lt l.place m.place) (dec_lt m.place l.place)
  where
    go : Dec (l.place < m.place) → Dec (m.place < l.place) → a ≡ b
    go (yes p) d = absurd (l.last m.place b p m.at_place)
    go (no p) (yes q) = absurd (m.last l.place a q l.at_place)
    go (no p) (no q) =
        let equal : l.place ≡ m.place = omega arith in
        nth_one (subst (λ (n : ℕ). Nth entries n a) equal l.at_place.entry) m.at_place.entry

module _ (bytes : List ℕ) (is_accepted : IsAccepted Edition2015 bytes) where
  abbrev entries2015 : List Entry
  entries2015 = entries_in Edition2015 bytes

  abbrev entries2009 : List Entry
  entries2009 = entries_in Edition2009 bytes

  -- the entry of the 2015 reading that a layer of the 2009 reading is
  record Was (k i : ℕ) (early : Entry) : Type 0 where
    entry : Entry
    layer : LayerAt entries2015 k i entry
    type : known Edition2009 entry.stream_type ≡ true
    names : embedded_in early ≡ embedded_in entry

  was : {k i : ℕ} {early : Entry} → LayerAt entries2009 k i early → Was k i early
  was {k} {i} {early} l =
      let w = nth_of_map entry_in2009 entries2015 (subst (λ (es : List Entry). Nth es k early) (entries_in_2009 bytes is_accepted) l.entry) in
      let s = stayed w.0 (ap (λ (x : Entry). Records.is_layer x.«record») w.2 ∙ l.layer) in
      record {
        entry = w.0;
        layer = record {
          entry = w.1;
          layer = s.alike.layer;
          index = sym s.alike.index ∙ ap (λ (x : Entry). index_of x.stream_type x.«record») w.2 ∙ l.index;
        };
        type = s.type;
        names = sym (ap embedded_in w.2) ∙ s.alike.names;
      }

  remains : {k i : ℕ} {e : Entry} → LayerAt entries2015 k i e → known Edition2009 e.stream_type ≡ true → LayerAt entries2009 k i (entry_in2009 e)
  remains {k} {i} {e} l p =
      let s = stays e p l.layer (no_extension bytes is_accepted l.entry p) in
      record {
        entry = subst (λ (es : List Entry). Nth es k (entry_in2009 e)) (sym (entries_in_2009 bytes is_accepted)) (nth_map entry_in2009 l.entry);
        layer = s.still;
        index = s.index ∙ l.index;
      }

  layer_2015 : {k i : ℕ} {e : Entry} → LayerAt entries2015 k i e → LayerOf entries2015 i e
  layer_2015 = every_layer Edition2015 bytes is_accepted

  layer_2009 : {k i : ℕ} {e : Entry} → LayerAt entries2009 k i e → LayerOf entries2009 i e
  layer_2009 = every_layer Edition2009 bytes (accepted_in_2009 bytes is_accepted)

  present : {entries : List Entry} {i : ℕ} {e : Entry} → LayerOf entries i e → is_layer (layers_of entries) i ≡ true
  present {entries} {i} {e} l =
      ap₂ ◌&&◌ (lt-ltb i 64 l.six_bits) (((layers_meant entries).present i).1 (record { entry = e; layer = l }))

  pub has_layer : {entries : List Entry} {i : ℕ} → is_layer (layers_of entries) i ≡ true → HasLayer entries i
  has_layer {entries} {i} h = ((layers_meant entries).present i).0 (both_right (ltb i 64) (has (layers_of entries).present i) h)

  -- A layer of the 2009 reading is a layer of the 2015 reading whose stream has a 2009 stream type, and the other way round;
  pub layers_in_2009 : (i : ℕ) → (is_layer (layers_of entries2009) i ≡ true) ↔ HasType2009 entries2015 i
  layers_in_2009 i = (to, from)
    where
      to : is_layer (layers_of entries2009) i ≡ true → HasType2009 entries2015 i
      to h =
          let l = has_layer h in
          let w = was l.layer.at_place in
          record { place = l.layer.place; entry = w.entry; layer = w.layer; type = (types_2009 w.entry.stream_type).0 w.type }

      from : HasType2009 entries2015 i → is_layer (layers_of entries2009) i ≡ true
      from h = present (layer_2009 (remains h.layer ((types_2009 h.entry.stream_type).1 h.type)))

  pub layers_in_2015 : (i : ℕ) → HasType2009 entries2015 i → is_layer (layers_of entries2015) i ≡ true
  layers_in_2015 i h = present (layer_2015 h.layer)

  -- and each has the same embedded layers.
  pub same_embedded : (i : ℕ) → is_layer (layers_of entries2009) i ≡ true
      → get_or (layers_of entries2009).embedded i 0 ≡ get_or (layers_of entries2015).embedded i 0
  same_embedded i h =
      let l = has_layer h in
      let w = was l.layer.at_place in
      (column_meant 0 embedded_in entries2009).layer i l.entry l.layer
      ∙ w.names
      ∙ sym ((column_meant 0 embedded_in entries2015).layer i w.entry (layer_2015 w.layer))

  -- An index has one layer, so that its stream has one type.
  pub one_type : {k i : ℕ} {e : Entry} → HasType2009 entries2015 i → LayerAt entries2015 k i e → StreamType2009 e.stream_type
  one_type {i = i} {e = e} h l = subst (λ (x : Entry). StreamType2009 x.stream_type) (one_layer (layer_2015 h.layer) (layer_2015 l)) h.type
