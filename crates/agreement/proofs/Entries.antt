-- THE 2009 READING OF A LOOP THAT THE 2015 READING ACCEPTS: it is accepted too, `accepted_in_2009`, with the same entries but for what
-- Records says, `entries_in_2009`.
-- Assumes nothing.
use Rattle.std.specs.Prelude.{ℕ, suc, ◌<◌, ◌≡◌, refl, Bool, true, false, not, cond, ◌&&◌, ◌||◌, eqb, length, Ok}
use Rattle.std.proofs.Common.{sym, ◌∙◌, ap, ap₂, subst, true≢false, arith, ⊎_elim, eqb-true, not-suc-le-zero}
use Rattle.std.proofs.Math.Bool.{not-eq-not}
use mathlib.Core.List.{List, [], ◌∷◌, map, nil≢cons, head-eq_of_cons-eq}
use Rattle.std.proofs.Math.Decide.{dec_lt}
use Rattle.combinators.specs.Bools.{apart, either_which, false_unless}
use Rattle.std.proofs.lemmas.List.{length-map}
use Rattle.combinators.specs.Lists.{Nth, here, there, nth_of_map, any, any_which, gather}
use Rattle.combinators.specs.Padding.{pad_to}
use Rattle.framing.specs.Pieces.{Item, whole, broken}
use Rattle.vocabulary.specs.declared.LayerIndex.{LayerIndex}
use Rattle.vocabulary.specs.declared.stream_types.Reading.TheVariants.{Edition2009, Edition2015}
use Rattle.vocabulary.specs.StreamTypes.{known}
use Rattle.hierarchy.specs.declared.HierarchyRecord.{HierarchyRecord}
use Rattle.records.specs.declared.Record.{Record}
use Rattle.records.specs.declared.Record.TheVariants.{NoRecord, Hierarchy, Extension, Implied}
use Rattle.descriptors.specs.declared.looking.Seen.{Seen}
use Rattle.extension.specs.declared.ExtensionRecord.{ExtensionRecord}
use Rattle.descriptors.proofs.Meant.{descriptors_meant, descriptors_only}
use Rattle.extension.specs.Extension.{no_layer}
use Rattle.descriptors.specs.Looking.{Kind, does_not_fit, skipped, wrong_length, hierarchy, extension, kinds_of, Held, held_in, is_wrong_length, first_record, first_layers, seen_of, nothing_seen, is_wrong_length_lem}
use Rattle.judging.specs.Meaning.{TypeNotAllowed, hierarchy_type, extension_on_avc, extension_on_svc, extension_on_mvc, unknown_type, mark_missing, WrongFlags, type_9, more_than_one, Flag, view, temporal, spatial, quality, flag, WrongEmbedded, not_below, listed_twice}
use Rattle.records.specs.Records.{index_of}
use Rattle.implied.specs.Rule.{is_view, given, of_type, is_described_view}
use Rattle.implied.specs.Marking.{is_described, with_mark, marked_record}
use Rattle.implied.proofs.Marks.{view_known}
use Rattle.loop_entries.specs.declared.Entry.{Entry}
use Rattle.es_loop.specs.declared.reader.LoopRead.{LoopRead}
use Rattle.loop_entries.specs.declared.Stream.{Stream}
use Rattle.loop_entries.specs.Entries.{stream_type, elementary_pid, stream_of, shown_of, pair_of, marked_stream, marked_streams, entry_of}
use Rattle.es_loop.specs.Reading.{accepted, loop_read}
use Rattle.es_loop.specs.Meaning.{KnownAt, RecordAt, OnlyView, LayerAt, written, implied, Condition, entry_unfit, descriptor_unfit, pid_seen, length_wrong, two_records, type_wrong, flags_wrong, index_held, embedded_wrong, Answers, too_long_lem, refuses, accepts}
use Rattle.es_loop.proofs.Meant.{answer_meant, answer_only}
use Rattle.loop_layers.specs.Closures.{entries_read}
use Rattle.loop_layers.proofs.Meant.{entries_read_lem}
use Rattle.agreement.specs.Records.{view_unread, record_in2009, with_record, entry_in2009, known_later}
use Rattle.agreement.specs.Looking.{kind_in2009, held_in2009, is_extension, Plain}
use Rattle.agreement.proofs.Looking.{kinds_alike, held_alike}
use Rattle.agreement.specs.Entries.{IsAccepted, entries_in}

-- ---- a kind of the 2009 reading that is refused is that of the 2015 reading too

was_unfit : (x : Kind) → kind_in2009 x ≡ does_not_fit → x ≡ does_not_fit
was_unfit does_not_fit e = refl
was_unfit skipped e = let z : ◌≡◌ {A = ℕ} 0 1 = cc in absurd (omega arith)
was_unfit wrong_length e = let z : ◌≡◌ {A = ℕ} 0 1 = cc in absurd (omega arith)
was_unfit (hierarchy h) e = let z : ◌≡◌ {A = ℕ} 0 1 = cc in absurd (omega arith)
was_unfit (extension x layers) e = let z : ◌≡◌ {A = ℕ} 0 1 = cc in absurd (omega arith)

was_wrong : (x : Kind) → kind_in2009 x ≡ wrong_length → is_wrong_length x ≡ true
was_wrong does_not_fit e = let z : ◌≡◌ {A = ℕ} 0 1 = cc in absurd (omega arith)
was_wrong skipped e = let z : ◌≡◌ {A = ℕ} 0 1 = cc in absurd (omega arith)
was_wrong wrong_length e = refl
was_wrong (hierarchy h) e = let z : ◌≡◌ {A = ℕ} 0 1 = cc in absurd (omega arith)
was_wrong (extension x layers) e = let z : ◌≡◌ {A = ℕ} 0 1 = cc in absurd (omega arith)

-- ---- what 6, 7 and 9 refuse of a record in the 2009 reading, they refuse of it in the 2015 reading

type_refused : (t : ℕ) (r : Record) → TypeNotAllowed false t (record_in2009 r) → TypeNotAllowed false t r
type_refused t (Hierarchy h) (hierarchy_type p) = hierarchy_type p
type_refused t (Hierarchy h) (unknown_type l u) = unknown_type refl u
type_refused t (Extension x) (unknown_type l u) = apart l
type_refused t (Extension x) (mark_missing e) = apart e
type_refused t NoRecord (unknown_type l u) = apart l
type_refused t NoRecord (mark_missing e) = apart e
type_refused t Implied w = w

-- a flag that the 2009 reading answers as 0 is 0
flag_read : (h : HierarchyRecord) (f : Flag) → flag (view_unread h) f ≡ false → flag h f ≡ false
flag_read h view p = absurd (true≢false p)
flag_read h temporal p = p
flag_read h spatial p = p
flag_read h quality p = p

flags_refused : (r : Record) → WrongFlags (record_in2009 r) → WrongFlags r
flags_refused NoRecord x' = elim x' [ ]
flags_refused (Extension _) x3 = elim x3 [ ]
flags_refused Implied x3 = elim x3 [ ]
flags_refused (Hierarchy h) (type_9 f t p) = type_9 f t (flag_read h f p)
flags_refused (Hierarchy h) (more_than_one f g d p q t) = more_than_one f g d (flag_read h f p) (flag_read h g q) t

embedded_refused : (t : ℕ) (r : Record) (layers : List LayerIndex) → WrongEmbedded t (record_in2009 r) layers → WrongEmbedded t r layers
embedded_refused t NoRecord layers w = w
embedded_refused t (Hierarchy h) layers (not_below i l p) = not_below i l p
embedded_refused t (Hierarchy h) layers (listed_twice i j l k p) = listed_twice i j l k p
embedded_refused t (Extension x) layers (not_below i l p) = absurd (not-suc-le-zero l)
embedded_refused t (Extension x) layers (listed_twice i j l k p) = absurd (not-suc-le-zero k)
embedded_refused t Implied layers w = w

same_index_lem : (t : ℕ) (r : Record) → is_extension r ≡ false → index_of t (record_in2009 r) ≡ index_of t r
same_index_lem t NoRecord e = refl
same_index_lem t (Hierarchy h) e = refl
same_index_lem t (Extension x) e = absurd (true≢false e)
same_index_lem t Implied e = refl

-- ---- the conditions of an accepted loop: none holds in the 2015 reading

module _ (items : List Item) (none : (n k : ℕ) → Condition Edition2015 items n k → ⊥) where
  known_too : {k t : ℕ} {info : List ℕ} → KnownAt Edition2009 items k t info → KnownAt Edition2015 items k t info
  known_too {t = t} s = record { head = s.head; entry = s.entry; type = s.type; is_known = known_later t s.is_known }

  -- 4, 5 and 6 are not given on a 2009 stream
  plain_at : {k t : ℕ} {info : List ℕ} → KnownAt Edition2009 items k t info → Plain info
  plain_at {k} {t} {info} s =
      record {
        right_length = (not-eq-not {a = any is_wrong_length kinds} {b = false}).0
            (λ e.
            let w = any_which is_wrong_length kinds e in
            none 4 k (length_wrong (known_too s) (descriptors_meant Edition2015 info) (subst (λ (x : Kind). Nth kinds w.0 x) (is_wrong_length_lem w.1 w.3) w.2)));
        one_record = few (dec_lt (length (gather held_in kinds)) 2);
        no_extension = first (gather held_in kinds) refl;
      }
    where
      kinds : List Kind
      kinds = kinds_of Edition2015 info

      few : Dec (length (gather held_in kinds) < 2) → length (gather held_in kinds) < 2
      few (yes h) = h
      few (no h) = absurd (none 5 k (two_records (known_too s) (descriptors_meant Edition2015 info) (omega arith)))

      -- an extension on a type of 2009
      on_2009 : {x : ExtensionRecord} → known Edition2009 t ≡ true → TypeNotAllowed false t (Extension x)
      on_2009 e =
          ⊎_elim (λ p. extension_on_avc (eqb-true t 0x1B p))
          (λ p. ⊎_elim (λ q. extension_on_svc (eqb-true t 0x1F q)) (λ q. ⊎_elim (λ r. extension_on_mvc (eqb-true t 0x20 r)) apart (either_which (eqb t 0x20) false q)) (either_which (eqb t 0x1F) (eqb t 0x20 || false) p))
          (either_which (eqb t 0x1B) (eqb t 0x1F || (eqb t 0x20 || false)) e)

      by_record : (r : Record) (layers : List LayerIndex) (others : List Held) → gather held_in kinds ≡ record { held = r; layers = layers } ∷ others
          → is_extension r ≡ false
      by_record NoRecord layers others e = refl
      by_record (Hierarchy h) layers others e = refl
      by_record Implied layers others e = refl
      by_record (Extension x) layers others e =
          absurd (none 6 k (type_wrong (record { info = info; stream = known_too s; kinds = kinds; descriptors = descriptors_meant Edition2015 info; others = others; first = e }) (on_2009 s.is_known)))

      first : (hs : List Held) → gather held_in kinds ≡ hs → is_extension (first_record hs) ≡ false
      first [] e = refl
      first (h ∷ hs) e = by_record h.held h.layers hs e

  -- a record of the 2009 reading is one of the 2015 reading,
  record Later (k t : ℕ) (r : Record) (layers : List LayerIndex) : Type 0 where
    was : Record
    stands : RecordAt Edition2015 items k t was layers
    same : record_in2009 was ≡ r
    no_extension : is_extension was ≡ false

  later : {k t : ℕ} {r : Record} {layers : List LayerIndex} → RecordAt Edition2009 items k t r layers → Later k t r layers
  later {k} {t} {r} {layers} l = go (gather held_in (kinds_of Edition2015 l.info)) refl
    where
      plain : Plain l.info
      plain = plain_at l.stream

      early : gather held_in (kinds_of Edition2009 l.info) ≡ record { held = r; layers = layers } ∷ l.others
      early = sym (ap (gather held_in) (descriptors_only Edition2009 l.descriptors)) ∙ l.first

      go : (hs : List Held) → gather held_in (kinds_of Edition2015 l.info) ≡ hs → Later k t r layers
      go [] e = absurd (nil≢cons (sym (held_alike plain ∙ ap (map held_in2009) e) ∙ early))
      go (h ∷ hs) e =
          let same : held_in2009 h ≡ record { held = r; layers = layers } = head-eq_of_cons-eq (sym (held_alike plain ∙ ap (map held_in2009) e) ∙ early) in
          let as_listed : h.layers ≡ layers = ap (λ (x : Held). x.layers) same in
          record {
            was = h.held;
            stands = record {
              info = l.info;
              stream = known_too l.stream;
              kinds = kinds_of Edition2015 l.info;
              descriptors = descriptors_meant Edition2015 l.info;
              others = hs;
              first = e ∙ ap (λ (ls : List LayerIndex). record { held = h.held; layers = ls } ∷ hs) as_listed;
            };
            same = ap (λ (x : Held). x.held) same;
            no_extension = sym (ap (λ (x : List Held). is_extension (first_record x)) e) ∙ plain.no_extension;
          }

  -- and the other way round, on a 2009 stream type
  earlier : {k t : ℕ} {r : Record} {layers : List LayerIndex} → known Edition2009 t ≡ true → RecordAt Edition2015 items k t r layers
      → RecordAt Edition2009 items k t (record_in2009 r) layers
  earlier {k} {t} {r} {layers} is_known l =
      let stream : KnownAt Edition2009 items k t l.info =
      record { head = l.stream.head; entry = l.stream.entry; type = l.stream.type; is_known = is_known } in
      record {
        info = l.info;
        stream = stream;
        kinds = kinds_of Edition2009 l.info;
        descriptors = descriptors_meant Edition2009 l.info;
        others = map held_in2009 l.others;
        first =
            held_alike (plain_at stream)
            ∙ ap (λ (ks : List Kind). map held_in2009 (gather held_in ks)) (sym (descriptors_only Edition2015 l.descriptors))
            ∙ ap (map held_in2009) l.first;
      }

  -- Both views are of 2009 stream types, so that they are implied in the 2015 reading where they are in the 2009 reading;
  view_later : {t : ℕ} → OnlyView Edition2009 items t → OnlyView Edition2015 items t
  view_later v =
      record {
        place = v.place;
        info = v.info;
        stream = known_too v.stream;
        alone = v.alone;
        plain = λ h layers l. v.plain (view_unread h) layers (earlier v.stream.is_known l);
      }

  -- and so a layer of the 2009 reading is one of the 2015 reading
  record LaterLayer (k t : ℕ) (r : Record) (layers : List LayerIndex) : Type 0 where
    was : Record
    layer : LayerAt Edition2015 items k t was layers
    index : index_of t was ≡ index_of t r

  later_layer : {k t : ℕ} {r : Record} {layers : List LayerIndex} → LayerAt Edition2009 items k t r layers → LaterLayer k t r layers
  later_layer {t = t} (written l) =
      let v = later l in
      record { was = v.was; layer = written v.stands; index = sym (same_index_lem t v.was v.no_extension) ∙ ap (index_of t) v.same }
  later_layer (implied views s v none_held) =
      record {
        was = Implied;
        layer = implied (record { first = view_later views.first; second = view_later views.second }) (known_too s) v
            (λ r layers l. none_held (record_in2009 r) layers (earlier s.is_known l));
        index = refl;
      }

  -- NONE HOLDS IN THE 2009 READING.
  none_in_2009 : {n k : ℕ} → Condition Edition2009 items n k → ⊥
  none_in_2009 (entry_unfit {k} e) = none 2 k (entry_unfit e)
  none_in_2009 (descriptor_unfit {k} {info = info} s ds {i} d) =
      let w = nth_of_map kind_in2009 (kinds_of Edition2015 info)
      (subst (λ (l : List Kind). Nth l i does_not_fit) (descriptors_only Edition2009 ds ∙ kinds_alike (plain_at s)) d) in
      none 2 k (descriptor_unfit (known_too s) (descriptors_meant Edition2015 info) (subst (λ (x : Kind). Nth (kinds_of Edition2015 info) i x) (was_unfit w.0 w.2) w.1))
  none_in_2009 (pid_seen {k = k} h e e' p) = none 3 k (pid_seen h e e' p)
  none_in_2009 (length_wrong {k} {info = info} s ds {i} d) =
      let w = nth_of_map kind_in2009 (kinds_of Edition2015 info)
      (subst (λ (l : List Kind). Nth l i wrong_length) (descriptors_only Edition2009 ds ∙ kinds_alike (plain_at s)) d) in
      none 4 k
      (length_wrong (known_too s) (descriptors_meant Edition2015 info) (subst (λ (x : Kind). Nth (kinds_of Edition2015 info) i x) (is_wrong_length_lem w.0 (was_wrong w.0 w.2)) w.1))
  none_in_2009 (two_records {k} {info = info} s ds h) =
      let as_many = ap (λ (ks : List Kind). length (gather held_in ks)) (descriptors_only Edition2009 ds) ∙ ap length (held_alike (plain_at s)) ∙ length-map (gather held_in (kinds_of Edition2015 info)) held_in2009 in
      let few = (plain_at s).one_record in
      absurd (omega arith)
  none_in_2009 (type_wrong {k} {t} l w) =
      let v = later l in
      none 6 k (type_wrong v.stands (type_refused t v.was (subst (TypeNotAllowed false t) (sym v.same) w)))
  none_in_2009 (flags_wrong {k} l w) =
      let v = later l in
      none 7 k (flags_wrong v.stands (flags_refused v.was (subst WrongFlags (sym v.same) w)))
  none_in_2009 (index_held {k = k} h l l' p) =
      let v = later_layer l in
      let v' = later_layer l' in
      none 8 k (index_held h v.layer v'.layer (v.index ∙ p ∙ sym v'.index))
  none_in_2009 (embedded_wrong {k} {t} {layers = layers} l w) =
      let v = later l in
      none 9 k (embedded_wrong v.stands
      (embedded_refused t v.was (pad_to 63 no_layer layers) (subst (λ (x : Record). WrongEmbedded t x (pad_to 63 no_layer layers)) (sym v.same) w)))

  -- THE SAME ENTRIES, but for what Records says: as each is seen alone,
  entry_alike : {k : ℕ} (x : Item) → Nth items k x → entry_of (stream_of Edition2009 x) ≡ entry_in2009 (entry_of (stream_of Edition2015 x))
  entry_alike broken n = refl
  entry_alike {k} (whole head info) n = by_type (known Edition2009 (stream_type head)) refl
    where
      with_seen : Seen → Entry
      with_seen s = record { stream_type = stream_type head; pid = elementary_pid head; «record» = s.«record»; embedded = s.embedded }

      in_2015 : Entry
      in_2015 = entry_of (stream_of Edition2015 (whole head info))

      first_record_lem : (hs : List Held) → first_record (map held_in2009 hs) ≡ record_in2009 (first_record hs)
      first_record_lem [] = refl
      first_record_lem (h ∷ hs) = refl

      first_layers_lem : (hs : List Held) → first_layers (map held_in2009 hs) ≡ first_layers hs
      first_layers_lem [] = refl
      first_layers_lem (h ∷ hs) = refl

      plain : known Edition2009 (stream_type head) ≡ true → Plain info
      plain p = plain_at (record { head = head; entry = n; type = refl; is_known = p })

      kept : known Edition2009 (stream_type head) ≡ true
          → with_seen (seen_of Edition2009 info)
          ≡ with_record (with_seen (seen_of Edition2015 info)) (record_in2009 (seen_of Edition2015 info).«record») (seen_of Edition2015 info).embedded
      kept p =
          let held : List Held = gather held_in (kinds_of Edition2015 info) in
          ap (λ (hs : List Held). with_record in_2015 (first_record hs) (pad_to 63 no_layer (first_layers hs))) (held_alike (plain p))
          ∙ ap₂ (λ (r : Record) (ls : List LayerIndex). with_record in_2015 r (pad_to 63 no_layer ls)) (first_record_lem held) (first_layers_lem held)

      by_type : (b : Bool) → known Edition2009 (stream_type head) ≡ b → entry_of (stream_of Edition2009 (whole head info)) ≡ entry_in2009 in_2015
      by_type true p =
          ap (λ (b : Bool). with_seen (cond b (seen_of Edition2009 info) nothing_seen)) p
          ∙ kept p
          ∙ sym (ap (λ (b : Bool). let e : Entry = with_seen (cond b (seen_of Edition2015 info) nothing_seen) in with_record e (record_in2009 e.«record») e.embedded) (known_later (stream_type head) p))
          ∙ sym (ap (λ (b : Bool). cond b (with_record in_2015 (record_in2009 in_2015.«record») in_2015.embedded) (with_record in_2015 NoRecord (pad_to 63 no_layer []))) p)
      by_type false p =
          ap (λ (b : Bool). with_seen (cond b (seen_of Edition2009 info) nothing_seen)) p
          ∙ sym (ap (λ (b : Bool). cond b (with_record in_2015 (record_in2009 in_2015.«record») in_2015.embedded) (with_record in_2015 NoRecord (pad_to 63 no_layer []))) p)

  -- with the same pair of views, if any,
  same_described : (r : Record) → is_described (record_in2009 r) ≡ is_described r
  same_described NoRecord = refl
  same_described (Hierarchy h) = refl
  same_described (Extension x) = refl
  same_described Implied = refl

  view_alike : {k : ℕ} (x : Item) → Nth items k x
      → is_described_view (shown_of (stream_of Edition2009 x)) ≡ is_described_view (shown_of (stream_of Edition2015 x))
  view_alike broken n = refl
  view_alike {k} (whole head info) n = by_type (is_view (stream_type head)) refl
    where
      in_2015 : Entry
      in_2015 = entry_of (stream_of Edition2015 (whole head info))

      by_type : (b : Bool) → is_view (stream_type head) ≡ b
          → b && is_described (stream_of Edition2009 (whole head info)).seen.«record»
          ≡ b && is_described (stream_of Edition2015 (whole head info)).seen.«record»
      by_type false e = refl
      by_type true e =
          ap (λ (y : Entry). is_described y.«record») (entry_alike (whole head info) n)
          ∙ ap (λ (b : Bool). is_described (cond b (with_record in_2015 (record_in2009 in_2015.«record») in_2015.embedded) (with_record in_2015 NoRecord (pad_to 63 no_layer []))).«record»)
          (view_known Edition2009 (stream_type head) e)
          ∙ same_described in_2015.«record»

  pair_alike : pair_of (map (stream_of Edition2009) items) ≡ pair_of (map (stream_of Edition2015) items)
  pair_alike = ap₂ (λ (b c : Bool). b && c) (ap₂ (λ (a b : ℕ). eqb a 1 && eqb b 1) (counts 0x1B items) (counts 0x20 items)) (ap not (views items (λ k x n. view_alike x n)))
    where
      counts : (t : ℕ) (l : List Item) → of_type t (map shown_of (map (stream_of Edition2009) l)) ≡ of_type t (map shown_of (map (stream_of Edition2015) l))
      counts t [] = refl
      counts t (broken ∷ xs) = ap (λ (n : ℕ). cond (eqb 0 t) (suc n) n) (counts t xs)
      counts t (whole head info ∷ xs) = ap (λ (n : ℕ). cond (eqb (stream_type head) t) (suc n) n) (counts t xs)

      views : (l : List Item)
          → ((k : ℕ) (x : Item) → Nth l k x → is_described_view (shown_of (stream_of Edition2009 x)) ≡ is_described_view (shown_of (stream_of Edition2015 x)))
          → any is_described_view (map shown_of (map (stream_of Edition2009) l)) ≡ any is_described_view (map shown_of (map (stream_of Edition2015) l))
      views [] f = refl
      views (x ∷ xs) f = ap₂ ◌||◌ (f 0 x here) (views xs (λ k y n. f (suc k) y (there n)))

  -- and so with the marks that the rule gives
  marked_alike : (pair : Bool) (x : Item) {k : ℕ} → Nth items k x
      → entry_of (marked_stream pair (stream_of Edition2009 x)) ≡ entry_in2009 (entry_of (marked_stream pair (stream_of Edition2015 x)))
  marked_alike pair broken n = refl
  marked_alike pair (whole head info) {k} n = by_type (known Edition2009 (stream_type head)) refl
    where
      in_2015 : Entry
      in_2015 = entry_of (stream_of Edition2015 (whole head info))

      marked : Entry → Entry
      marked e = with_record e (marked_record pair (stream_type head) e.«record») e.embedded

      at_type : Bool → Entry
      at_type b = cond b (with_record in_2015 (record_in2009 in_2015.«record») in_2015.embedded) (with_record in_2015 NoRecord (pad_to 63 no_layer []))

      by_given : (given_here : Bool) (r : Record) → is_extension r ≡ false
          → cond given_here (with_mark (record_in2009 r)) (record_in2009 r) ≡ record_in2009 (cond given_here (with_mark r) r)
      by_given true NoRecord e = refl
      by_given true (Hierarchy h) e = refl
      by_given true (Extension x) e = absurd (true≢false e)
      by_given true Implied e = refl
      by_given false r e = refl

      by_type : (b : Bool) → known Edition2009 (stream_type head) ≡ b
          → marked (entry_of (stream_of Edition2009 (whole head info))) ≡ entry_in2009 (marked in_2015)
      by_type true p =
          let none_there : is_extension in_2015.«record» ≡ false =
          ap (λ (b : Bool). is_extension (cond b (seen_of Edition2015 info) nothing_seen).«record») (known_later (stream_type head) p)
          ∙ (plain_at (record { head = head; entry = n; type = refl; is_known = p })).no_extension in
          ap marked (entry_alike (whole head info) n ∙ ap at_type p)
          ∙ ap (λ (r : Record). with_record in_2015 r in_2015.embedded) (by_given (given pair (stream_type head)) in_2015.«record» none_there)
          ∙ ap (λ (b : Bool). cond b (with_record in_2015 (record_in2009 (marked_record pair (stream_type head) in_2015.«record»)) in_2015.embedded) (with_record in_2015 NoRecord (pad_to 63 no_layer []))) (sym p)
      by_type false p =
          let no_view : is_view (stream_type head) ≡ false = false_unless (is_view (stream_type head)) (λ v. true≢false (sym (view_known Edition2009 (stream_type head) v) ∙ p)) in
          ap marked (entry_alike (whole head info) n ∙ ap at_type p)
          ∙ ap (λ (b : Bool). with_record in_2015 (cond (b && pair) Implied NoRecord) (pad_to 63 no_layer [])) no_view
          ∙ ap (λ (b : Bool). cond b (with_record in_2015 (record_in2009 (marked_record pair (stream_type head) in_2015.«record»)) in_2015.embedded) (with_record in_2015 NoRecord (pad_to 63 no_layer []))) (sym p)

  entries_alike : map entry_of (marked_streams (map (stream_of Edition2009) items)) ≡ map entry_in2009 (map entry_of (marked_streams (map (stream_of Edition2015) items)))
  entries_alike =
      ap (λ (pair : Bool). map entry_of (map (marked_stream pair) (map (stream_of Edition2009) items))) pair_alike
      ∙ go (pair_of (map (stream_of Edition2015) items)) items (λ k x n. marked_alike (pair_of (map (stream_of Edition2015) items)) x n)
    where
      go : (pair : Bool) (l : List Item)
          → ((k : ℕ) (x : Item) → Nth l k x → entry_of (marked_stream pair (stream_of Edition2009 x)) ≡ entry_in2009 (entry_of (marked_stream pair (stream_of Edition2015 x))))
          → map entry_of (map (marked_stream pair) (map (stream_of Edition2009) l)) ≡ map entry_in2009 (map entry_of (map (marked_stream pair) (map (stream_of Edition2015) l)))
      go pair [] f = refl
      go pair (x ∷ xs) f = ap₂ (λ (e : Entry) (es : List Entry). e ∷ es) (f 0 x here) (go pair xs (λ k y n. f (suc k) y (there n)))

module _ (bytes : List ℕ) (is_accepted : IsAccepted Edition2015 bytes) where
  record Both : Type 0 where
    items : List Item
    in_2015 : loop_read Edition2015 bytes ≡ accepted (marked_streams (map (stream_of Edition2015) items))
    in_2009 : loop_read Edition2009 bytes ≡ accepted (marked_streams (map (stream_of Edition2009) items))
    none : (n k : ℕ) → Condition Edition2015 items n k → ⊥

  both : Both
  both = go (answer_meant Edition2015 bytes) is_accepted
    where
      go : {read : LoopRead} → Answers Edition2015 bytes read → read.outcome ≡ Ok tt → Both
      go (too_long_lem h) e = let z : ◌≡◌ {A = ℕ} 0 1 = cc in absurd (omega arith)
      go (refuses short c at-k lower earlier) e = let z : ◌≡◌ {A = ℕ} 0 1 = cc in absurd (omega arith)
      go (accepts {entries} short c none) e =
          record {
            items = entries;
            in_2015 = sym (answer_only Edition2015 bytes (accepts short c none));
            in_2009 = sym (answer_only Edition2009 bytes (accepts short c (λ n k. none_in_2009 entries none)));
            none = none;
          }

  -- WHAT THE 2015 READING ACCEPTS, THE 2009 READING ACCEPTS,
  pub accepted_in_2009 : IsAccepted Edition2009 bytes
  accepted_in_2009 = ap (λ (r : LoopRead). r.outcome) both.in_2009

  -- with the same entries, in the same order, but for what Records says.
  pub entries_in_2009 : entries_in Edition2009 bytes ≡ map entry_in2009 (entries_in Edition2015 bytes)
  entries_in_2009 =
      ap entries_read both.in_2009
      ∙ entries_read_lem (marked_streams (map (stream_of Edition2009) both.items))
      ∙ entries_alike both.items both.none
      ∙ ap (map entry_in2009) (sym (entries_read_lem (marked_streams (map (stream_of Edition2015) both.items))))
      ∙ ap (λ (r : LoopRead). map entry_in2009 (entries_read r)) (sym both.in_2015)

  -- On a 2009 stream type there is no extension: 6 would refuse it.
  pub no_extension : {k : ℕ} {e : Entry} → Nth (entries_in Edition2015 bytes) k e → known Edition2009 e.stream_type ≡ true
      → is_extension e.«record» ≡ false
  no_extension {k} {e} n p =
      let are : entries_in Edition2015 bytes ≡ map entry_of (marked_streams (map (stream_of Edition2015) both.items)) =
      ap entries_read both.in_2015 ∙ entries_read_lem (marked_streams (map (stream_of Edition2015) both.items)) in
      let s = nth_of_map entry_of (marked_streams (map (stream_of Edition2015) both.items)) (subst (λ (l : List Entry). Nth l k e) are n) in
      let m = nth_of_map (marked_stream (pair_of (map (stream_of Edition2015) both.items))) (map (stream_of Edition2015) both.items) s.1 in
      let x = nth_of_map (stream_of Edition2015) both.items m.1 in
      let is_entry : entry_of (marked_stream (pair_of (map (stream_of Edition2015) both.items)) (stream_of Edition2015 x.0)) ≡ e =
      ap (λ (y : Stream). entry_of (marked_stream (pair_of (map (stream_of Edition2015) both.items)) y)) x.2 ∙ ap entry_of m.2 ∙ s.2 in
      ap (λ (y : Entry). is_extension y.«record») (sym is_entry)
      ∙ marked_too (given (pair_of (map (stream_of Edition2015) both.items)) (stream_of Edition2015 x.0).stream_type) (stream_of Edition2015 x.0).seen.«record»
      ∙ of_item x.0 x.1 (ap (λ (y : Entry). known Edition2009 y.stream_type) is_entry ∙ p)
    where
      -- a mark is no extension
      marked_too : (given_here : Bool) (r : Record) → is_extension (cond given_here (with_mark r) r) ≡ is_extension r
      marked_too true NoRecord = refl
      marked_too true (Hierarchy h) = refl
      marked_too true (Extension y) = refl
      marked_too true Implied = refl
      marked_too false r = refl

      of_item : (x : Item) → Nth both.items k x → known Edition2009 (stream_of Edition2015 x).stream_type ≡ true
          → is_extension (stream_of Edition2015 x).seen.«record» ≡ false
      of_item broken m q = refl
      of_item (whole head info) m q =
          ap (λ (b : Bool). is_extension (cond b (seen_of Edition2015 info) nothing_seen).«record») (known_later (stream_type head) q)
          ∙ (plain_at both.items both.none (record { head = head; entry = m; type = refl; is_known = q })).no_extension
