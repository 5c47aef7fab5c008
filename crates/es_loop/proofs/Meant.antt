-- The law that joins the meaning of a loop's answer to what is computed, both ways.
-- Assumes nothing.
use Rattle.std.specs.Prelude.{Err}
use Prim.Native.Nat.{ℕ, suc, ◌≤◌, ◌<◌}
use mathlib.Core.Path.{◌≡◌, refl, sym, ◌∙◌, ap, ap₂, subst}
use mathlib.Core.Bool.{Bool, true, false, cond, not, ◌&&◌}
use mathlib.Core.List.{List, [], ◌∷◌, ◌++◌, map, nil≢cons, head-eq_of_cons-eq}
use native.Mathlib.Omega.{arith}
use native.Mathlib.Nat.{not-suc-le-zero}
use native.Mathlib.Decide.{dec_lt}
use borrow.Author.Tests.{lt-ltb, le-ltb, ltb-true, eq-eqb, eqb-true, not-true, not-false}
use lib.Dec.{eqb}
use lib.ListN.{length, get_or, length-map}
use Rattle.combinators.specs.Below.{some_at, some_which, some_same}
use Rattle.combinators.specs.Bools.{both_left, both_right, apart, both_ways, false_unless, either_way}
use Rattle.combinators.specs.Lists.{Nth, here, there, nth_inside, get_d_nth, nth_map, nth_of_map, get_d_map, any, any_true, any_which, gather, handled}
use Rattle.combinators.specs.Lowest.{Lowest, lowest_number, earliest_place}
use Rattle.combinators.proofs.Lowest.{lowest_is}
use Rattle.combinators.specs.Padding.{pad_to}
use Rattle.framing.specs.Pieces.{Item, whole, broken, Cuts, nothing_left, does_not_fit as cut_short, piece, cut}
use Rattle.framing.proofs.Pieces.{cut_cuts, cuts_unique}
use Rattle.syntax.proofs.Laws.{read_before}
use Rattle.vocabulary.specs.declared.LayerIndex.{LayerIndex}
use Rattle.vocabulary.specs.declared.stream_types.Reading.{Reading}
use Rattle.vocabulary.specs.declared.refusal.Refusal.{Refusal}
use Rattle.vocabulary.specs.declared.refusal.Refusal.TheVariants.{LoopTooLong, DoesNotFit, RepeatedPid, WrongLength, SecondRecord, TypeNotAllowed as TypeRefused, WrongFlags as FlagsRefused, RepeatedLayerIndex, WrongEmbeddedIndex, NoSuchLayer, EmbeddedLayerAbsent, OutOfRange, TimeOrderBroken, Unpaired, UsedTwice, NoRoom, SpanTooWide, NotVideoHeader, NoPts, FieldsDoNotFit, WrongMarker, PtsBeforeDts, TooWide, LostSync, CounterGap, OutsidePacket, Scrambled, PointsDoNotFit, ReservedEsCount, UnknownReference, NotStereoSet, WrongMvcExtension, RangesMeet}
use Rattle.vocabulary.specs.Refusals.{number_of, place_of}
use Rattle.vocabulary.specs.StreamTypes.{known}
use Rattle.records.specs.declared.Record.{Record}
use Rattle.records.specs.declared.Record.TheVariants.{NoRecord, Hierarchy, Extension, Implied}
use Rattle.hierarchy.specs.declared.HierarchyRecord.{HierarchyRecord}
use Rattle.extension.specs.declared.ExtensionRecord.{ExtensionRecord}
use Rattle.descriptors.specs.declared.looking.Seen.{Seen}
use Rattle.extension.specs.Extension.{no_layer}
use Rattle.descriptors.specs.Looking.{Kind, does_not_fit, skipped, wrong_length, hierarchy, extension, kinds_of, Held, held_in, is_unfit, is_wrong_length, first_record, first_layers, seen_of, nothing_seen, is_wrong_length_lem}
use Rattle.descriptors.specs.Meaning.{Descriptors}
use Rattle.descriptors.proofs.Meant.{descriptors_meant, descriptors_only}
use Rattle.records.specs.Records.{is_layer, index_of}
use Rattle.implied.specs.Rule.{Shown, is_view, given}
use Rattle.implied.specs.Marking.{is_described, with_mark, marked_record}
use Rattle.implied.specs.Meaning.{OnlyOne}
use Rattle.implied.proofs.Marks.{view_known, layer_kept}
use Rattle.implied.proofs.Meant.{pair_meant, pair_only}
use Rattle.judging.specs.Judging.{same_index, type_not_allowed, wrong_flags, wrong_embedded}
use Rattle.judging.proofs.Meant.{refusal_6, refusal_7, refusal_9, implied_sound}
use Rattle.loop_entries.specs.declared.Stream.{Stream}
use Rattle.loop_entries.specs.Entries.{entry_head, stream_type, elementary_pid, es_info_length, no_stream, stream_of, shown_of, pair_of, marked_stream, marked_streams, streams_of}
use Rattle.loop_faults.specs.Conditions.{stream_at, pid_at, type_at, record_at, repeated_pid, repeated_index, given_at, conditions, applies, refusal_of}
use Rattle.es_loop.specs.declared.reader.LoopRead.{LoopRead}
use Rattle.es_loop.specs.Reading.{refused_with, verdict_at, judged, answer_by, loop_read}
use Rattle.es_loop.proofs.Pairs.{pair_marked, marked_at, marked_length}
use Rattle.es_loop.proofs.Verdicts.{judged_refused, judged_accepted}
use Rattle.es_loop.specs.Meaning.{KnownAt, RecordAt, OnlyView, ImpliedViews, LayerAt, written, implied, Condition, entry_unfit, descriptor_unfit, pid_seen, length_wrong, two_records, type_wrong, flags_wrong, index_held, embedded_wrong, Answers, too_long_lem, refuses, accepts}

pub by_head : (head rest : List ℕ) → length head ≡ 5 → es_info_length (head ++ rest) ≡ es_info_length head
by_head head rest h = ap (λ (vs : List ℕ). get_or vs 2 0) (read_before entry_head head rest (omega arith))

-- A refusal with a number below 10 is the one of its number and place.
pub named_refusal : (r : Refusal) → number_of r < 10 → refusal_of (number_of r) (place_of r) ≡ r
named_refusal LoopTooLong h = refl
named_refusal (DoesNotFit entry) h = refl
named_refusal (RepeatedPid entry) h = refl
named_refusal (WrongLength entry) h = refl
named_refusal (SecondRecord entry) h = refl
named_refusal (TypeRefused entry) h = refl
named_refusal (FlagsRefused entry) h = refl
named_refusal (RepeatedLayerIndex entry) h = refl
named_refusal (WrongEmbeddedIndex entry) h = refl
named_refusal NoSuchLayer h = absurd (omega arith)
named_refusal (EmbeddedLayerAbsent index) h = absurd (omega arith)
named_refusal (OutOfRange row) h = absurd (omega arith)
named_refusal (TimeOrderBroken row) h = absurd (omega arith)
named_refusal (Unpaired row) h = absurd (omega arith)
named_refusal (UsedTwice row) h = absurd (omega arith)
named_refusal NoRoom h = absurd (omega arith)
named_refusal SpanTooWide h = absurd (omega arith)
named_refusal NotVideoHeader h = absurd (omega arith)
named_refusal NoPts h = absurd (omega arith)
named_refusal FieldsDoNotFit h = absurd (omega arith)
named_refusal WrongMarker h = absurd (omega arith)
named_refusal PtsBeforeDts h = absurd (omega arith)
named_refusal TooWide h = absurd (omega arith)
named_refusal (LostSync packet) h = absurd (omega arith)
named_refusal (CounterGap packet) h = absurd (omega arith)
named_refusal (OutsidePacket packet) h = absurd (omega arith)
named_refusal (Scrambled packet) h = absurd (omega arith)
named_refusal PointsDoNotFit h = absurd (omega arith)
named_refusal ReservedEsCount h = absurd (omega arith)
named_refusal UnknownReference h = absurd (omega arith)
named_refusal NotStereoSet h = absurd (omega arith)
named_refusal WrongMvcExtension h = absurd (omega arith)
named_refusal RangesMeet h = absurd (omega arith)

-- WHAT IS SEEN OF EACH ENTRY ALONE.
module _ (reading : Reading) (entries : List Item) where
  abbrev alone : List Stream
  alone = map (stream_of reading) entries

  at_entry : {k : ℕ} {e : Item} → Nth entries k e → stream_at alone k ≡ stream_of reading e
  at_entry n = get_d_map (stream_of reading) no_stream n

  seen_known : {k t : ℕ} {info : List ℕ} → KnownAt reading entries k t info → (stream_at alone k).seen ≡ seen_of reading info
  seen_known {info = info} s =
      ap (λ (x : Stream). x.seen) (at_entry s.entry)
      ∙ ap (λ (b : Bool). cond b (seen_of reading info) nothing_seen) (ap (known reading) s.type ∙ s.is_known)

  held_first : {k t : ℕ} {r : Record} {layers : List LayerIndex} (l : RecordAt reading entries k t r layers)
      → gather held_in (kinds_of reading l.info) ≡ record { held = r; layers = layers } ∷ l.others
  held_first l = sym (ap (gather held_in) (descriptors_only reading l.descriptors)) ∙ l.first

  pub record_at_lem : {k t : ℕ} {r : Record} {layers : List LayerIndex} → RecordAt reading entries k t r layers → record_at alone k ≡ r
  record_at_lem l = ap (λ (x : Seen). x.«record») (seen_known l.stream) ∙ ap first_record (held_first l)

  layers_at : {k t : ℕ} {r : Record} {layers : List LayerIndex} → RecordAt reading entries k t r layers
      → (stream_at alone k).seen.embedded ≡ pad_to 63 no_layer layers
  layers_at l = ap (λ (x : Seen). x.embedded) (seen_known l.stream) ∙ ap (λ (hs : List Held). pad_to 63 no_layer (first_layers hs)) (held_first l)

  -- what is held stands in a descriptor
  held_written : (P : Record → Type 0) → ((h : HierarchyRecord) → P (Hierarchy h)) → ((x : ExtensionRecord) → P (Extension x))
      → (kinds : List Kind) (h : Held) (hs : List Held) → gather held_in kinds ≡ h ∷ hs → P h.held
  held_written P f g [] h hs e = absurd (nil≢cons e)
  held_written P f g (does_not_fit ∷ ks) h hs e = held_written P f g ks h hs e
  held_written P f g (skipped ∷ ks) h hs e = held_written P f g ks h hs e
  held_written P f g (wrong_length ∷ ks) h hs e = held_written P f g ks h hs e
  held_written P f g (hierarchy x ∷ ks) h hs e = subst (λ (y : Held). P y.held) (head-eq_of_cons-eq e) (f x)
  held_written P f g (extension x layers ∷ ks) h hs e = subst (λ (y : Held). P y.held) (head-eq_of_cons-eq e) (g x)

  -- so does every record
  pub by_descriptor : (P : Record → Type 0) → ((h : HierarchyRecord) → P (Hierarchy h)) → ((x : ExtensionRecord) → P (Extension x))
      → {k t : ℕ} {r : Record} {layers : List LayerIndex} → RecordAt reading entries k t r layers → P r
  by_descriptor P f g {r = r} {layers = layers} l = held_written P f g l.kinds (record { held = r; layers = layers }) l.others l.first

  pub is_record : {k t : ℕ} {r : Record} {layers : List LayerIndex} → RecordAt reading entries k t r layers → is_layer r ≡ true
  is_record l = by_descriptor (λ r. is_layer r ≡ true) (λ h. refl) (λ x. refl) l

  type_at_lem : {k t : ℕ} {info : List ℕ} → KnownAt reading entries k t info → type_at alone k ≡ t
  type_at_lem s = ap (λ (x : Stream). x.stream_type) (at_entry s.entry) ∙ s.type

  fits_known : {k t : ℕ} {info : List ℕ} → KnownAt reading entries k t info → (stream_at alone k).fits ≡ (seen_of reading info).fits
  fits_known {info = info} s =
      ap (λ (x : Stream). x.fits) (at_entry s.entry)
      ∙ ap (λ (b : Bool). (cond b (seen_of reading info) nothing_seen).fits) (ap (known reading) s.type ∙ s.is_known)

  pid_at_lem : {k : ℕ} {head info : List ℕ} → Nth entries k (whole head info) → pid_at alone k ≡ elementary_pid head
  pid_at_lem e = ap (λ (x : Stream). x.pid) (at_entry e)

  -- what stands among the descriptors stands among those computed
  computed : {info : List ℕ} {kinds : List Kind} {i : ℕ} {kind : Kind} → Descriptors reading info kinds → Nth kinds i kind → Nth (kinds_of reading info) i kind
  computed {i = i} {kind = kind} ds n = subst (λ (ks : List Kind). Nth ks i kind) (descriptors_only reading ds) n

-- THE TWO VIEWS: what the rule looks at of an entry is what the meaning says of it.
module _ (reading : Reading) (entries : List Item) where
  abbrev shown : List Shown
  shown = map shown_of (alone reading entries)

  shown_at : {k : ℕ} {e : Item} → Nth entries k e → Nth shown k (shown_of (stream_of reading e))
  shown_at n = nth_map shown_of (nth_map (stream_of reading) n)

  -- the entry that is shown
  which_entry : {k : ℕ} {s : Shown} → Nth shown k s → (e : Item) × Nth entries k e × (shown_of (stream_of reading e) ≡ s)
  which_entry n =
      let stream = nth_of_map shown_of (alone reading entries) n in
      let item = nth_of_map (stream_of reading) entries stream.1 in
      (item.0, item.1, ap shown_of item.2 ∙ stream.2)

  -- a view is a whole entry of a type that the reading knows
  view_at : {k t : ℕ} → is_view t ≡ true → (e : Item) → Nth entries k e → (stream_of reading e).stream_type ≡ t
      → (info : List ℕ) × KnownAt reading entries k t info
  view_at view broken n p = apart (ap is_view p ∙ view)
  view_at {t = t} view (whole head info) n p = (info, record { head = head; entry = n; type = p; is_known = view_known reading t view })

  described_at : {k : ℕ} {e : Item} → Nth entries k e → is_described (stream_of reading e).seen.«record» ≡ is_described (record_at (alone reading entries) k)
  described_at n = ap (λ (x : Stream). is_described x.seen.«record») (sym (at_entry reading entries n))

  -- a stream has a record or none
  pub data RecordCase {k t : ℕ} {info : List ℕ} (s : KnownAt reading entries k t info) : Type 0 where
    has_none : record_at (alone reading entries) k ≡ NoRecord → RecordCase s
    has_one : (layers : List LayerIndex) → RecordAt reading entries k t (record_at (alone reading entries) k) layers → RecordCase s

  pub record_case : {k t : ℕ} {info : List ℕ} (s : KnownAt reading entries k t info) → RecordCase s
  record_case {k} {t} {info} s = go (gather held_in (kinds_of reading info)) refl
    where
      seen : record_at (alone reading entries) k ≡ (seen_of reading info).«record»
      seen = ap (λ (x : Seen). x.«record») (seen_known reading entries s)

      go : (hs : List Held) → gather held_in (kinds_of reading info) ≡ hs → RecordCase s
      go [] q = has_none (seen ∙ ap first_record q)
      go (h ∷ hs) q =
          let same : record_at (alone reading entries) k ≡ h.held = seen ∙ ap first_record q in
          has_one h.layers
          (record {
            info = info;
            stream = s;
            kinds = kinds_of reading info;
            descriptors = descriptors_meant reading info;
            others = hs;
            first = q ∙ ap (λ (r : Record). record { held = r; layers = h.layers } ∷ hs) (sym same);
          })

  only_shown : {t : ℕ} → is_view t ≡ true → OnlyView reading entries t → OnlyOne t shown
  only_shown {t} view only =
      record {
        place = only.place;
        entry = shown_of (stream_of reading (whole only.stream.head only.info));
        stands = shown_at only.stream.entry;
        type = only.stream.type;
        alone = λ j other n p. alone_there j other n p;
        plain = described_at only.stream.entry ∙ undescribed (record_case only.stream);
      }
    where
      alone_there : (j : ℕ) (other : Shown) → Nth shown j other → other.type ≡ t → j ≡ only.place
      alone_there j other n p =
          let w = which_entry n in
          let v = view_at view w.0 w.1 (ap (λ (x : Shown). x.type) w.2 ∙ p) in
          only.alone j v.1.head v.0 v.1.entry v.1.type

      undescribed : RecordCase only.stream → is_described (record_at (alone reading entries) only.place) ≡ false
      undescribed (has_none e) = ap is_described e
      undescribed (has_one layers l) = go (record_at (alone reading entries) only.place) l
        where
          go : (r : Record) → RecordAt reading entries only.place t r layers → is_described r ≡ false
          go NoRecord l = refl
          go (Hierarchy h) l = absurd (only.plain h layers l)
          go (Extension x) l = refl
          go Implied l = refl

  shown_only : {t : ℕ} → is_view t ≡ true → OnlyOne t shown → OnlyView reading entries t
  shown_only {t} view only =
      let w = which_entry only.stands in
      let v = view_at view w.0 w.1 (ap (λ (x : Shown). x.type) w.2 ∙ only.type) in
      record {
        place = only.place;
        info = v.0;
        stream = v.1;
        alone = λ j head other n p. only.alone j (shown_of (stream_of reading (whole head other))) (shown_at n) p;
        plain = λ h layers l. both_ways {b = is_described (record_at (alone reading entries) only.place)} (ap is_described (record_at_lem reading entries l))
            (sym (described_at w.1) ∙ ap (λ (x : Shown). x.described) w.2 ∙ only.plain);
      }

  pub views_meant : pair_of (alone reading entries) ≡ true → ImpliedViews reading entries
  views_meant e = let pair = pair_meant shown e in record { first = shown_only refl pair.first; second = shown_only refl pair.second }

  pub views_only : ImpliedViews reading entries → pair_of (alone reading entries) ≡ true
  views_only views = pair_only (record { first = only_shown refl views.first; second = only_shown refl views.second })

-- CONDITIONS TO TESTS.
module _ (reading : Reading) (entries : List Item) where
  abbrev pair : Bool
  pair = pair_of (alone reading entries)

  abbrev streams : List Stream
  streams = marked_streams (alone reading entries)

  at_place : (k : ℕ) → stream_at streams k ≡ marked_stream pair (stream_at (alone reading entries) k)
  at_place k = marked_at pair (alone reading entries) k

  type_there : {k t : ℕ} {info : List ℕ} → KnownAt reading entries k t info → type_at streams k ≡ t
  type_there {k} s = ap (λ (x : Stream). x.stream_type) (at_place k) ∙ type_at_lem reading entries s

  pid_there : {k : ℕ} {head info : List ℕ} → Nth entries k (whole head info) → pid_at streams k ≡ elementary_pid head
  pid_there {k} e = ap (λ (x : Stream). x.pid) (at_place k) ∙ pid_at_lem reading entries e

  -- a record that stands in the bytes is kept
  pub record_there : {k t : ℕ} {r : Record} {layers : List LayerIndex} → RecordAt reading entries k t r layers → record_at streams k ≡ r
  record_there {k} {r = r} l =
      ap (λ (x : Stream). x.seen.«record») (at_place k)
      ∙ ap (marked_record pair (type_at (alone reading entries) k)) (record_at_lem reading entries l)
      ∙ layer_kept pair (type_at (alone reading entries) k) r (is_record reading entries l)

  layers_there : {k t : ℕ} {r : Record} {layers : List LayerIndex} → RecordAt reading entries k t r layers
      → (stream_at streams k).seen.embedded ≡ pad_to 63 no_layer layers
  layers_there {k} l = ap (λ (x : Stream). x.seen.embedded) (at_place k) ∙ layers_at reading entries l

  -- a layer of either kind
  pub layer_record : {k t : ℕ} {r : Record} {layers : List LayerIndex} → LayerAt reading entries k t r layers → record_at streams k ≡ r
  layer_record (written l) = record_there l
  layer_record {k} {t} (implied views s view bare) = marked_here (record_case reading entries s)
    where
      is_given_lem : given pair (type_at (alone reading entries) k) ≡ true
      is_given_lem = rw (type_at_lem reading entries s, view, views_only reading entries views)

      marked_here : RecordCase reading entries s → record_at streams k ≡ Implied
      marked_here (has_none e) =
          ap (λ (x : Stream). x.seen.«record») (at_place k)
          ∙ ap (λ (b : Bool). cond b (with_mark (record_at (alone reading entries) k)) (record_at (alone reading entries) k)) is_given_lem ∙ ap with_mark e
      marked_here (has_one layers l) = absurd (bare (record_at (alone reading entries) k) layers l)

  pub layer_type : {k t : ℕ} {r : Record} {layers : List LayerIndex} → LayerAt reading entries k t r layers → type_at streams k ≡ t
  layer_type (written l) = type_there l.stream
  layer_type (implied views s view bare) = type_there s

  pub is_layer_lem : {k t : ℕ} {r : Record} {layers : List LayerIndex} → LayerAt reading entries k t r layers → is_layer r ≡ true
  is_layer_lem (written l) = is_record reading entries l
  is_layer_lem (implied views s view bare) = refl

  -- what is given says nothing of a descriptor
  unmarked_type : (is_given : Bool) {k t : ℕ} {r : Record} {layers : List LayerIndex} → RecordAt reading entries k t r layers
      → type_not_allowed is_given t r ≡ type_not_allowed false t r
  unmarked_type is_given {t = t} l =
      by_descriptor reading entries (λ r. type_not_allowed is_given t r ≡ type_not_allowed false t r) (λ h. refl) (λ x. refl) l

  tested : {n k : ℕ} → Condition reading entries n k → applies streams n k ≡ true
  tested (entry_unfit {k} e) = ap (λ (x : Stream). not x.fits) (at_place k) ∙ ap (λ (x : Stream). not x.fits) (at_entry reading entries e)
  tested (descriptor_unfit {k} s ds d) =
      ap (λ (x : Stream). not x.fits) (at_place k) ∙ ap not (fits_known reading entries s)
      ∙ ap (λ (b : Bool). not (not b)) (any_true is_unfit (computed reading entries ds d) refl)
  tested (pid_seen {j} {k} h e e' p) =
      some_at (λ j. eqb (pid_at streams j) (pid_at streams k)) k j h
      (eq-eqb (pid_at streams j) (pid_at streams k) (pid_there e ∙ p ∙ sym (pid_there e')))
  tested (length_wrong {k} s ds d) =
      ap (λ (x : Stream). x.seen.wrong_length) (at_place k) ∙ ap (λ (x : Seen). x.wrong_length) (seen_known reading entries s)
      ∙ any_true is_wrong_length (computed reading entries ds d) refl
  tested (two_records {k} {info = info} s ds h) =
      ap (λ (x : Stream). x.seen.second_record) (at_place k) ∙ ap (λ (x : Seen). x.second_record) (seen_known reading entries s)
      ∙ lt-ltb 1 (length (gather held_in (kinds_of reading info))) (rw (descriptors_only reading ds) at h)
  tested (type_wrong {k} {t} {r} l w) =
      ap (λ (u : ℕ). type_not_allowed (given_at streams k) u (record_at streams k)) (type_there l.stream)
      ∙ ap (type_not_allowed (given_at streams k) t) (record_there l) ∙ unmarked_type (given_at streams k) l ∙ (refusal_6 false t r).1 w
  tested (flags_wrong {r = r} l w) = ap wrong_flags (record_there l) ∙ (refusal_7 r).1 w
  tested (index_held {j} {k} {t} {t'} {r} {r'} h l l' p) =
      some_at (λ j. same_index (type_at streams j) (record_at streams j) (type_at streams k) (record_at streams k)) k j h
      (ap (λ (u : ℕ). same_index u (record_at streams j) (type_at streams k) (record_at streams k)) (layer_type l)
      ∙ ap (λ (x : Record). same_index t x (type_at streams k) (record_at streams k)) (layer_record l)
      ∙ ap (λ (u : ℕ). same_index t r u (record_at streams k)) (layer_type l')
      ∙ ap (λ (x : Record). same_index t r t' x) (layer_record l')
      ∙ rw (is_layer_lem l, is_layer_lem l', eq-eqb (index_of t r) (index_of t' r') p))
  tested (embedded_wrong {k} {t} {r} {layers} l w) =
      ap (λ (u : ℕ). wrong_embedded u (record_at streams k) (stream_at streams k).seen.embedded) (type_there l.stream)
      ∙ ap (λ (x : Record). wrong_embedded t x (stream_at streams k).seen.embedded) (record_there l)
      ∙ ap (wrong_embedded t r) (layers_there l)
      ∙ (refusal_9 t r (pad_to 63 no_layer layers)).1 w

-- Bytes that hold no whole entry come last.
pub broken_last : {bytes : List ℕ} {entries : List Item} → Cuts 5 es_info_length bytes entries → (j : ℕ) → Nth entries j broken → suc j ≡ length entries
broken_last nothing_left j n = absurd (not-suc-le-zero (nth_inside n))
broken_last (cut_short h f) j here = refl
broken_last (cut_short h f) j (there n) = absurd (not-suc-le-zero (nth_inside n))
broken_last (piece p q c) j (there {k = i} n) = ap suc (broken_last c i n)

-- TESTS TO CONDITIONS.
module _ (reading : Reading) (entries : List Item) (last : (j : ℕ) → Nth entries j broken → suc j ≡ length entries) where
  abbrev seens : List Stream
  seens = map (stream_of reading) entries

  abbrev marked : List Stream
  marked = marked_streams seens

  -- An entry is broken, or of an unknown type, and then nothing is seen of it; or it is a known stream.
  pub data EntryCase (k : ℕ) : Type 0 where
    is_broken : Nth entries k broken → EntryCase k
    is_other : {head info : List ℕ} → Nth entries k (whole head info) → known reading (stream_type head) ≡ false → EntryCase k
    is_known : {t : ℕ} {info : List ℕ} → KnownAt reading entries k t info → EntryCase k

  pub entry_case : (k : ℕ) → k < length entries → EntryCase k
  entry_case k h = go (get_or entries k broken) (get_d_nth entries k broken h)
    where
      by_type : {head info : List ℕ} → Nth entries k (whole head info) → (b : Bool) → known reading (stream_type head) ≡ b → EntryCase k
      by_type {head} n true p = is_known (record { head = head; entry = n; type = refl; is_known = p })
      by_type n false p = is_other n p

      go : (e : Item) → Nth entries k e → EntryCase k
      go broken n = is_broken n
      go (whole head info) n = by_type n (known reading (stream_type head)) refl

  nothing_at : {k : ℕ} {head info : List ℕ} → Nth entries k (whole head info) → known reading (stream_type head) ≡ false
      → stream_of reading (whole head info) ≡ record { fits = true; stream_type = stream_type head; pid = elementary_pid head; seen = nothing_seen }
  nothing_at {head = head} {info = info} n p =
      ap
      (λ (b : Bool). record {
        fits = (cond b (seen_of reading info) nothing_seen).fits;
        stream_type = stream_type head;
        pid = elementary_pid head;
        seen = cond b (seen_of reading info) nothing_seen;
      })
      p

  -- what is seen of an entry, if anything is, is seen of a known stream
  seen_where : {A : Type 0} (test : Seen → Bool) → test nothing_seen ≡ false → {k : ℕ} → EntryCase k → test (stream_at seens k).seen ≡ true
      → ((t : ℕ) (info : List ℕ) → KnownAt reading entries k t info → test (seen_of reading info) ≡ true → A) → A
  seen_where test none (is_broken n) e f =
      apart (sym none ∙ sym (ap (λ (x : Stream). test x.seen) (at_entry reading entries n)) ∙ e)
  seen_where test none (is_other n p) e f =
      apart (sym none ∙ sym (ap (λ (x : Stream). test x.seen) (at_entry reading entries n ∙ nothing_at n p)) ∙ e)
  seen_where test none (is_known {t} {info} s) e f = f t info s (sym (ap test (seen_known reading entries s)) ∙ e)

  -- a stream that is a layer: by its record, or by its mark
  pub layer_where : {A : Type 0} {k : ℕ} → EntryCase k → is_layer (record_at marked k) ≡ true
      → ((t : ℕ) (layers : List LayerIndex) → LayerAt reading entries k t (record_at marked k) layers → A) → A
  layer_where {A} {k} d e f = go d
    where
      t : ℕ
      t = type_at seens k

      -- without a record only a mark makes a layer
      given_here : record_at seens k ≡ NoRecord → given (pair_of seens) t ≡ true
      given_here none = by_mark (given (pair_of seens) t) refl
        where
          by_mark : (b : Bool) → given (pair_of seens) t ≡ b → given (pair_of seens) t ≡ true
          by_mark true p = p
          by_mark false p =
              apart
              (sym
              (ap (λ (x : Stream). is_layer x.seen.«record») (at_place reading entries k)
              ∙ ap (λ (b : Bool). is_layer (cond b (with_mark (record_at seens k)) (record_at seens k))) p
              ∙ ap is_layer none)
              ∙ e)

      is_view_lem : record_at seens k ≡ NoRecord → is_view t ≡ true
      is_view_lem none = both_left (is_view t) (pair_of seens) (given_here none)

      marked_layer : {u : ℕ} {info : List ℕ} (s : KnownAt reading entries k u info) → record_at seens k ≡ NoRecord → LayerAt reading entries k u Implied []
      marked_layer {u} s none =
          implied (views_meant reading entries (both_right (is_view t) (pair_of seens) (given_here none))) s (rw (type_at_lem reading entries s) at (is_view_lem none))
          (λ r layers l. both_ways {b = is_layer r} (is_record reading entries l) (ap is_layer (sym (record_at_lem reading entries l) ∙ none)))

      by_record : {u : ℕ} {info : List ℕ} (s : KnownAt reading entries k u info) → RecordCase reading entries s → A
      by_record {u} s (has_none none) =
          let layer = marked_layer s none in
          f u [] (subst (λ (r : Record). LayerAt reading entries k u r []) (sym (layer_record reading entries layer)) layer)
      by_record {u} s (has_one layers l) =
          f u layers (written (subst (λ (r : Record). RecordAt reading entries k u r layers) (sym (record_there reading entries l)) l))

      -- of a broken entry, and of one of another type, there is neither
      no_layer_lem : record_at seens k ≡ NoRecord → is_view t ≡ false → A
      no_layer_lem none other = both_ways (is_view_lem none) other

      go : EntryCase k → A
      go (is_broken n) = no_layer_lem (ap (λ (x : Stream). x.seen.«record») (at_entry reading entries n)) (ap (λ (x : Stream). is_view x.stream_type) (at_entry reading entries n))
      go (is_other {head} n p) =
          no_layer_lem (ap (λ (x : Stream). x.seen.«record») (at_entry reading entries n ∙ nothing_at n p))
          (ap (λ (x : Stream). is_view x.stream_type) (at_entry reading entries n)
          ∙ false_unless (is_view (stream_type head)) (λ view. both_ways (view_known reading (stream_type head) view) p))
      go (is_known s) = by_record s (record_case reading entries s)

  -- what a stream without a record is answered with
  abbrev mark_alone : ℕ → Record
  mark_alone k = cond (given (pair_of seens) (type_at seens k)) Implied NoRecord

  -- a test of records that does not hold of these holds of one that stands in the bytes
  record_where : {A : Type 0} {k : ℕ} (test : Record → Bool) → test (mark_alone k) ≡ false → EntryCase k → test (record_at marked k) ≡ true
      → ((t : ℕ) (layers : List LayerIndex) → RecordAt reading entries k t (record_at marked k) layers → A) → A
  record_where {A} {k} test none d e f = go d
    where
      without : record_at seens k ≡ NoRecord → A
      without q =
          both_ways {b = test (record_at marked k)} e
          (ap test
          (ap (λ (x : Stream). x.seen.«record») (at_place reading entries k)
          ∙ ap (λ (r : Record). cond (given (pair_of seens) (type_at seens k)) (with_mark r) r) q)
          ∙ none)

      by_record : {u : ℕ} {info : List ℕ} (s : KnownAt reading entries k u info) → RecordCase reading entries s → A
      by_record s (has_none q) = without q
      by_record {u} s (has_one layers l) =
          f u layers (subst (λ (r : Record). RecordAt reading entries k u r layers) (sym (record_there reading entries l)) l)

      go : EntryCase k → A
      go (is_broken n) = without (ap (λ (x : Stream). x.seen.«record») (at_entry reading entries n))
      go (is_other n p) = without (ap (λ (x : Stream). x.seen.«record») (at_entry reading entries n ∙ nothing_at n p))
      go (is_known s) = by_record s (record_case reading entries s)

  -- 2
  named_2 : (k : ℕ) → EntryCase k → not (stream_at seens k).fits ≡ true → Condition reading entries 2 k
  named_2 k (is_broken n) e = entry_unfit n
  named_2 k (is_other n p) e =
      apart (sym (ap (λ (x : Stream). not x.fits) (at_entry reading entries n ∙ nothing_at n p)) ∙ e)
  named_2 k (is_known {t} {info} s) e =
      let unfit : (seen_of reading info).fits ≡ false = sym (fits_known reading entries s) ∙ not-true (stream_at seens k).fits e in
      let w = any_which is_unfit (kinds_of reading info) (not-false (any is_unfit (kinds_of reading info)) unfit) in
      descriptor_unfit s (descriptors_meant reading info) (subst (λ (x : Kind). Nth (kinds_of reading info) w.0 x) (is_unfit_lem w.1 w.3) w.2)
    where
      is_unfit_lem : (x : Kind) → is_unfit x ≡ true → x ≡ does_not_fit
      is_unfit_lem does_not_fit e = refl
      is_unfit_lem skipped e = apart e
      is_unfit_lem wrong_length e = apart e
      is_unfit_lem (hierarchy h) e = apart e
      is_unfit_lem (extension x layers) e = apart e

  -- 3: an entry that is broken has no PID
  pid_where : {A : Type 0} (k : ℕ) → k < length entries → pid_at seens k < 8192
      → ((head info : List ℕ) → Nth entries k (whole head info) → A) → A
  pid_where {A} k h p f = go (get_or entries k broken) (get_d_nth entries k broken h)
    where
      go : (e : Item) → Nth entries k e → A
      go broken n = absurd (omega (arith, ap (λ (x : Stream). x.pid) (at_entry reading entries n)))
      go (whole head info) n = f head info n

  pid_small : {k : ℕ} {head info : List ℕ} → Nth entries k (whole head info) → pid_at seens k < 8192
  pid_small {head = head} n = rw (pid_at_lem reading entries n) (omega arith)

  named_3 : (k : ℕ) → k < length entries → repeated_pid seens k ≡ true → Condition reading entries 3 k
  named_3 k h e = go (some_which (λ j. eqb (pid_at seens j) (pid_at seens k)) k e)
    where
      whole_at : (j : ℕ) → j < k → (x : Item) → Nth entries j x → (head info : List ℕ) × Nth entries j (whole head info)
      whole_at j l broken n = absurd (omega (arith, last j n))
      whole_at j l (whole head info) n = (head, info, n)

      go : (j : ℕ) × (j < k) × (eqb (pid_at seens j) (pid_at seens k) ≡ true) → Condition reading entries 3 k
      go (j, l, same) =
          let first = whole_at j l (get_or entries j broken) (get_d_nth entries j broken (omega arith)) in
          let equal : pid_at seens j ≡ pid_at seens k = eqb-true (pid_at seens j) (pid_at seens k) same in
          let small : pid_at seens j < 8192 = pid_small first.2 in
          pid_where k h (omega arith)
          (λ head info n. pid_seen l first.2 n (sym (pid_at_lem reading entries first.2) ∙ equal ∙ pid_at_lem reading entries n))

  named_4 : (k : ℕ) → EntryCase k → (stream_at seens k).seen.wrong_length ≡ true → Condition reading entries 4 k
  named_4 k d e =
      seen_where (λ (x : Seen). x.wrong_length) refl d e
      (λ t info s p.
      let w = any_which is_wrong_length (kinds_of reading info) p in
      length_wrong s (descriptors_meant reading info) (subst (λ (x : Kind). Nth (kinds_of reading info) w.0 x) (is_wrong_length_lem w.1 w.3) w.2))

  named_5 : (k : ℕ) → EntryCase k → (stream_at seens k).seen.second_record ≡ true → Condition reading entries 5 k
  named_5 k d e =
      seen_where (λ (x : Seen). x.second_record) refl d e
      (λ t info s p. two_records s (descriptors_meant reading info) (ltb-true 1 (length (gather held_in (kinds_of reading info))) p))

  named_8 : (k : ℕ) → k < length entries → repeated_index marked k ≡ true → Condition reading entries 8 k
  named_8 k h e = go (some_which (λ j. same_index (type_at marked j) (record_at marked j) (type_at marked k) (record_at marked k)) k e)
    where
      go : (j : ℕ) × (j < k) × (same_index (type_at marked j) (record_at marked j) (type_at marked k) (record_at marked k) ≡ true) → Condition reading entries 8 k
      go (j, l, same) =
          let a : Bool = is_layer (record_at marked j) in
          let b : Bool = is_layer (record_at marked k) in
          let i : Bool = eqb (index_of (type_at marked j) (record_at marked j)) (index_of (type_at marked k) (record_at marked k)) in
          let layers : (a && b) ≡ true = both_left (a && b) i same in
          let index = eqb-true (index_of (type_at marked j) (record_at marked j)) (index_of (type_at marked k) (record_at marked k)) (both_right (a && b) i same) in
          layer_where (entry_case j (omega arith)) (both_left a b layers)
          (λ t ls first. layer_where (entry_case k h) (both_right a b layers)
          (λ t' ls' second. index_held l first second
          (ap (λ (u : ℕ). index_of u (record_at marked j)) (sym (layer_type reading entries first)) ∙ index
          ∙ ap (λ (u : ℕ). index_of u (record_at marked k)) (layer_type reading entries second))))

  named : (n k : ℕ) → k < length entries → applies marked n k ≡ true → Condition reading entries n k
  named n k h e =
      handled (λ n. Condition reading entries n k) (conditions (given_at marked k) (repeated_pid marked k) (repeated_index marked k) (stream_at marked k))
      (apart, (apart, (two, (three, (four, (five, (six, (seven, (named_8 k h, (nine, tt)))))))))) n e
    where
      d : EntryCase k
      d = entry_case k h

      t : ℕ
      t = type_at marked k

      r : Record
      r = record_at marked k

      there : (j : ℕ) → stream_at marked j ≡ marked_stream (pair_of seens) (stream_at seens j)
      there j = at_place reading entries j

      two : not (stream_at marked k).fits ≡ true → Condition reading entries 2 k
      two e = named_2 k d (sym (ap (λ (x : Stream). not x.fits) (there k)) ∙ e)

      three : repeated_pid marked k ≡ true → Condition reading entries 3 k
      three e = named_3 k h (sym (some_same _ (λ j. eqb (pid_at seens j) (pid_at seens k)) k (λ j l. same j)) ∙ e)
        where
          same : (j : ℕ) → eqb (pid_at marked j) (pid_at marked k) ≡ eqb (pid_at seens j) (pid_at seens k)
          same j = ap₂ (λ (x y : Stream). eqb x.pid y.pid) (there j) (there k)

      four : (stream_at marked k).seen.wrong_length ≡ true → Condition reading entries 4 k
      four e = named_4 k d (sym (ap (λ (x : Stream). x.seen.wrong_length) (there k)) ∙ e)

      five : (stream_at marked k).seen.second_record ≡ true → Condition reading entries 5 k
      five e = named_5 k d (sym (ap (λ (x : Stream). x.seen.second_record) (there k)) ∙ e)

      -- whatever the marks are, a test that holds of neither
      of_neither : (test : Record → Bool) → test Implied ≡ false → test NoRecord ≡ false → test (mark_alone k) ≡ false
      of_neither test p q = either_way (λ x. test x ≡ false) (given (pair_of seens) (type_at seens k)) Implied NoRecord p q

      -- the marks of a reading are what the rule gives
      as_given_lem : type_not_allowed (given_at marked k) t (mark_alone k) ≡ false
      as_given_lem =
          ap (λ (b : Bool). type_not_allowed (given b (type_at marked k)) t (mark_alone k)) (pair_marked seens)
          ∙ ap (λ (x : Stream). type_not_allowed (given (pair_of seens) x.stream_type) t (mark_alone k)) (there k)
          ∙ mark_fits (given (pair_of seens) (type_at seens k))
        where
          mark_fits : (b : Bool) → type_not_allowed b t (cond b Implied NoRecord) ≡ false
          mark_fits true = refl
          mark_fits false = refl

      six : type_not_allowed (given_at marked k) t r ≡ true → Condition reading entries 6 k
      six e =
          record_where (type_not_allowed (given_at marked k) t) as_given_lem d e
          (λ u ls l. type_wrong l ((refusal_6 false u r).0
          (sym (ap (λ (v : ℕ). type_not_allowed (given_at marked k) v r) (type_there reading entries l.stream) ∙ unmarked_type reading entries (given_at marked k) l) ∙ e)))

      seven : wrong_flags r ≡ true → Condition reading entries 7 k
      seven e = record_where wrong_flags (of_neither wrong_flags refl refl) d e (λ u ls l. flags_wrong l ((refusal_7 r).0 e))

      nine : wrong_embedded t r (stream_at marked k).seen.embedded ≡ true → Condition reading entries 9 k
      nine e =
          record_where (λ x. wrong_embedded t x (stream_at marked k).seen.embedded)
          (of_neither (λ x. wrong_embedded t x (stream_at marked k).seen.embedded) (implied_sound t (stream_at marked k).seen.embedded) refl) d e
          (λ u ls l. embedded_wrong l ((refusal_9 u r (pad_to 63 no_layer ls)).0
          (sym (ap (λ (v : ℕ). wrong_embedded v r (stream_at marked k).seen.embedded) (type_there reading entries l.stream)
          ∙ ap (wrong_embedded u r) (layers_there reading entries l)) ∙ e)))

-- A condition holds at an entry that is there, and of a number up to 9.
condition_inside : (reading : Reading) (entries : List Item) {n k : ℕ} → Condition reading entries n k → k < length entries
condition_inside reading entries (entry_unfit e) = nth_inside e
condition_inside reading entries (descriptor_unfit s ds d) = nth_inside s.entry
condition_inside reading entries (pid_seen h e e' p) = nth_inside e'
condition_inside reading entries (length_wrong s ds d) = nth_inside s.entry
condition_inside reading entries (two_records s ds h) = nth_inside s.entry
condition_inside reading entries (type_wrong l w) = nth_inside l.stream.entry
condition_inside reading entries (flags_wrong l w) = nth_inside l.stream.entry
condition_inside reading entries (index_held h l (written l') p) = nth_inside l'.stream.entry
condition_inside reading entries (index_held h l (implied views s view bare) p) = nth_inside s.entry
condition_inside reading entries (embedded_wrong l w) = nth_inside l.stream.entry

condition_number : (reading : Reading) (entries : List Item) {n k : ℕ} → Condition reading entries n k → n < 10
condition_number reading entries (entry_unfit e) = omega arith
condition_number reading entries (descriptor_unfit s ds d) = omega arith
condition_number reading entries (pid_seen h e e' p) = omega arith
condition_number reading entries (length_wrong s ds d) = omega arith
condition_number reading entries (two_records s ds h) = omega arith
condition_number reading entries (type_wrong l w) = omega arith
condition_number reading entries (flags_wrong l w) = omega arith
condition_number reading entries (index_held h l l' p) = omega arith
condition_number reading entries (embedded_wrong l w) = omega arith

-- The refusal of a number whose condition holds at an entry has that number, and that entry for its place.
pub refusal_named : (reading : Reading) (entries : List Item) {n k : ℕ} → Condition reading entries n k
    → (number_of (refusal_of n k) ≡ n) × (place_of (refusal_of n k) ≡ k)
refusal_named reading entries (entry_unfit e) = (refl, refl)
refusal_named reading entries (descriptor_unfit s ds d) = (refl, refl)
refusal_named reading entries (pid_seen h e e' p) = (refl, refl)
refusal_named reading entries (length_wrong s ds d) = (refl, refl)
refusal_named reading entries (two_records s ds h) = (refl, refl)
refusal_named reading entries (type_wrong l w) = (refl, refl)
refusal_named reading entries (flags_wrong l w) = (refl, refl)
refusal_named reading entries (index_held h l l' p) = (refl, refl)
refusal_named reading entries (embedded_wrong l w) = (refl, refl)

module _ (reading : Reading) (bytes : List ℕ) where
  abbrev items : List Item
  items = cut 5 es_info_length bytes

  cuts : Cuts 5 es_info_length bytes items
  cuts = cut_cuts 5 es_info_length (omega arith) by_head bytes

  abbrev all : List Stream
  all = marked_streams (map (stream_of reading) items)

  same_length : length all ≡ length items
  same_length = marked_length (map (stream_of reading) items) ∙ length-map items (stream_of reading)

  -- THE ANSWER COMPUTED HAS THE MEANING.
  pub answer_meant : Answers reading bytes (loop_read reading bytes)
  answer_meant = by_length (dec_lt 1008 (length bytes))
    where
      by_number : length bytes ≤ 1008 → (n p : ℕ) → Lowest (applies all) 10 (length all) n p → Dec (n < 10)
          → Answers reading bytes (answer_by all (verdict_at (length all) (pair_of all) n p))
      by_number short n p b (yes h) =
          let held : Condition reading items n p = named reading items (broken_last cuts) n p (rw (← same_length) (b.inside h)) (b.holds h) in
          let r = refusal_named reading items held in
          rw (lt-ltb n 10 h)
          (refuses {refusal = refusal_of n p} short cuts (rw (r.0, r.1) held)
          (λ m j l c. both_ways (tested reading items c) (b.lower m j (rw r.0 at l) (rw same_length (condition_inside reading items c))))
          (λ j l c. both_ways (tested reading items (rw r.0 at c)) (b.earlier h j (rw r.1 at l))))
      by_number short n p b (no h) =
          rw (le-ltb n 10 (omega arith))
          (accepts short cuts
          (λ m j c. both_ways (tested reading items c)
          (b.lower m j (omega (arith, condition_number reading items c)) (rw same_length (condition_inside reading items c)))))

      by_length : Dec (1008 < length bytes) → Answers reading bytes (loop_read reading bytes)
      by_length (yes h) = rw (lt-ltb 1008 (length bytes) h) (too_long_lem h)
      by_length (no h) =
          rw (le-ltb 1008 (length bytes) (omega arith))
          (by_number (omega arith) (lowest_number (applies all) 10 (length all))
          (earliest_place (applies all) (lowest_number (applies all) 10 (length all)) (length all)) (lowest_is (applies all) 10 (length all))
          (dec_lt (lowest_number (applies all) 10 (length all)) 10))

-- AND NO OTHER ANSWER HAS IT.
module _ (reading : Reading) (bytes : List ℕ) (entries : List Item) (c : Cuts 5 es_info_length bytes entries) (short : length bytes ≤ 1008) where
  abbrev found : List Stream
  found = marked_streams (map (stream_of reading) entries)

  same_count : length found ≡ length entries
  same_count = marked_length (map (stream_of reading) entries) ∙ length-map entries (stream_of reading)

  cut_found : answer_by found (judged found) ≡ loop_read reading bytes
  cut_found =
      ap (λ (l : List Item). answer_by (marked_streams (map (stream_of reading) l)) (judged (marked_streams (map (stream_of reading) l)))) (cuts_unique 5 es_info_length (omega arith) by_head c)
      ∙ sym (ap (λ (b : Bool). answer_by (streams_of reading bytes) (cond b (Err LoopTooLong) (judged (streams_of reading bytes)))) (le-ltb 1008 (length bytes) short))

  found_inside : {k : ℕ} → k < length found → k < length entries
  found_inside h = rw same_count at h

  inside_found : {k : ℕ} → k < length entries → k < length found
  inside_found h = rw same_count h

  only_refused : (n k : ℕ) → Condition reading entries n k → ((m j : ℕ) → m < n → Condition reading entries m j → ⊥)
      → ((j : ℕ) → j < k → Condition reading entries n j → ⊥) → Lowest (applies found) 10 (length found) n k
  only_refused n k at-k lower earlier =
      let below : n < 10 = condition_number reading entries at-k in
      let inside : k < length entries = condition_inside reading entries at-k in
      record {
        within = omega arith;
        lower = λ m j l h. false_unless (applies found m j) (λ t. lower m j l (named reading entries (broken_last c) m j (found_inside h) t));
        inside = λ h. inside_found inside;
        holds = λ h. tested reading entries at-k;
        earlier = λ h j l. false_unless (applies found n j) (λ t. earlier j l (named reading entries (broken_last c) n j (omega arith) t));
      }

  only_accepted : ((n k : ℕ) → Condition reading entries n k → ⊥) → Lowest (applies found) 10 (length found) 10 0
  only_accepted none =
      record {
        within = omega arith;
        lower = λ m j l h. false_unless (applies found m j) (λ t. none m j (named reading entries (broken_last c) m j (found_inside h) t));
        inside = λ h. absurd (omega arith);
        holds = λ h. absurd (omega arith);
        earlier = λ h. absurd (omega arith);
      }

pub answer_only : (reading : Reading) (bytes : List ℕ) {answer : LoopRead} → Answers reading bytes answer → answer ≡ loop_read reading bytes
answer_only reading bytes (too_long_lem h) =
    sym (ap (λ (b : Bool). answer_by (streams_of reading bytes) (cond b (Err LoopTooLong) (judged (streams_of reading bytes)))) (lt-ltb 1008 (length bytes) h))
answer_only reading bytes (refuses {entries} {refusal} short c at-k lower earlier) =
    let all : List Stream = marked_streams (map (stream_of reading) entries) in
    let n : ℕ = number_of refusal in
    let below : n < 10 = condition_number reading entries at-k in
    ap refused_with (sym (named_refusal refusal below))
    ∙ ap (answer_by all)
    (judged_refused all n (place_of refusal) (only_refused reading bytes entries c short n (place_of refusal) at-k lower earlier) below)
    ∙ cut_found reading bytes entries c short
answer_only reading bytes (accepts {entries} short c none) =
    let all : List Stream = marked_streams (map (stream_of reading) entries) in
    ap (answer_by all) (judged_accepted all 0 (only_accepted reading bytes entries c short none)) ∙ cut_found reading bytes entries c short
