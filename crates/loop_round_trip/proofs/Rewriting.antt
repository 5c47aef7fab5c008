-- REWRITING: for a loop in the writer's own shape that the 2015 reading accepts, writing the answer gives the same bytes.
-- Assumes nothing.
use Rattle.std.specs.Prelude.{ℕ, zero, suc, ◌+◌, ◌-◌, ◌*◌, ◌/◌, ◌%◌, ◌^◌, ◌≤◌, ◌<◌, ◌≡◌, refl, Bool, true, false, cond, not, ◌&&◌, ◌||◌, List, [], ◌∷◌, ◌++◌, map, eqb, ltb, length, get_or, take, drop, replicate, Err, Ok}
use Rattle.std.proofs.Common.{sym, ◌∙◌, ap, ap₂, subst, append-nil, append_assoc, arith, not-suc-le-zero, lt-ltb, le-ltb, eq-eqb, eqb-true, ltb-false, length-append, length-drop, take-append-drop, take_at, take_all}
use Rattle.std.proofs.Math.Bool.{and-false}
use Rattle.std.proofs.Math.Decide.{dec_lt}
use Rattle.std.proofs.lemmas.List.{length-map}
use Rattle.std.proofs.Math.ListN.{get_or-eq_default}
use Rattle.descriptor_heads.proofs.Bits.{bit_there}
use Rattle.combinators.specs.Bools.{both_left, neither_left, neither_right}
use Rattle.combinators.specs.Lists.{Nth, here, there, nth_inside, nth_map, get_d_nth, get_d_map, any, gather}
use Rattle.combinators.specs.Padding.{pad_to, length_pad_to}
use Rattle.framing.specs.Pieces.{Item, whole, broken, cut, Cuts, nothing_left, does_not_fit, piece}
use Rattle.framing.proofs.Pieces.{cut_cuts}
use Rattle.syntax.specs.Table.{Table, AreBytes, number, bytes, read_table, write_table, fixed_hold, Sound, fits}
use Rattle.syntax.proofs.Laws.{write_read, read_fits, fit_fits}
use Rattle.syntax.proofs.Number.{drop_bytes}
use Rattle.syntax.proofs.Equations.{bounds}
use Rattle.vocabulary.specs.declared.LayerIndex.{LayerIndex}
use Rattle.vocabulary.specs.declared.stream_types.Reading.TheVariants.{Edition2015}
use Rattle.vocabulary.specs.StreamTypes.{known}
use Rattle.records.specs.declared.Record.{Record}
use Rattle.records.specs.declared.Record.TheVariants.{NoRecord, Hierarchy, Extension, Implied}
use Rattle.descriptor_heads.specs.Head.{descriptor_head, descriptor_tag, descriptor_length}
use Rattle.hierarchy.specs.Hierarchy.{hierarchy_descriptor, hierarchy_from, hierarchy_of, hierarchy_fields}
use Rattle.extension.specs.Extension.{extension_head, embedded_layer, no_layer, extension_from, extension_of, layer_index_of, layers_of, embedded_of, extension_fields, layer_table}
use Rattle.descriptors.specs.Looking.{Kind, skipped, wrong_length, hierarchy, extension, payload_kind, kind_of, Held, held_in, is_wrong_length, first_record, first_layers, seen_of, nothing_seen}
use Rattle.records.specs.Records.{record_tables}
use Rattle.implied.specs.Rule.{Shown, implied_pair, given}
use Rattle.implied.specs.Marking.{with_mark}
use Rattle.judging.specs.Meaning.{has_descriptor}
use Rattle.descriptors.specs.declared.looking.Seen.{Seen}
use Rattle.vocabulary.specs.declared.refusal.Refusal.{Refusal}
use Rattle.vocabulary.specs.Refusals.{place_of}
use Rattle.loop_entries.specs.declared.Entry.{Entry}
use Rattle.loop_entries.specs.declared.Stream.{Stream}
use Rattle.es_loop.specs.declared.reader.LoopRead.{LoopRead}
use Rattle.loop_faults.specs.Conditions.{stream_at, refusal_of}
use Rattle.es_loop.specs.Reading.{refused_with, loop_read}
use Rattle.es_loop.proofs.Verdicts.{Taken, taken}
use Rattle.descriptor_heads.proofs.Heads.{by_tag}
use Rattle.loop_entries.specs.Entries.{entry_head, stream_type, elementary_pid, es_info_length, seen_in, stream_of, shown_of, pair_of, marked_stream, streams_alone, streams_of, no_stream, entry_of, blank_entry}
use Rattle.es_loop.proofs.Pairs.{pair_marked, marked_length}
use Rattle.es_loop.proofs.Meant.{by_head}
use Rattle.syntax.specs.Named.{by_names}
use Rattle.syntax.specs.Filled.{Filled, bytes_in, too_wide_in}
use Rattle.loop_writer.specs.Layout.{entry_head_table, info_bytes, entry_bytes, loop_bytes, too_wide}
use Rattle.loop_writer.specs.Verdict.{stream_for, pair_for}
use Rattle.loop_writer.specs.Answer.{Written}
use Rattle.loop_writer.specs.Writing.{answer}
use Rattle.loop_round_trip.specs.ReadBack.{Typed, none, one_more as one-Typed, on_unknown_type, wrong_mark, writers_own_six, without_mark}
use Rattle.loop_round_trip.proofs.ReadBack.{entry_sound, descriptor_sound, hierarchy_sound, extension_sound, layer_sound}
use Rattle.loop_round_trip.proofs.RoundTrip.{Refuses, wide, too_long_lem, judged_by, no_room, writes, refuses, numbered, none_below, same_refusal}
use Rattle.loop_round_trip.specs.OwnShape.{Ones, ListOnes, no_more, one_more, OwnDescriptor, hierarchy_own, extension_own, OwnEntry, known_own, bare_own, OwnShape}

-- ---- parts of a list of bytes

bytes_left : (a b : List ℕ) → AreBytes (a ++ b) → AreBytes a
bytes_left [] b f i = omega arith
bytes_left (x ∷ a) b f zero = f 0
bytes_left (x ∷ a) b f (suc i) = bytes_left a b (λ j. f (suc j)) i

bytes_right : (a b : List ℕ) → AreBytes (a ++ b) → AreBytes b
bytes_right [] b f = f
bytes_right (x ∷ a) b f = bytes_right a b (λ j. f (suc j))

-- ---- one table: what was read is written again

again : {t : Table} → Sound t → (l : List ℕ) → AreBytes l → length l ≡ bytes t → fixed_hold t (number (bytes t) l) ≡ true → Ones t l
    → write_table t (read_table t l) ≡ l
again {t} s l b long f ones = write_read s l b (omega arith) f ones ∙ take_all (bytes t) l (omega arith)

fits_filled : (t : Table) (l : List ℕ) → not (fits t (read_table t l)) ≡ false
fits_filled t l = ap not (fit_fits (read_fits t l))

hierarchy_values : (a b c d t i f e ch : ℕ) → a < 2 → b < 2 → c < 2 → d < 2 → f < 2
    → hierarchy_fields (hierarchy_from (by_names (hierarchy_descriptor Edition2015) (a ∷ b ∷ c ∷ d ∷ t ∷ i ∷ f ∷ e ∷ ch ∷ []))) ≡ a ∷ b ∷ c ∷ d ∷ t ∷ i ∷ f ∷ e ∷ ch ∷ []
hierarchy_values a b c d t i f e ch ha hb hc hd hf = rw (bit_there a ha, bit_there b hb, bit_there c hc, bit_there d hd, bit_there f hf)

extension_values : (d i t n f c h : ℕ) → f < 2 → extension_fields (extension_from (by_names extension_head (d ∷ i ∷ t ∷ n ∷ f ∷ c ∷ h ∷ []))) ≡ d ∷ i ∷ t ∷ n ∷ f ∷ c ∷ h ∷ []
extension_values d i t n f c h hf = rw (bit_there f hf)

hierarchy_again : (payload : List ℕ) → hierarchy_fields (hierarchy_of Edition2015 payload) ≡ read_table (hierarchy_descriptor Edition2015) payload
hierarchy_again payload =
    let b = bounds (read_fits (hierarchy_descriptor Edition2015) payload) in
    hierarchy_values _ _ _ _ _ _ _ _ _ b.0 b.1.0 b.1.1.0 b.1.1.1.0 b.1.1.1.1.1.1.0

extension_again : (payload : List ℕ) → extension_fields (extension_of payload) ≡ read_table extension_head payload
extension_again payload =
    let b = bounds (read_fits extension_head payload) in
    extension_values _ _ _ _ _ _ _ b.1.1.1.1.0

list_again : (list : List ℕ) → AreBytes list → ListOnes list → gather bytes_in (map layer_table (layers_of list)) ≡ list
list_again [] b no_more = refl
list_again (byte ∷ list) b (one_more o os) =
    let first : AreBytes (byte ∷ []) = bytes_left (byte ∷ []) list b in
    ap₂ (λ (x y : List ℕ). x ++ y) (again layer_sound (byte ∷ []) first refl refl o) (list_again list (λ i. b (suc i)) os)

list_fits : (list : List ℕ) → any too_wide_in (map layer_table (layers_of list)) ≡ false
list_fits [] = refl
list_fits (byte ∷ list) = ap₂ ◌||◌ (fits_filled embedded_layer (byte ∷ [])) (list_fits list)

-- ---- one descriptor

data OwnKind (head payload : List ℕ) : Type 0 where
  as_hierarchy : descriptor_tag head ≡ 4 → length payload ≡ 4 → Ones (hierarchy_descriptor Edition2015) payload
      → kind_of Edition2015 (whole head payload) ≡ hierarchy (hierarchy_of Edition2015 payload) → OwnKind head payload
  as_extension : descriptor_tag head ≡ 63 → length payload ≡ 7 + (extension_of payload).num_embedded_layers
      → fixed_hold extension_head (number 7 payload) ≡ true → Ones extension_head payload → ListOnes (drop 7 payload)
      → kind_of Edition2015 (whole head payload) ≡ extension (extension_of payload) (embedded_of payload) → OwnKind head payload

-- the extension tag is the first byte
first_byte : (payload : List ℕ) → AreBytes payload → fixed_hold extension_head (number 7 payload) ≡ true → get_or payload 0 0 ≡ 6
first_byte payload b f =
    let tag : number 7 payload / 2 ^ 48 % 2 ^ 8 ≡ 6 = eqb-true (number 7 payload / 2 ^ 48 % 2 ^ 8) 6 (both_left (eqb (number 7 payload / 2 ^ 48 % 2 ^ 8) 6) true f) in
    omega (arith, b 0, b 1, b 2, b 3, b 4, b 5, b 6)

own_kind : {head payload : List ℕ} → AreBytes payload → OwnDescriptor (whole head payload) → is_wrong_length (kind_of Edition2015 (whole head payload)) ≡ false
    → OwnKind head payload
own_kind {head} {payload} b (hierarchy_own t l ones) w =
    as_hierarchy t l ones
    (ap (λ (tag : ℕ). payload_kind Edition2015 tag payload) t
    ∙ ap (λ (x : Bool). cond x (hierarchy (hierarchy_of Edition2015 payload)) wrong_length) (eq-eqb (length payload) 4 l))
own_kind {head} {payload} b (extension_own t l f ones list) w = go (eqb (length payload) (7 + n)) refl
  where
    n : ℕ
    n = (extension_of payload).num_embedded_layers

    kind : kind_of Edition2015 (whole head payload) ≡ cond (eqb (length payload) (7 + n)) (extension (extension_of payload) (embedded_of payload)) wrong_length
    kind =
        ap (λ (tag : ℕ). payload_kind Edition2015 tag payload) t
        ∙ ap₂ (λ (x y : Bool). cond (x && y) (cond (eqb (length payload) (7 + n)) (extension (extension_of payload) (embedded_of payload)) wrong_length) skipped)
        (lt-ltb 0 (length payload) (omega arith)) (eq-eqb (get_or payload 0 0) 6 (first_byte payload b f))

    go : (x : Bool) → eqb (length payload) (7 + n) ≡ x → OwnKind head payload
    go true p = as_extension t (eqb-true (length payload) (7 + n) p) f ones list (kind ∙ rw p)
    go false p =
        let wrong : kind_of Edition2015 (whole head payload) ≡ wrong_length = kind ∙ rw p in
        let z : ◌≡◌ {A = ℕ} 0 1 = cc (ap is_wrong_length wrong) in absurd (omega arith)

-- What a record is written as again: the descriptor bytes that it was read from.
record Back (r : Record) (layers : List LayerIndex) (info : List ℕ) : Type 0 where
  info_bytes : gather bytes_in (record_tables r layers) ≡ info
  info_fit : any too_wide_in (record_tables r layers) ≡ false
  info_room : length layers ≡ 63
  -- what stands in bytes is no mark
  unmarked : without_mark r ≡ r

head_again : (head : List ℕ) (tag long : ℕ) → AreBytes head → length head ≡ 2 → descriptor_tag head ≡ tag → descriptor_length head ≡ long
    → (write_table descriptor_head (tag ∷ long ∷ []) ≡ head) × (not (fits descriptor_head (tag ∷ long ∷ [])) ≡ false)
head_again head tag long b size t l =
    let values : read_table descriptor_head head ≡ tag ∷ long ∷ [] = ap₂ (λ (x y : ℕ). x ∷ y ∷ []) t l in (
      ap (write_table descriptor_head) (sym values) ∙ again descriptor_sound head b size refl refl,
      ap (λ (vs : List ℕ). not (fits descriptor_head vs)) (sym values) ∙ fits_filled descriptor_head head,
    )

module _ (head payload : List ℕ) (size : length head ≡ 2) (long : length payload ≡ descriptor_length head) (bh : AreBytes head) (bp : AreBytes payload) where
  hierarchy_back : descriptor_tag head ≡ 4 → length payload ≡ 4 → Ones (hierarchy_descriptor Edition2015) payload
      → Back (Hierarchy (hierarchy_of Edition2015 payload)) (pad_to 63 no_layer []) (head ++ payload)
  hierarchy_back t l ones =
      let front = head_again head 4 4 bh size t (sym long ∙ l) in
      record {
        info_bytes = ap₂ (λ (x y : List ℕ). x ++ y) front.0
            (ap (write_table (hierarchy_descriptor Edition2015)) (hierarchy_again payload) ∙ again hierarchy_sound payload bp l refl ones);
        info_fit = ap (λ (vs : List ℕ). not (fits (hierarchy_descriptor Edition2015) vs) || false) (hierarchy_again payload)
            ∙ ap (λ (x : Bool). x || false) (fits_filled (hierarchy_descriptor Edition2015) payload);
        info_room = refl;
        unmarked = refl;
      }

  module _ (t : descriptor_tag head ≡ 63) (l : length payload ≡ 7 + (extension_of payload).num_embedded_layers)
      (f : fixed_hold extension_head (number 7 payload) ≡ true) (ones : Ones extension_head payload) (list : ListOnes (drop 7 payload)) where
    abbrev n : ℕ
    n = (extension_of payload).num_embedded_layers

    counted : length (embedded_of payload) ≡ n
    counted = length-map (drop 7 payload) layer_index_of ∙ length-drop 7 payload ∙ omega arith

    n_small : n < 64
    n_small = (bounds (read_fits extension_head payload)).1.1.1.1.1.0

    kept : take n (pad_to 63 no_layer (embedded_of payload)) ≡ embedded_of payload
    kept = take_at (embedded_of payload) (replicate (63 - length (embedded_of payload)) no_layer) n counted

    extension_back : Back (Extension (extension_of payload)) (pad_to 63 no_layer (embedded_of payload)) (head ++ payload)
    extension_back =
        let front = head_again head 63 (7 + n) bh size t (sym long ∙ l) in
        record {
          info_bytes = ap₂ (λ (x y : List ℕ). x ++ y) front.0
              (ap₂ (λ (x y : List ℕ). x ++ y)
              (ap (write_table extension_head) (extension_again payload) ∙ write_read extension_sound payload bp (omega arith) f ones)
              (ap (λ (ls : List LayerIndex). gather bytes_in (map layer_table ls)) kept ∙ list_again (drop 7 payload) (drop_bytes 7 payload bp) list)
              ∙ take-append-drop 7 payload);
          info_fit = ap₂ ◌||◌ front.1
              (ap₂ ◌||◌ (ap (λ (vs : List ℕ). not (fits extension_head vs)) (extension_again payload) ∙ fits_filled extension_head payload)
              (ap (λ (ls : List LayerIndex). any too_wide_in (map layer_table ls)) kept ∙ list_fits (drop 7 payload)));
          info_room = length_pad_to 63 no_layer (embedded_of payload) (omega (arith, counted, n_small));
          unmarked = refl;
        }

  own_back : OwnKind head payload
      → Back (first_record (held_in (kind_of Edition2015 (whole head payload)))) (pad_to 63 no_layer (first_layers (held_in (kind_of Edition2015 (whole head payload)))))
      (head ++ payload)
  own_back (as_hierarchy t l ones k) =
      subst (λ (kind : Kind). Back (first_record (held_in kind)) (pad_to 63 no_layer (first_layers (held_in kind))) (head ++ payload)) (sym k) (hierarchy_back t l ones)
  own_back (as_extension t l f ones list k) =
      subst (λ (kind : Kind). Back (first_record (held_in kind)) (pad_to 63 no_layer (first_layers (held_in kind))) (head ++ payload)) (sym k)
      (extension_back t l f ones list)

one_held : {head payload : List ℕ} → OwnKind head payload → length (held_in (kind_of Edition2015 (whole head payload))) ≡ 1
one_held (as_hierarchy t l ones k) = ap (λ (kind : Kind). length (held_in kind)) k
one_held (as_extension t l f ones list k) = ap (λ (kind : Kind). length (held_in kind)) k

-- ---- the descriptors of an entry

abbrev IsWhole : Item → Type 0
IsWhole (whole head body) = Unit {0}
IsWhole broken = ⊥

own_whole : {d : Item} → OwnDescriptor d → IsWhole d
own_whole (hierarchy_own t l ones) = tt
own_whole (extension_own t l f ones list) = tt

abbrev kinds : List Item → List Kind
kinds ds = map (kind_of Edition2015) ds

record_back : {info : List ℕ} {ds : List Item} → AreBytes info → Cuts 2 descriptor_length info ds → ((k : ℕ) (d : Item) → Nth ds k d → OwnDescriptor d)
    → any is_wrong_length (kinds ds) ≡ false → ltb 1 (length (gather held_in (kinds ds))) ≡ false
    → Back (first_record (gather held_in (kinds ds))) (pad_to 63 no_layer (first_layers (gather held_in (kinds ds)))) info
record_back b nothing_left own w s = record { info_bytes = refl; info_fit = refl; info_room = refl; unmarked = refl }
record_back b (does_not_fit h f) own w s = absurd (own_whole (own 0 broken here))
record_back b (piece {head} {body} p q nothing_left) own w s =
    let bh : AreBytes head = bytes_left head (body ++ []) b in
    let bb : AreBytes body = bytes_left body [] (bytes_right head (body ++ []) b) in
    let kind : Kind = kind_of Edition2015 (whole head body) in
    let first : OwnKind head body = own_kind bb (own 0 (whole head body) here) (neither_left (is_wrong_length kind) false w) in
    rw (append-nil body, append-nil (held_in kind)) (own_back head body p q bh bb first)
record_back b (piece p q (does_not_fit h f)) own w s = absurd (own_whole (own 1 broken (there here)))
record_back b (piece {head} {body} p q (piece {head = head'} {body = body'} {rest = rest'} {items = items'} p' q' c')) own w s =
    -- a second descriptor is a second record
    let tail : List ℕ = head' ++ (body' ++ rest') in
    let bb : AreBytes body = bytes_left body tail (bytes_right head (body ++ tail) b) in
    let bb' : AreBytes body' = bytes_left body' rest' (bytes_right head' (body' ++ rest') (bytes_right body tail (bytes_right head (body ++ tail) b))) in
    let kind : Kind = kind_of Edition2015 (whole head body) in
    let kind' : Kind = kind_of Edition2015 (whole head' body') in
    let more : List Held = gather held_in (kinds items') in
    let w' : any is_wrong_length (kind' ∷ kinds items') ≡ false = neither_right (is_wrong_length kind) (any is_wrong_length (kind' ∷ kinds items')) w in
    let first : OwnKind head body = own_kind bb (own 0 (whole head body) here) (neither_left (is_wrong_length kind) (any is_wrong_length (kind' ∷ kinds items')) w) in
    let second : OwnKind head' body' =
    own_kind bb' (own 1 (whole head' body') (there here)) (neither_left (is_wrong_length kind') (any is_wrong_length (kinds items')) w') in
    let few : length (held_in kind ++ (held_in kind' ++ more)) ≤ 1 = ltb-false 1 (length (held_in kind ++ (held_in kind' ++ more))) s in
    absurd (omega (arith, one_held first, one_held second, length-append (held_in kind) (held_in kind' ++ more), length-append (held_in kind') more))

-- ---- one entry

-- What an entry is written as again: its own bytes.
record EntryBack (e : Entry) (entry : List ℕ) : Type 0 where
  bytes_again : entry_bytes e ≡ entry
  fit_again : too_wide e ≡ false
  room_again : length e.embedded ≡ 63
  known_again : on_unknown_type e ≡ false
  unmarked_again : without_mark e.«record» ≡ e.«record»

module _ (head info : List ℕ) (size : length head ≡ 5) (long : length info ≡ es_info_length head) (bh : AreBytes head) (ones : Ones entry_head head) where
  abbrev entry_with : Seen → Entry
  entry_with seen =
      record { stream_type = stream_type head; pid = elementary_pid head; «record» = seen.«record»; embedded = seen.embedded }

  entry_again : (seen : Seen) → Back seen.«record» seen.embedded info → on_unknown_type (entry_with seen) ≡ false → EntryBack (entry_with seen) (head ++ info)
  entry_again seen back unknown =
      let e : Entry = entry_with seen in
      let values : read_table entry_head head ≡ stream_type head ∷ elementary_pid head ∷ length (info_bytes e) ∷ [] =
      ap (λ (n : ℕ). stream_type head ∷ elementary_pid head ∷ n ∷ []) (sym (ap length back.info_bytes ∙ long)) in
      record {
        bytes_again = ap₂ (λ (x y : List ℕ). x ++ y) (ap (write_table entry_head) (sym values) ∙ again entry_sound head bh size refl ones) back.info_bytes;
        fit_again = ap₂ ◌||◌ (ap (λ (vs : List ℕ). not (fits entry_head vs)) (sym values) ∙ fits_filled entry_head head) back.info_fit;
        room_again = back.info_room;
        known_again = unknown;
        unmarked_again = back.unmarked;
      }

entry_back : {head info : List ℕ} → length head ≡ 5 → length info ≡ es_info_length head → AreBytes head → AreBytes info → OwnEntry (whole head info)
    → (stream_of Edition2015 (whole head info)).seen.wrong_length ≡ false → (stream_of Edition2015 (whole head info)).seen.second_record ≡ false
    → EntryBack (entry_of (stream_of Edition2015 (whole head info))) (head ++ info)
entry_back {head} {info} size long bh bi (known_own ones kn own) w s =
    let is_seen : seen_in Edition2015 (stream_type head) info ≡ seen_of Edition2015 info =
    ap (λ (b : Bool). cond b (seen_of Edition2015 info) nothing_seen) kn in
    subst (λ (x : Seen). EntryBack (entry_with head info size long bh ones x) (head ++ info)) (sym is_seen)
    (entry_again head info size long bh ones (seen_of Edition2015 info)
    (record_back bi (cut_cuts 2 descriptor_length (omega arith) by_tag info) own (sym (ap (λ (x : Seen). x.wrong_length) is_seen) ∙ w)
    (sym (ap (λ (x : Seen). x.second_record) is_seen) ∙ s))
    (ap (λ (b : Bool). has_descriptor (seen_of Edition2015 info).«record» && not b) kn ∙ and-false (has_descriptor (seen_of Edition2015 info).«record»)))
entry_back {head} size long bh bi (bare_own ones) w s =
    let is_seen : seen_in Edition2015 (stream_type head) [] ≡ nothing_seen = nothing (known Edition2015 (stream_type head)) in
    subst (λ (x : Seen). EntryBack (entry_with head [] size long bh ones x) (head ++ [])) (sym is_seen)
    (entry_again head [] size long bh ones nothing_seen (record { info_bytes = refl; info_fit = refl; info_room = refl; unmarked = refl }) refl)
  where
    nothing : (b : Bool) → cond b nothing_seen nothing_seen ≡ nothing_seen
    nothing true = refl
    nothing false = refl

-- ---- the marks: for an implied layer there is no descriptor, so that its bytes are those without the mark

tables_kept : (is_given : Bool) (r : Record) (layers : List LayerIndex) → record_tables (cond is_given (with_mark r) r) layers ≡ record_tables r layers
tables_kept true NoRecord layers = refl
tables_kept true (Hierarchy h) layers = refl
tables_kept true (Extension x) layers = refl
tables_kept true Implied layers = refl
tables_kept false r layers = refl

descriptor_kept : (is_given : Bool) (r : Record) → has_descriptor (cond is_given (with_mark r) r) ≡ has_descriptor r
descriptor_kept true NoRecord = refl
descriptor_kept true (Hierarchy h) = refl
descriptor_kept true (Extension x) = refl
descriptor_kept true Implied = refl
descriptor_kept false r = refl

right_mark : (is_given : Bool) (r : Record) → without_mark r ≡ r → wrong_mark is_given (cond is_given (with_mark r) r) ≡ false
right_mark true NoRecord p = refl
right_mark true (Hierarchy h) p = refl
right_mark true (Extension x) p = refl
right_mark true Implied p = refl
right_mark false NoRecord p = refl
right_mark false (Hierarchy h) p = refl
right_mark false (Extension x) p = refl
right_mark false Implied p = let z : ◌≡◌ {A = ℕ} 0 1 = cc in absurd (omega arith)

-- What an entry is written as again with its mark, beside the two views or not: its own bytes, and nothing that the writer alone refuses.
record MarkedBack (pair : Bool) (e : Entry) (entry : List ℕ) : Type 0 where
  marked_bytes : entry_bytes e ≡ entry
  marked_fit : too_wide e ≡ false
  marked_room : length e.embedded ≡ 63
  marked_right : writers_own_six pair e ≡ false

marked_back : (pair : Bool) (s : Stream) {entry : List ℕ} → EntryBack (entry_of s) entry → MarkedBack pair (entry_of (marked_stream pair s)) entry
marked_back pair s back =
    let is_given : Bool = given pair s.stream_type in
    let r : Record = s.seen.«record» in
    let tables : record_tables (cond is_given (with_mark r) r) s.seen.embedded ≡ record_tables r s.seen.embedded = tables_kept is_given r s.seen.embedded in
    let head : List Filled → Filled = λ ts. entry_head_table s.stream_type s.pid (length (gather bytes_in ts)) in
    record {
      marked_bytes = ap (λ (ts : List Filled). gather bytes_in (head ts ∷ ts)) tables ∙ back.bytes_again;
      marked_fit = ap (λ (ts : List Filled). any too_wide_in (head ts ∷ ts)) tables ∙ back.fit_again;
      marked_room = back.room_again;
      marked_right = ap₂ ◌||◌
          (ap (λ (b : Bool). b && not (known Edition2015 s.stream_type)) (descriptor_kept is_given r) ∙ back.known_again)
          (right_mark is_given r back.unmarked_again);
    }

-- ---- the loop

record LoopBack (pair : Bool) (es : List Entry) (loop : List ℕ) : Type 0 where
  loop_bytes : loop_bytes es ≡ loop
  loop_fit : any too_wide es ≡ false
  loop_typed : Typed es
  loop_right : (k : ℕ) (e : Entry) → Nth es k e → writers_own_six pair e ≡ false

entry_whole : {i : Item} → OwnEntry i → IsWhole i
entry_whole (known_own ones kn own) = tt
entry_whole (bare_own ones) = tt

abbrev Fine : Item → Type 0
Fine i = ((stream_of Edition2015 i).seen.wrong_length ≡ false) × ((stream_of Edition2015 i).seen.second_record ≡ false)

abbrev entries : Bool → List Item → List Entry
entries pair items = map entry_of (map (marked_stream pair) (map (stream_of Edition2015) items))

loop_back : (pair : Bool) {loop : List ℕ} {items : List Item} → AreBytes loop → Cuts 5 es_info_length loop items → ((k : ℕ) (i : Item) → Nth items k i → OwnEntry i)
    → ((k : ℕ) (i : Item) → Nth items k i → Fine i) → LoopBack pair (entries pair items) loop
loop_back pair b nothing_left own fine = record { loop_bytes = refl; loop_fit = refl; loop_typed = none; loop_right = λ k e n. absurd (not-suc-le-zero (nth_inside n)) }
loop_back pair b (does_not_fit h f) own fine = absurd (entry_whole (own 0 broken here))
loop_back pair b (piece {head} {body} {rest} {items} p q c) own fine =
    let bh : AreBytes head = bytes_left head (body ++ rest) b in
    let br : AreBytes (body ++ rest) = bytes_right head (body ++ rest) b in
    let first = marked_back pair (stream_of Edition2015 (whole head body))
    (entry_back p q bh (bytes_left body rest br) (own 0 (whole head body) here) (fine 0 (whole head body) here).0 (fine 0 (whole head body) here).1) in
    let later = loop_back pair (bytes_right body rest br) c (λ k i n. own (suc k) i (there n)) (λ k i n. fine (suc k) i (there n)) in
    record {
      loop_bytes = ap₂ (λ (x y : List ℕ). x ++ y) first.marked_bytes later.loop_bytes ∙ append_assoc head body rest;
      loop_fit = ap₂ ◌||◌ first.marked_fit later.loop_fit;
      loop_typed = one-Typed first.marked_room later.loop_typed;
      loop_right = all first.marked_right later.loop_right;
    }
  where
    all : {e : Entry} {es : List Entry} → writers_own_six pair e ≡ false → ((k : ℕ) (x : Entry) → Nth es k x → writers_own_six pair x ≡ false) → (k : ℕ) (x : Entry)
        → Nth (e ∷ es) k x → writers_own_six pair x ≡ false
    all u f zero x here = u
    all u f (suc k) x (there n) = f k x n

-- an entry takes at least the five bytes of its head
least_size : (es : List Entry) → 5 * length es ≤ length (loop_bytes es)
least_size [] = omega arith
least_size (e ∷ es) = omega (arith, least_size es, length-append (entry_bytes e) (loop_bytes es))

-- the writer sees the two views that the reader saw
pair_written : (ss : List Stream) → pair_for (map entry_of ss) ≡ pair_of ss
pair_written ss = ap implied_pair (go ss)
  where
    go : (ss : List Stream) → map shown_of (map stream_for (map entry_of ss)) ≡ map shown_of ss
    go [] = refl
    go (s ∷ ss) = ap (λ (l : List Shown). shown_of s ∷ l) (go ss)

-- ---- REWRITING

module _ (loop : List ℕ) (b : AreBytes loop) (own : OwnShape loop) (ok : (loop_read Edition2015 loop).outcome ≡ Ok tt) where
  abbrev items : List Item
  items = cut 5 es_info_length loop

  abbrev pair : Bool
  pair = pair_of (streams_alone Edition2015 loop)

  abbrev streams : List Stream
  streams = streams_of Edition2015 loop

  known_taken : Taken Edition2015 loop
  known_taken = taken Edition2015 loop ok

  fine : (k : ℕ) (i : Item) → Nth items k i → Fine i
  fine k i n =
      let long : length streams ≡ length items = marked_length (streams_alone Edition2015 loop) ∙ length-map items (stream_of Edition2015) in
      let inside : k < length streams = rw long (nth_inside n) in
      let at : stream_at streams k ≡ marked_stream pair (stream_of Edition2015 i) = get_d_map (marked_stream pair) no_stream (nth_map (stream_of Edition2015) n) in (
        sym (ap (λ (s : Stream). s.seen.wrong_length) at) ∙ known_taken.none 4 k (omega arith) inside,
        sym (ap (λ (s : Stream). s.seen.second_record) at) ∙ known_taken.none 5 k (omega arith) inside,
      )

  back : LoopBack pair (map entry_of streams) loop
  back = loop_back pair b (cut_cuts 5 es_info_length (omega arith) by_head loop) own fine

  abbrev array : List Entry
  array = pad_to 201 blank_entry (map entry_of streams)

  -- the entries of the answer
  all_given : take (length streams) array ≡ map entry_of streams
  all_given =
      take_at (map entry_of streams) (replicate (201 - length (map entry_of streams)) blank_entry) (length streams) (length-map streams entry_of)

  same_bytes : loop_bytes (take (length streams) array) ≡ loop
  same_bytes = ap loop_bytes all_given ∙ back.loop_bytes

  module _ (room : ℕ) (large : length loop ≤ room) where
    few : length streams ≤ 201
    few = omega (arith, least_size (map entry_of streams), ap length back.loop_bytes, length-map streams entry_of, known_taken.short)

    typed : Typed (take (length streams) array)
    typed = rw all_given back.loop_typed

    right_at : (k : ℕ) → writers_own_six (pair_for (take (length streams) array)) (get_or (take (length streams) array) k blank_entry) ≡ false
    right_at k = rw (all_given, pair_written streams, pair_marked (streams_alone Edition2015 loop)) (go (dec_lt k (length (map entry_of streams))))
      where
        go : Dec (k < length (map entry_of streams)) → writers_own_six pair (get_or (map entry_of streams) k blank_entry) ≡ false
        go (yes h) = back.loop_right k (get_or (map entry_of streams) k blank_entry) (get_d_nth (map entry_of streams) k blank_entry h)
        go (no h) = ap (writers_own_six pair) (get_or-eq_default (map entry_of streams) blank_entry (omega arith))

    -- the writer does not refuse
    not_refused : {r : Refusal} → Refuses room (length streams) array r → answer room (length streams) array ≡ Err r → ⊥
    not_refused (wide p) e =
        let z : ◌≡◌ {A = ℕ} 0 1 = cc (p, ap (any too_wide) all_given, back.loop_fit) in omega arith
    not_refused (too_long_lem p q) e =
        let long : (ltb 201 (length streams) || ltb 1008 (length (loop_bytes (take (length streams) array)))) ≡ false =
        rw (same_bytes, le-ltb 201 (length streams) few, le-ltb 1008 (length loop) known_taken.short) in
        let z : ◌≡◌ {A = ℕ} 0 1 = cc (q, long) in omega arith
    not_refused (judged_by {n} {k} p f short low l) e =
        let named = numbered n k l (none_below (take (length streams) array) n k (low.holds l)) in
        let refused : loop_read Edition2015 loop ≡ refused_with (refusal_of n k) =
        rw same_bytes at (same_refusal room (length streams) array typed few e (omega (arith, named.0)) (λ six. right_at (place_of (refusal_of n k)))) in
        let z : ◌≡◌ {A = ℕ} 0 1 = cc (ok, ap (λ (x : LoopRead). x.outcome) refused) in omega arith
    not_refused (no_room p q) e = omega (arith, ap length same_bytes)

    same_size : (w : Written) → answer room (length streams) array ≡ w → answer room (length streams) array ≡ Ok (length loop)
    same_size (Ok n) e = e ∙ ap Ok ((writes room (length streams) array e).size ∙ ap length same_bytes)
    same_size (Err r) e = absurd (not_refused (refuses room (length streams) array e) e)

    -- WRITING THE ANSWER GIVES THE SAME BYTES, and is accepted wherever there is room for them.
    pub rewrite : let read : LoopRead = loop_read Edition2015 loop in
        (answer room read.count read.entries ≡ Ok (length loop)) × (loop_bytes (take read.count read.entries) ≡ loop)
    rewrite =
        subst (λ (x : LoopRead). (answer room x.count x.entries ≡ Ok (length loop)) × (loop_bytes (take x.count x.entries) ≡ loop))
        (sym known_taken.is_read) (same_size (answer room (length streams) array) refl, same_bytes)
