-- Reading what was written sees each entry as it was given, with blanks beyond its count and the marks that the rule gives, under the 2015 reading. What an
-- entry is read as stands in specs/ReadBack.antt.
-- Assumes nothing.
use Rattle.std.specs.Prelude.{ℕ, ◌+◌, ◌≡◌, refl, Bool, true, false, ◌&&◌, ◌||◌, List, [], ◌∷◌, ◌++◌, map, length, get_or, take}
use Rattle.std.proofs.Common.{sym, ◌∙◌, ap, ap₂, subst, append-nil, append_assoc, arith, lt-ltb, eq-eqb, length-take-le}
use Rattle.combinators.specs.Bools.{neither_left, neither_right, both_ways, false_unless}
use Rattle.combinators.specs.Lists.{Nth, here, there, any, gather}
use Rattle.combinators.specs.Padding.{pad_to}
use Rattle.framing.specs.Pieces.{Item, whole, cut, Cuts, nothing_left, piece}
use Rattle.framing.proofs.Pieces.{cuts_unique}
use Rattle.syntax.specs.Table.{read_table, write_table, Fit, Sound}
use Rattle.syntax.proofs.Laws.{read_write, length_written}
use Rattle.vocabulary.specs.declared.LayerIndex.{LayerIndex}
use Rattle.vocabulary.specs.declared.stream_types.Reading.TheVariants.{Edition2015}
use Rattle.vocabulary.specs.StreamTypes.{known}
use Rattle.hierarchy.specs.declared.HierarchyRecord.{HierarchyRecord}
use Rattle.extension.specs.declared.ExtensionRecord.{ExtensionRecord}
use Rattle.records.specs.declared.Record.{Record}
use Rattle.records.specs.declared.Record.TheVariants.{NoRecord, Hierarchy, Extension, Implied}
use Rattle.descriptors.specs.declared.looking.Seen.{Seen}
use Rattle.descriptor_heads.specs.Head.{descriptor_head, descriptor_length, head_table}
use Rattle.hierarchy.specs.Hierarchy.{hierarchy_descriptor, hierarchy_from, hierarchy_of, hierarchy_fields, hierarchy_given}
use Rattle.extension.specs.Extension.{extension_head, embedded_layer, no_layer, extension_from, extension_of, layers_of, extension_fields, layer_table, extension_given}
use Rattle.descriptor_heads.proofs.Heads.{by_tag}
use Rattle.descriptors.specs.Looking.{Kind, hierarchy, extension, payload_kind, extension_kind, kind_of, kinds_of, seen_of_kinds, seen_of}
use Rattle.loop_entries.specs.declared.Entry.{Entry}
use Rattle.loop_entries.specs.declared.Stream.{Stream}
use Rattle.implied.specs.Rule.{is_view, of_type, is_described_view}
use Rattle.implied.specs.Marking.{is_described}
use Rattle.implied.proofs.Marks.{view_known}
use Rattle.loop_entries.specs.Entries.{entry_head, es_info_length, seen_in, stream_of, shown_of, pair_of, marked_stream, marked_streams, streams_alone, streams_of}
use Rattle.es_loop.proofs.Pairs.{pair_marked}
use Rattle.es_loop.proofs.Meant.{by_head}
use Rattle.syntax.specs.Named.{by_names}
use Rattle.syntax.specs.Filled.{filled, bytes_in, too_wide_in}
use Rattle.records.specs.Records.{record_tables}
use Rattle.loop_writer.specs.Layout.{info_bytes, loop_bytes, too_wide}
use Rattle.hierarchy.proofs.Payloads.{hierarchy_fields_lem}
use Rattle.extension.proofs.Payloads.{extension_fields_lem, extension_written}
use Rattle.descriptor_heads.proofs.Widths.{fit_first, fit_others}
use Rattle.hierarchy.proofs.Widths.{hierarchy_fit}
use Rattle.extension.proofs.Widths.{extension_fit, layers_fit, count_small, length_layers}
use Rattle.loop_writer.proofs.Entries.{head_fit, record_fit}
use Rattle.loop_writer.specs.Verdict.{stream_for, pair_for}
use Rattle.loop_round_trip.specs.ReadBack.{Typed, alone_as, layers_kept, none, one_more, read_again, read_as, without_mark}

-- ---- each table

pub entry_sound : Sound entry_head
entry_sound = record { whole = refl; fixed_fit = refl }

pub descriptor_sound : Sound descriptor_head
descriptor_sound = record { whole = refl; fixed_fit = refl }

pub hierarchy_sound : Sound (hierarchy_descriptor Edition2015)
hierarchy_sound = record { whole = refl; fixed_fit = refl }

pub extension_sound : Sound extension_head
extension_sound = record { whole = refl; fixed_fit = refl }

pub layer_sound : Sound embedded_layer
layer_sound = record { whole = refl; fixed_fit = refl }

hierarchy_back : (h : HierarchyRecord) → Fit (hierarchy_descriptor Edition2015) (hierarchy_fields h)
    → hierarchy_of Edition2015 (write_table (hierarchy_descriptor Edition2015) (hierarchy_fields h)) ≡ h
hierarchy_back h fit = ap (λ (vs : List ℕ). hierarchy_from (by_names (hierarchy_descriptor Edition2015) vs)) (read_write hierarchy_sound fit []) ∙ hierarchy_fields_lem h

extension_back : (x : ExtensionRecord) (rest : List ℕ) → Fit extension_head (extension_fields x)
    → extension_of (write_table extension_head (extension_fields x) ++ rest) ≡ x
extension_back x rest fit = ap (λ (vs : List ℕ). extension_from (by_names extension_head vs)) (read_write extension_sound fit rest) ∙ extension_fields_lem x

layers_back : (layers : List LayerIndex) → any too_wide_in (map layer_table layers) ≡ false → layers_of (gather bytes_in (map layer_table layers)) ≡ layers
layers_back [] e = refl
layers_back (index ∷ layers) e =
    let fit : Fit embedded_layer (index.0 ∷ []) = fit_first (layer_table index) (map layer_table layers) e in
    ap₂ (λ (i : LayerIndex) (is : List LayerIndex). i ∷ is)
    (ap (λ (vs : List ℕ). record { 0 = get_or vs 0 0 }) (read_write layer_sound fit []))
    (layers_back layers (fit_others (layer_table index) (map layer_table layers) e))

-- ---- one descriptor

-- a descriptor's head, and a payload as long as it says
module _ (tag long : ℕ) (payload : List ℕ) (fit : Fit descriptor_head (tag ∷ long ∷ [])) (size : length payload ≡ long) where
  abbrev descriptor : List ℕ
  descriptor = write_table descriptor_head (tag ∷ long ∷ [])

  values : read_table descriptor_head descriptor ≡ tag ∷ long ∷ []
  values = read_write descriptor_sound fit []

  one_piece : cut 2 descriptor_length (descriptor ++ payload) ≡ whole descriptor payload ∷ []
  one_piece =
      let c : Cuts 2 descriptor_length (descriptor ++ (payload ++ [])) (whole descriptor payload ∷ []) =
      piece (length_written descriptor_head (tag ∷ long ∷ [])) (size ∙ sym (ap (λ (vs : List ℕ). get_or vs 1 0) values)) nothing_left in
      sym (cuts_unique 2 descriptor_length (omega arith) by_tag (subst (λ (l : List ℕ). Cuts 2 descriptor_length (descriptor ++ l) (whole descriptor payload ∷ [])) (append-nil payload) c))

  one_kind : kinds_of Edition2015 (descriptor ++ payload) ≡ payload_kind Edition2015 tag payload ∷ []
  one_kind =
      ap (map (kind_of Edition2015)) one_piece ∙ ap (λ (t : ℕ). payload_kind Edition2015 t payload ∷ []) (ap (λ (vs : List ℕ). get_or vs 0 0) values)

-- ---- a record

-- what is seen of the descriptors where there is one record, or none
abbrev seen_with : Record → List LayerIndex → Seen
seen_with r layers = record { fits = true; wrong_length = false; second_record = false; «record» = r; embedded = pad_to 63 no_layer layers }

seen_extension : (x : ExtensionRecord) (layers : List LayerIndex) → length layers ≡ 63 → any too_wide_in (record_tables (Extension x) layers) ≡ false
    → seen_of Edition2015 (gather bytes_in (record_tables (Extension x) layers)) ≡ seen_with (Extension x) (take x.num_embedded_layers layers)
seen_extension x layers room e =
    let n : ℕ = x.num_embedded_layers in
    let fit : Fit extension_head (extension_fields x) = extension_fit x layers e in
    let list : List ℕ = gather bytes_in (map layer_table (take n layers)) in
    let payload : List ℕ = write_table extension_head (extension_fields x) ++ list in
    let counted : length (take n layers) ≡ n = length-take-le n layers (omega (arith, count_small x layers e)) in
    let size : length payload ≡ 7 + n = omega (arith, length_layers (take n layers)) in
    let first : get_or payload 0 0 ≡ 6 = sym (ap (λ (l : List ℕ). get_or (l ++ list) 0 0) (extension_written x fit)) in
    let back : extension_of payload ≡ x = extension_back x list fit in
    let kind : extension_kind payload ≡ extension x (take n layers) =
    rw (lt-ltb 0 (length payload) (omega arith), eq-eqb (get_or payload 0 0) 6 first, eq-eqb (length payload) (7 + (extension_of payload).num_embedded_layers) (size ∙ sym (ap (λ (y : ExtensionRecord). 7 + y.num_embedded_layers) back)), back, layers_back (take n layers) (layers_fit x layers e)) in
    ap seen_of_kinds (one_kind 63 (7 + n) payload (fit_first (head_table 63 (7 + n)) (filled extension_head (extension_given x) ∷ map layer_table (take n layers)) e) size ∙ ap (λ (k : Kind). k ∷ []) kind)

seen_record : (r : Record) (layers : List LayerIndex) → length layers ≡ 63 → any too_wide_in (record_tables r layers) ≡ false
    → seen_of Edition2015 (gather bytes_in (record_tables r layers)) ≡ seen_with (without_mark r) (layers_kept r layers)
seen_record NoRecord layers room e = refl
seen_record (Hierarchy h) layers room e =
    let payload : List ℕ = write_table (hierarchy_descriptor Edition2015) (hierarchy_fields h) in
    ap seen_of_kinds
    (one_kind 4 4 payload (fit_first (head_table 4 4) (filled (hierarchy_descriptor Edition2015) (hierarchy_given h) ∷ []) e) refl
    ∙ ap (λ (g : HierarchyRecord). hierarchy g ∷ []) (hierarchy_back h (hierarchy_fit h e)))
seen_record (Extension x) layers room e = seen_extension x layers room e
seen_record Implied layers room e = refl

-- ---- an entry

module _ (e : Entry) (room : length e.embedded ≡ 63) (fit : too_wide e ≡ false) where
  abbrev head : List ℕ
  head = write_table entry_head (e.stream_type ∷ e.pid ∷ length (info_bytes e) ∷ [])

  head_values : read_table entry_head head ≡ e.stream_type ∷ e.pid ∷ length (info_bytes e) ∷ []
  head_values = read_write entry_sound (head_fit e fit) []

  info_length : length (info_bytes e) ≡ es_info_length head
  info_length = sym (ap (λ (vs : List ℕ). get_or vs 2 0) head_values)

  abbrev stream_with : List ℕ → Seen → Stream
  stream_with values seen = record { fits = seen.fits; stream_type = get_or values 0 0; pid = get_or values 1 0; seen = seen }

  seen_again : (b : Bool) → known Edition2015 e.stream_type ≡ b
      → stream_with (e.stream_type ∷ e.pid ∷ length (info_bytes e) ∷ []) (seen_in Edition2015 e.stream_type (info_bytes e)) ≡ stream_for (alone_as e)
  seen_again true p =
      rw p (ap (stream_with (e.stream_type ∷ e.pid ∷ length (info_bytes e) ∷ [])) (seen_record e.«record» e.embedded room (record_fit e fit)))
  seen_again false p = rw p

  stream_again : stream_of Edition2015 (whole head (info_bytes e)) ≡ stream_for (alone_as e)
  stream_again =
      ap (λ (vs : List ℕ). stream_with vs (seen_in Edition2015 (get_or vs 0 0) (info_bytes e))) head_values
      ∙ seen_again (known Edition2015 e.stream_type) refl

pub typed_at : {es : List Entry} {k : ℕ} {e : Entry} → Typed es → Nth es k e → length e.embedded ≡ 63
typed_at {k = k} {e = e} none x3 = elim x3 [ ]
typed_at (one_more room typed) here = room
typed_at (one_more room typed) (there n) = typed_at typed n

abbrev item_of : Entry → Item
item_of e = whole (write_table entry_head (e.stream_type ∷ e.pid ∷ length (info_bytes e) ∷ [])) (info_bytes e)

loop_cuts : {es : List Entry} → Typed es → any too_wide es ≡ false → Cuts 5 es_info_length (loop_bytes es) (map item_of es)
loop_cuts none fit = nothing_left
loop_cuts (one_more {e} {es} room typed) fit =
    let here : too_wide e ≡ false = neither_left (too_wide e) (any too_wide es) fit in
    subst (λ (l : List ℕ). Cuts 5 es_info_length l (item_of e ∷ map item_of es))
    (sym (append_assoc (head e room here) (info_bytes e) (loop_bytes es)))
    (piece (length_written entry_head (e.stream_type ∷ e.pid ∷ length (info_bytes e) ∷ [])) (info_length e room here)
    (loop_cuts typed (neither_right (too_wide e) (any too_wide es) fit)))

streams_again : {es : List Entry} → Typed es → any too_wide es ≡ false → map (stream_of Edition2015) (map item_of es) ≡ map stream_for (map alone_as es)
streams_again none fit = refl
streams_again (one_more {e} {es} room typed) fit =
    ap₂ (λ (s : Stream) (ss : List Stream). s ∷ ss) (stream_again e room (neither_left (too_wide e) (any too_wide es) fit))
    (streams_again typed (neither_right (too_wide e) (any too_wide es) fit))

alone_written : {es : List Entry} → Typed es → any too_wide es ≡ false → streams_alone Edition2015 (loop_bytes es) ≡ map stream_for (map alone_as es)
alone_written {es} typed fit =
    sym (ap (map (stream_of Edition2015)) (cuts_unique 5 es_info_length (omega arith) by_head (loop_cuts typed fit))) ∙ streams_again typed fit

-- ---- THE MARKS

-- an unknown type is no view's, and is given no mark
pub unknown_view : (t : ℕ) → known Edition2015 t ≡ false → is_view t ≡ false
unknown_view t p = false_unless (is_view t) (λ view. both_ways (view_known Edition2015 t view) p)

marked_again : (pair : Bool) (e : Entry) → marked_stream pair (stream_for (alone_as e)) ≡ stream_for (read_as pair e)
marked_again pair e = go (known Edition2015 e.stream_type) refl
  where
    go : (b : Bool) → known Edition2015 e.stream_type ≡ b → marked_stream pair (stream_for (alone_as e)) ≡ stream_for (read_as pair e)
    go true p = rw p
    go false p = rw (p, unknown_view e.stream_type p)

all_marked : (pair : Bool) (es : List Entry) → map (marked_stream pair) (map stream_for (map alone_as es)) ≡ map stream_for (map (read_as pair) es)
all_marked pair [] = refl
all_marked pair (e ∷ es) = ap₂ (λ (s : Stream) (ss : List Stream). s ∷ ss) (marked_again pair e) (all_marked pair es)

-- The rule sees the same two views as in what was given.
alone_shown : (e : Entry) → ((alone_as e).stream_type ≡ e.stream_type)
    × (is_described_view (shown_of (stream_for (alone_as e))) ≡ is_described_view (shown_of (stream_for e)))
alone_shown e = go (known Edition2015 e.stream_type) refl
  where
    described : (r : Record) → is_described (without_mark r) ≡ is_described r
    described NoRecord = refl
    described (Hierarchy h) = refl
    described (Extension x) = refl
    described Implied = refl

    go : (b : Bool) → known Edition2015 e.stream_type ≡ b → ((alone_as e).stream_type ≡ e.stream_type)
        × (is_described_view (shown_of (stream_for (alone_as e))) ≡ is_described_view (shown_of (stream_for e)))
    go true p = rw p (refl, ap (λ (d : Bool). is_view e.stream_type && d) (described e.«record»))
    go false p = rw (p, unknown_view e.stream_type p) (refl, refl)

type_count : (t : ℕ) (es : List Entry) → of_type t (map shown_of (map stream_for (map alone_as es))) ≡ of_type t (map shown_of (map stream_for es))
type_count t [] = refl
type_count t (e ∷ es) = rw ((alone_shown e).0, type_count t es)

none_described : (es : List Entry) → any is_described_view (map shown_of (map stream_for (map alone_as es))) ≡ any is_described_view (map shown_of (map stream_for es))
none_described [] = refl
none_described (e ∷ es) = ap₂ ◌||◌ (alone_shown e).1 (none_described es)

pair_alone : (es : List Entry) → pair_of (map stream_for (map alone_as es)) ≡ pair_for es
pair_alone es = rw (type_count 0x1B es, type_count 0x20 es, none_described es)

marks_again : (es : List Entry) → marked_streams (map stream_for (map alone_as es)) ≡ map stream_for (read_again es)
marks_again es =
    ap (λ (pair : Bool). map (marked_stream pair) (map stream_for (map alone_as es))) (pair_alone es) ∙ all_marked (pair_for es) es

pub pair_again : (es : List Entry) → pair_of (map stream_for (read_again es)) ≡ pair_for es
pair_again es = ap pair_of (sym (marks_again es)) ∙ pair_marked (map stream_for (map alone_as es)) ∙ pair_alone es

-- Reading what was written sees each entry as it was given, blanks beyond its count, and the marks that the rule gives.
pub read_written : {es : List Entry} → Typed es → any too_wide es ≡ false → streams_of Edition2015 (loop_bytes es) ≡ map stream_for (read_again es)
read_written {es} typed fit = ap marked_streams (alone_written typed fit) ∙ marks_again es
