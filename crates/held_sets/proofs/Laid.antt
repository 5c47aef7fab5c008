-- ENTRIES THAT THEIR ROWS TELL WHOLE: those of an accepted loop, and that of a row in which no value is too wide.
-- Assumes nothing.
use Prim.Native.Nat.{ℕ, zero, suc, ◌+◌, ◌-◌, ◌≤◌, ◌<◌, min}
use mathlib.Core.Bool.{Bool, true, false, not, cond, ◌&&◌, ◌||◌}
use mathlib.Core.List.{List, [], ◌∷◌, ◌++◌, map}
use mathlib.Core.Path.{◌≡◌, refl, sym, ap, ap₂, ◌∙◌, subst}
use native.Mathlib.Omega.{arith}
use borrow.Author.Tests.{lt-ltb, eqb-true, not-false}
use lib.Dec.{eqb, ltb}
use lib.ListN.{length, get_or, take, drop, replicate, length-map, length-take, length-drop}
use lib.Seq.{take_at}
use Rattle.combinators.specs.Bools.{either_way}
use Rattle.combinators.specs.Lists.{any, gather}
use Rattle.combinators.specs.Padding.{pad_to}
use Rattle.framing.specs.Pieces.{Item, whole, broken, cut}
use Rattle.syntax.specs.Table.{fits}
use Rattle.syntax.specs.Filled.{bit_of}
use Rattle.vocabulary.specs.declared.LayerIndex.{LayerIndex}
use Rattle.vocabulary.specs.declared.stream_types.Reading.{Reading}
use Rattle.vocabulary.specs.declared.stream_types.Reading.TheVariants.{Edition2009, Edition2015}
use Rattle.vocabulary.specs.StreamTypes.{known}
use Rattle.hierarchy.specs.declared.HierarchyRecord.{HierarchyRecord}
use Rattle.hierarchy.specs.Hierarchy.{hierarchy_descriptor, hierarchy_of, hierarchy_fields}
use Rattle.extension.specs.declared.ExtensionRecord.{ExtensionRecord}
use Rattle.extension.specs.Extension.{extension_head, extension_of, extension_fields, embedded_of, layer_index_of, no_layer}
use Rattle.descriptor_heads.specs.Head.{descriptor_tag, descriptor_length}
use Rattle.records.specs.declared.Record.{Record}
use Rattle.records.specs.declared.Record.TheVariants.{NoRecord, Hierarchy, Extension, Implied}
use Rattle.descriptors.specs.Looking.{Kind, does_not_fit, skipped, wrong_length, hierarchy, extension, tag4_kind, tag63_kind, kind_of, Held, held_in, first_record, first_layers, seen_of, nothing_seen}
use Rattle.implied.specs.Rule.{given}
use Rattle.implied.specs.Marking.{with_mark}
use Rattle.loop_entries.specs.declared.Entry.{Entry}
use Rattle.loop_entries.specs.Entries.{stream_type, blank_entry, stream_of, marked_stream, entry_of}
use Rattle.loop_entries.proofs.Front.{pid_below}
use Rattle.entry_rows.specs.Rows.{layer_number, layer_of, head_of, tail_of, row_of, fields_in, count_in, list_in, layer_too_wide, row_too_wide, entry_in}
use Rattle.entry_rows.proofs.Judged.{hierarchy_decides, extension_decides, fieldless_fine, kind_fine, type_bound, pid_bound, hierarchy_fine, extension_fine, list_fine}
use Rattle.entry_rows.proofs.Laws.{hierarchy_entry, extension_entry, no_record_entry, implied_entry}
use Rattle.entry_rows.proofs.RoundTrips.{OwnList, entry_again, hierarchy_there, extension_there}
use Rattle.entry_rows.proofs.Widths.{row_bounds, layer_fine}
use Rattle.held_sets.specs.Meaning.{Laid}

-- ---- an entry whose record fits its fields, with blanks beyond its list

abbrev OwnRecord : Record → List LayerIndex → Type 0
OwnRecord NoRecord array = array ≡ pad_to 63 no_layer []
OwnRecord Implied array = array ≡ pad_to 63 no_layer []
OwnRecord (Hierarchy h) array = (array ≡ pad_to 63 no_layer []) × (fits (hierarchy_descriptor Edition2015) (hierarchy_fields h) ≡ true)
OwnRecord (Extension x) array =
    (layers : List LayerIndex) × (length layers ≡ x.num_embedded_layers) × (x.num_embedded_layers ≤ 63) × (array ≡ pad_to 63 no_layer layers)
    × (fits extension_head (extension_fields x) ≡ true) × (any layer_too_wide (map layer_number layers) ≡ false)

pub record Good (e : Entry) : Type 0 where
  pub type_small : e.stream_type < 256
  pub pid_small : e.pid < 8192
  pub own : OwnRecord e.«record» e.embedded

own_list : (r : Record) (array : List LayerIndex) → OwnRecord r array → OwnList r array
own_list NoRecord array o = o
own_list Implied array o = o
own_list (Hierarchy h) array o = o.0
own_list (Extension x) array o = (o.0, o.1, o.2, o.3)

abbrev entry_with : ℕ → ℕ → Record → List LayerIndex → Entry
entry_with t pid r array = record { stream_type = t; pid = pid; «record» = r; embedded = array }

list_back : (count : ℕ) (layers : List LayerIndex) → length layers ≡ count → count ≤ 63
    → take count (pad_to 64 0 (map layer_number (take (min count 63) (pad_to 63 no_layer layers)))) ≡ map layer_number layers
list_back count layers long h =
    let all : min count 63 ≡ count = omega arith in
    ap (λ (n : ℕ). take count (pad_to 64 0 (map layer_number (take n (pad_to 63 no_layer layers))))) all
    ∙ ap (λ (l : List LayerIndex). take count (pad_to 64 0 (map layer_number l))) (take_at layers (replicate (63 - length layers) no_layer) count long)
    ∙ take_at (map layer_number layers) (replicate (64 - length (map layer_number layers)) 0) count (length-map layers layer_number ∙ long)

narrow_row : (t pid : ℕ) (r : Record) (array : List LayerIndex) → t < 256 → pid < 8192 → OwnRecord r array → row_too_wide (row_of (entry_with t pid r array)) ≡ false
unfolding head_of tail_of
narrow_row t pid NoRecord array ht hp o = sym (fieldless_fine (row_of (entry_with t pid NoRecord array)) ht hp (omega arith) (λ p. omega arith) (λ p. omega arith))
narrow_row t pid Implied array ht hp o = sym (fieldless_fine (row_of (entry_with t pid Implied array)) ht hp (omega arith) (λ p. omega arith) (λ p. omega arith))
narrow_row t pid (Hierarchy h) array ht hp o = sym (hierarchy_decides (row_of (entry_with t pid (Hierarchy h) array)) ht hp refl) ∙ ap not o.1
narrow_row t pid (Extension x) array ht hp o =
    sym (extension_decides (row_of (entry_with t pid (Extension x) array)) ht hp refl)
    ∙ ap₂ ◌||◌ (ap not o.4)
    (ap (any layer_too_wide)
    (ap (λ (l : List LayerIndex). take x.num_embedded_layers (pad_to 64 0 (map layer_number (take (min x.num_embedded_layers 63) l)))) o.3
    ∙ list_back x.num_embedded_layers o.0 o.1 o.2)
    ∙ o.5)

-- ITS ROW TELLS IT WHOLE.
pub good_laid : (e : Entry) → Good e → Laid e
good_laid e g =
    record {
      narrow = narrow_row e.stream_type e.pid e.«record» e.embedded g.type_small g.pid_small g.own;
      told = entry_again e (own_list e.«record» e.embedded g.own);
    }

pub blank_laid : Laid blank_entry
blank_laid = good_laid blank_entry (record { type_small = omega arith; pid_small = omega arith; own = refl })

-- ---- what a descriptor's bytes say

bit_fits : (b : Bool) → ltb (bit_of b) 2 ≡ true
bit_fits true = refl
bit_fits false = refl

hierarchy_fits : (h : HierarchyRecord) → h.hierarchy_type < 16 → h.layer_index.0 < 64 → h.embedded_layer_index.0 < 64 → h.channel.0 < 64
    → fits (hierarchy_descriptor Edition2015) (hierarchy_fields h) ≡ true
hierarchy_fits h t i e c =
    rw (
      bit_fits h.no_view,
      bit_fits h.no_temporal,
      bit_fits h.no_spatial,
      bit_fits h.no_quality,
      lt-ltb h.hierarchy_type 16 t,
      lt-ltb h.layer_index.0 64 i,
      bit_fits h.tref_present_flag,
      lt-ltb h.embedded_layer_index.0 64 e,
      lt-ltb h.channel.0 64 c,
    )

extension_fits : (x : ExtensionRecord) → x.dimension_bits < 65536 → x.layer_index.0 < 64 → x.temporal_id.0 < 8 → x.nuh_layer_id.0 < 64
    → x.num_embedded_layers < 64 → x.channel.0 < 64 → fits extension_head (extension_fields x) ≡ true
extension_fits x d i t n c h =
    rw (
      lt-ltb x.dimension_bits 65536 d,
      lt-ltb x.layer_index.0 64 i,
      lt-ltb x.temporal_id.0 8 t,
      lt-ltb x.nuh_layer_id.0 64 n,
      bit_fits x.tref_present_flag,
      lt-ltb x.num_embedded_layers 64 c,
      lt-ltb x.channel.0 64 h,
    )

abbrev KindOwn : Kind → Type 0
KindOwn does_not_fit = Unit {0}
KindOwn skipped = Unit {0}
KindOwn wrong_length = Unit {0}
KindOwn (hierarchy h) = fits (hierarchy_descriptor Edition2015) (hierarchy_fields h) ≡ true
KindOwn (extension x layers) =
    (length layers ≡ x.num_embedded_layers) × (x.num_embedded_layers ≤ 63) × (fits extension_head (extension_fields x) ≡ true) × (any layer_too_wide (map layer_number layers) ≡ false)

hierarchy_own : (reading : Reading) (payload : List ℕ) → KindOwn (hierarchy (hierarchy_of reading payload))
hierarchy_own Edition2009 payload = hierarchy_fits (hierarchy_of Edition2009 payload) (omega arith) (omega arith) (omega arith) (omega arith)
hierarchy_own Edition2015 payload = hierarchy_fits (hierarchy_of Edition2015 payload) (omega arith) (omega arith) (omega arith) (omega arith)

list_own : (list : List ℕ) → any layer_too_wide (map layer_number (map layer_index_of list)) ≡ false
list_own [] = refl
list_own (byte ∷ list) = ap₂ ◌||◌ (layer_fine (layer_index_of byte).0 (omega arith)) (list_own list)

extension_own : (payload : List ℕ) → length payload ≡ 7 + (extension_of payload).num_embedded_layers → KindOwn (extension (extension_of payload) (embedded_of payload))
extension_own payload long = (
  length-map (drop 7 payload) layer_index_of ∙ length-drop 7 payload ∙ omega arith,
  omega arith,
  extension_fits (extension_of payload) (omega arith) (omega arith) (omega arith) (omega arith) (omega arith) (omega arith),
  list_own (drop 7 payload),
)

kind_own : (reading : Reading) (x : Item) → KindOwn (kind_of reading x)
kind_own reading broken = tt
kind_own reading (whole head payload) =
    either_way KindOwn (eqb (descriptor_tag head) 4) (tag4_kind reading payload) (cond (eqb (descriptor_tag head) 63) (tag63_kind reading payload) skipped)
    (either_way KindOwn (eqb (length payload) 4) (hierarchy (hierarchy_of reading payload)) wrong_length (hierarchy_own reading payload) tt)
    (either_way KindOwn (eqb (descriptor_tag head) 63) (tag63_kind reading payload) skipped (tag63 reading) tt)
  where
    tag63 : (r : Reading) → KindOwn (tag63_kind r payload)
    tag63 Edition2009 = tt
    tag63 Edition2015 = either_way KindOwn (ltb 0 (length payload) && eqb (get_or payload 0 0) 0x06) _ skipped (by_length (eqb (length payload) (7 + (extension_of payload).num_embedded_layers)) refl) tt
      where
        by_length : (b : Bool) → eqb (length payload) (7 + (extension_of payload).num_embedded_layers) ≡ b
            → KindOwn (cond b (extension (extension_of payload) (embedded_of payload)) wrong_length)
        by_length true e = extension_own payload (eqb-true (length payload) (7 + (extension_of payload).num_embedded_layers) e)
        by_length false e = tt

first_own : (reading : Reading) (items : List Item)
    → OwnRecord (first_record (gather held_in (map (kind_of reading) items))) (pad_to 63 no_layer (first_layers (gather held_in (map (kind_of reading) items))))
first_own reading [] = refl
first_own reading (x ∷ xs) = go (kind_of reading x) (kind_own reading x) (first_own reading xs)
  where
    later : List Held
    later = gather held_in (map (kind_of reading) xs)

    go : (k : Kind) → KindOwn k → OwnRecord (first_record later) (pad_to 63 no_layer (first_layers later))
        → OwnRecord (first_record (held_in k ++ later)) (pad_to 63 no_layer (first_layers (held_in k ++ later)))
    go does_not_fit s l = l
    go skipped s l = l
    go wrong_length s l = l
    go (hierarchy h) s l = (refl, s)
    go (extension e layers) s l = (layers, s.0, s.1, refl, s.2, s.3)

seen_own : (reading : Reading) (known-type : Bool) (info : List ℕ)
    → OwnRecord (cond known-type (seen_of reading info) nothing_seen).«record» (cond known-type (seen_of reading info) nothing_seen).embedded
seen_own reading true info = first_own reading (cut 2 descriptor_length info)
seen_own reading false info = refl

mark_own : (mark : Bool) (r : Record) (array : List LayerIndex) → OwnRecord r array → OwnRecord (cond mark (with_mark r) r) array
mark_own true NoRecord array o = o
mark_own true (Hierarchy h) array o = o
mark_own true (Extension x) array o = o
mark_own true Implied array o = o
mark_own false r array o = o

-- THE ENTRY OF A STREAM that stands in the bytes
pub stream_good : (reading : Reading) (pair : Bool) (head info : List ℕ) → Good (entry_of (marked_stream pair (stream_of reading (whole head info))))
stream_good reading pair head info =
    record {
      type_small = omega arith;
      pid_small = pid_below reading head info;
      own = mark_own (given pair (stream_type head)) (stream_of reading (whole head info)).seen.«record» (stream_of reading (whole head info)).seen.embedded
          (seen_own reading (known reading (stream_type head)) info);
    }

-- ---- the entry of a row in which no value is too wide

numbers_back : (list : List ℕ) → map layer_number (map layer_of list) ≡ list
numbers_back [] = refl
numbers_back (index ∷ list) = ap (λ (l : List ℕ). index ∷ l) (numbers_back list)

module _ (row : List ℕ) (long : 80 ≤ length row) (fine : row_too_wide row ≡ false) where
  abbrev OwnEntry : Entry → Type 0
  OwnEntry e = OwnRecord e.«record» e.embedded

  own_hierarchy : get_or row 2 0 ≡ 1 → OwnEntry (entry_in row)
  own_hierarchy e =
      let b = row_bounds (hierarchy_descriptor Edition2015) row (hierarchy_fine row fine e) in
      subst OwnEntry (hierarchy_entry row e)
      (refl, ap (fits (hierarchy_descriptor Edition2015)) (hierarchy_there row b) ∙ not-false (fits (hierarchy_descriptor Edition2015) (fields_in (hierarchy_descriptor Edition2015) row)) (hierarchy_fine row fine e))

  own_extension : get_or row 2 0 ≡ 2 → OwnEntry (entry_in row)
  own_extension e =
      let b = row_bounds extension_head row (extension_fine row fine e) in
      let few : count_in row < 64 = b.1.1.1.1.1.0 in
      subst OwnEntry (extension_entry row e) (
        map layer_of (list_in row),
        length-map (list_in row) layer_of ∙ length-take (count_in row) (drop 16 row) ∙ omega (arith, length-drop 16 row),
        omega arith,
        refl,
        ap (fits extension_head) (extension_there row b) ∙ not-false (fits extension_head (fields_in extension_head row)) (extension_fine row fine e),
        ap (any layer_too_wide) (numbers_back (list_in row)) ∙ list_fine row fine e,
      )

  pub row_good : Good (entry_in row)
  unfolding entry_in
  row_good = record { type_small = type_bound row fine; pid_small = pid_bound row fine; own = go (get_or row 2 0) refl (kind_fine row fine) }
    where
      go : (kind : ℕ) → get_or row 2 0 ≡ kind → kind ≤ 3 → OwnEntry (entry_in row)
      go zero e h = subst OwnEntry (no_record_entry row e) refl
      go (suc zero) e h = own_hierarchy e
      go (suc (suc zero)) e h = own_extension e
      go (suc (suc (suc zero))) e h = subst OwnEntry (implied_entry row e) refl
      go (suc (suc (suc (suc k)))) e h = absurd (omega arith)
