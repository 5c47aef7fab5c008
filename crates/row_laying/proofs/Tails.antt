-- What follows the head of a row, from a record and the place in the bytes at which its descriptor ends. A mark has nothing there.
-- Assumes nothing.
use Prim.Native.Nat.{ℕ, ◌-◌, ◌≤◌, min}
use mathlib.Core.Path.{◌≡◌, refl, sym, ◌∙◌, ap}
use mathlib.Core.Bool.{Bool, true, false, cond}
use mathlib.Core.List.{List, map}
use native.Mathlib.Omega.{arith}
use lib.ListN.{length, take, drop, length-drop, length-map}
use lib.Seq.{length-take-le}
use Rattle.combinators.specs.Padding.{pad_to}
use Rattle.vocabulary.specs.declared.LayerIndex.{LayerIndex}
use Rattle.extension.specs.declared.ExtensionRecord.{ExtensionRecord}
use Rattle.extension.specs.Extension.{no_layer, layer_index_of, layers_of}
use Rattle.records.specs.declared.Record.{Record}
use Rattle.records.specs.declared.Record.TheVariants.{NoRecord, Hierarchy, Extension, Implied}
use Rattle.records.proofs.Naming.{padded_list}
use Rattle.descriptors.specs.declared.looking.Seen.{Seen}
use Rattle.implied.specs.Rule.{given}
use Rattle.implied.specs.Marking.{with_mark, marked_record}
use Rattle.loop_entries.specs.Entries.{marked_stream, entry_of}
use Rattle.entry_rows.specs.Rows.{layer_number, tail_of, row_of}

pub marked_tail : (pair : Bool) (t : ℕ) (r : Record) (layers : List LayerIndex) → tail_of r layers ≡ tail_of (marked_record pair t r) layers
unfolding tail_of
marked_tail pair t r layers = go (given pair t)
  where
    with_mark_lem : (r : Record) → tail_of r layers ≡ tail_of (with_mark r) layers
    with_mark_lem NoRecord = refl
    with_mark_lem (Hierarchy h) = refl
    with_mark_lem (Extension x) = refl
    with_mark_lem Implied = refl

    go : (b : Bool) → tail_of r layers ≡ tail_of (cond b (with_mark r) r) layers
    go true = with_mark_lem r
    go false = refl

-- of an extension the list that its descriptor ends with
pub listed_tail : (x : ExtensionRecord) (info : List ℕ) (end width : ℕ) → x.num_embedded_layers ≤ end → end ≤ length info → x.num_embedded_layers ≤ 63
    → width ≡ end - (end - x.num_embedded_layers)
    → pad_to 64 0 (map layer_number (layers_of (take width (drop (end - x.num_embedded_layers) info))))
    ≡ tail_of (Extension x) (pad_to 63 no_layer (layers_of (take x.num_embedded_layers (drop (end - x.num_embedded_layers) info))))
unfolding tail_of
listed_tail x info end width inside room few is-width =
    let num : ℕ = x.num_embedded_layers in
    let start : ℕ = end - num in
    let same : width ≡ num = omega arith in
    let layers : List LayerIndex = layers_of (take num (drop start info)) in
    let long : length layers ≡ num =
    length-map (take num (drop start info)) layer_index_of ∙ length-take-le num (drop start info) (omega (arith, length-drop start info)) in
    let all : num ≡ min num 63 = omega arith in
    ap (λ (n : ℕ). pad_to 64 0 (map layer_number (layers_of (take n (drop start info))))) same
    ∙ sym (ap (λ (l : List LayerIndex). pad_to 64 0 (map layer_number l)) (padded_list layers num long))
    ∙ ap (λ (n : ℕ). pad_to 64 0 (map layer_number (take n (pad_to 63 no_layer layers)))) all

-- the row of what is seen
abbrev pub row_with : Bool → ℕ → ℕ → Seen → List ℕ
row_with pair t pid s = row_of (entry_of (marked_stream pair (record { fits = s.fits; stream_type = t; pid = pid; seen = s })))
