-- READING A POINT THAT WAS WRITTEN gives back its value, whatever stands behind it.
-- Assumes nothing.
use Rattle.std.specs.Prelude.{ℕ, ◌+◌, ◌*◌, ◌≡◌, Bool, true, false, ◌&&◌, eqb, leb, ltb, take, drop, Err, Ok}
use Rattle.std.proofs.Math.Path.{refl, ap, ap₂}
use Rattle.std.proofs.Common.{sym, ◌∙◌, arith, le-leb, lt-ltb, ne_eqb, take_at, drop_at, drop-drop}
use Rattle.std.proofs.Math.Bool.{cond}
use mathlib.Core.List.{List, [], ◌∷◌, ◌++◌, map, append_assoc}
use Rattle.std.proofs.Math.ListN.{length, length-append}
use Rattle.std.proofs.lemmas.List.{length-map}
use Rattle.combinators.specs.Lists.{gather}
use Rattle.syntax.specs.Table.{Fit}
use Rattle.syntax.specs.Named.{given_to, by_names, values_by, read_by, write_by}
use Rattle.syntax.proofs.Laws.{read_write}
use Rattle.descriptor_heads.proofs.Bits.{bit_back}
use Rattle.operation_points.specs.Parts.{Parses}
use Rattle.operation_points.specs.Tables.{point_head, reference, flags_count, flags, point_syntax}
use Rattle.operation_points.specs.Points.{point_from, is_reserved, point_in, first_point, reference_from, flags_from}
use Rattle.operation_points.specs.Values.{FrameRate, no_frame_rate, constant, BitRate, no_bit_rate, rate, PointValue, frame_rate_of, bit_rate_of, reference_in, flags_in, idc_of, indicator_of, flag_of, number_of, point_value}
use Rattle.operation_points.specs.declared.Reference.{Reference}
use Rattle.operation_points.specs.declared.LayerFlags.{LayerFlags}
use Rattle.operation_points.specs.declared.PointFault.TheVariants.{DoesNotFit, ReservedCount}
use Rattle.operation_points.proofs.Parsed.{parses_walk}
use Rattle.point_fields.specs.WrittenParts.{parts_bytes, EachFits, FitParts}
use Rattle.point_fields.specs.Fields.{rate_parts}
use Rattle.point_writer.specs.Meaning.{reference_given, flags_given, value_given, value_lists, Shaped, PointFits}
use Rattle.point_writer.proofs.Lengths.{length_items}
use Rattle.point_writer.proofs.PartLaws.{fit_items}
use Rattle.point_writer.proofs.Meant.{point_sounds}
use Rattle.points_round_trip.specs.Parsed.{shown, Agrees, written_parses}
use Rattle.points_round_trip.specs.ReadPoint.{found, bytes_of, point_read}

-- ---- the items of the two lists

reference_again : (r : Reference) → Fit reference (values_by reference (reference_given r)) → reference_from (read_by reference (write_by reference (reference_given r))) ≡ r
reference_again r fit =
    ap (λ (vs : List ℕ). reference_from (by_names reference vs)) (read_write {t = reference} (record { whole = refl; fixed_fit = refl }) fit [])
    ∙ ap (λ (b : Bool). record { prepend_dependencies = b; es_reference = r.es_reference }) (bit_back r.prepend_dependencies)

flags_again : (f : LayerFlags) → Fit flags (values_by flags (flags_given f)) → flags_from (read_by flags (write_by flags (flags_given f))) ≡ f
flags_again f fit =
    ap (λ (vs : List ℕ). flags_from (by_names flags vs)) (read_write {t = flags} (record { whole = refl; fixed_fit = refl }) fit [])
    ∙ ap₂ (λ (a b : Bool). record { necessary_layer_flag = a; output_layer_flag = b; ptl_ref_idx = f.ptl_ref_idx }) (bit_back f.necessary_layer_flag)
    (bit_back f.output_layer_flag)

references_again : (rs : List Reference) → EachFits reference (map reference_given rs) → map reference_in (gather (write_by reference) (map reference_given rs)) ≡ rs
references_again [] f = refl
references_again (r ∷ rs) (EachFits.one_then fit fits) = ap₂ (λ (x : Reference) (xs : List Reference). x ∷ xs) (reference_again r fit) (references_again rs fits)

layers_again : (fs : List LayerFlags) → EachFits flags (map flags_given fs) → map flags_in (gather (write_by flags) (map flags_given fs)) ≡ fs
layers_again [] f = refl
layers_again (x ∷ xs) (EachFits.one_then fit fits) = ap₂ (λ (y : LayerFlags) (ys : List LayerFlags). y ∷ ys) (flags_again x fit) (layers_again xs fits)

-- ---- the rates

frame_again : (f : FrameRate) → Shaped f → frame_rate_of (idc_of f) (cond (ltb 0 (idc_of f)) (indicator_of f) 0) ≡ f
frame_again no_frame_rate s = refl
frame_again (constant idc indicator) s = ap (λ (b : Bool). cond b (constant idc (cond b indicator 0)) no_frame_rate) (lt-ltb 0 idc s)

rate_again : (b : BitRate) → bit_rate_of (eqb (flag_of b) 1) (cond (eqb (flag_of b) 1) (number_of b) 0) ≡ b
rate_again no_bit_rate = refl
rate_again (rate n) = refl

module _ (v : PointValue) (known : PointFits v) where
  agrees : Agrees (value_given v) (value_lists v) [] point_syntax
  agrees = (sym (length-map v.references reference_given), (sym (length-map v.layers flags_given), (refl, (refl, (refl, tt)))))

  parses : Parses point_syntax [] (bytes_of v known) (shown (value_given v) (value_lists v) [] point_syntax)
  parses = written_parses (value_given v) (value_lists v) [] point_sounds known.fits agrees

  from_walk : point_from (record { end = length (bytes_of v known); given = shown (value_given v) (value_lists v) [] point_syntax }) ≡ (point_read v known)
  from_walk =
      found v.target_ols (length v.references) (length v.layers) (flag_of v.average) (flag_of v.maximum) (idc_of v.frame_rate) v.temporal_id
      (indicator_of v.frame_rate) (number_of v.average) (number_of v.maximum) (length (bytes_of v known)) (ltb 0 (idc_of v.frame_rate)) (eqb (flag_of v.average) 1)
      (eqb (flag_of v.maximum) 1)

  -- what stands behind its head
  abbrev its_references : List ℕ
  its_references = gather (write_by reference) (map reference_given v.references)

  abbrev its_layers : List ℕ
  its_layers = gather (write_by flags) (map flags_given v.layers)

  abbrev its_rates : List ℕ
  its_rates = parts_bytes (value_given v) (value_lists v) rate_parts

  head_fit : {parts : List _} → FitParts (value_given v) (value_lists v) (Rattle.operation_points.specs.Parts.lines point_head ∷ parts)
      → Fit point_head (v.target_ols ∷ length v.references ∷ [])
  head_fit (FitParts.lines_then fit fits) = fit

  module _ (allowed : length v.references ≡ 255 → ⊥) (rest : List ℕ) where
    not_reserved : is_reserved ((bytes_of v known) ++ rest) ≡ false
    not_reserved =
        ap (λ (vs : List ℕ). leb 2 (length ((bytes_of v known) ++ rest)) && eqb (given_to "ES_count" (by_names point_head vs)) 0xFF)
        (read_write {t = point_head} (record { whole = refl; fixed_fit = refl }) (head_fit known.fits)
        ((its_references ++ (write_by flags_count (value_given v) ++ (its_layers ++ its_rates))) ++ rest))
        ∙ ap (λ (b : Bool). leb 2 (length ((bytes_of v known) ++ rest)) && b) (ne_eqb (length v.references) 255 allowed)
        ∙ never (leb 2 (length ((bytes_of v known) ++ rest)))
      where
        never : (b : Bool) → b && false ≡ false
        never true = refl
        never false = refl

    -- IT IS FOUND
    pub read_first : first_point ((bytes_of v known) ++ rest) ≡ Ok (point_read v known)
    unfolding first_point
    read_first =
        ap (point_in ((bytes_of v known) ++ rest)) (parses_walk rest ((bytes_of v known) ++ rest) refl parses)
        ∙ ap₂ (λ (r f : Bool). cond r (Err ReservedCount) (cond f (Ok (point_from (record { end = length (bytes_of v known); given = shown (value_given v) (value_lists v) [] point_syntax }))) (Err DoesNotFit)))
        not_reserved (le-leb (length (bytes_of v known)) (length ((bytes_of v known) ++ rest)) (omega (arith, length-append (bytes_of v known) rest)))
        ∙ ap Ok from_walk

  -- AND HAS THE VALUE
  pub value_read : (rest : List ℕ) → point_value (point_read v known) ((bytes_of v known) ++ rest) ≡ v
  value_read rest =
      let many : length its_references ≡ length v.references =
      length_items reference (map reference_given v.references) ∙ ap (λ (n : ℕ). n * 1) (length-map v.references reference_given) ∙ omega arith in
      let few : length its_layers ≡ length v.layers =
      length_items flags (map flags_given v.layers) ∙ ap (λ (n : ℕ). n * 1) (length-map v.layers flags_given) ∙ omega arith in
      let items = fit_items (value_given v) (value_lists v) known.fits in
      let first : take (length v.references) (drop 2 ((bytes_of v known) ++ rest)) ≡ its_references =
      ap (take (length v.references)) (append_assoc its_references (write_by flags_count (value_given v) ++ (its_layers ++ its_rates)) rest)
      ∙ take_at its_references ((write_by flags_count (value_given v) ++ (its_layers ++ its_rates)) ++ rest) (length v.references) many in
      let past : drop (2 + (length v.references * 1 + 1)) ((bytes_of v known) ++ rest) ≡ its_layers ++ (its_rates ++ rest) =
      sym (drop-drop (length v.references * 1 + 1) 2 ((bytes_of v known) ++ rest))
      ∙ sym (drop-drop 1 (length v.references * 1) (drop 2 ((bytes_of v known) ++ rest)))
      ∙ ap (drop 1) (ap (drop (length v.references * 1)) (append_assoc its_references (write_by flags_count (value_given v) ++ (its_layers ++ its_rates)) rest)
      ∙ drop_at its_references ((write_by flags_count (value_given v) ++ (its_layers ++ its_rates)) ++ rest) (length v.references * 1) (omega arith))
      ∙ append_assoc its_layers its_rates rest in
      let second : take (length v.layers) (drop (2 + (length v.references * 1 + 1)) ((bytes_of v known) ++ rest)) ≡ its_layers =
      ap (take (length v.layers)) past ∙ take_at its_layers (its_rates ++ rest) (length v.layers) few in
      let refs : map reference_in (take (length v.references) (drop 2 ((bytes_of v known) ++ rest))) ≡ v.references = ap (map reference_in) first ∙ references_again v.references items.0 in
      let lays : map flags_in (take (length v.layers) (drop (2 + (length v.references * 1 + 1)) ((bytes_of v known) ++ rest))) ≡ v.layers =
      ap (map flags_in) second ∙ layers_again v.layers items.1.0 in
      λ i. record {
        target_ols = v.target_ols;
        references = refs i;
        layers = lays i;
        temporal_id = v.temporal_id;
        frame_rate = frame_again v.frame_rate known.shaped i;
        average = rate_again v.average i;
        maximum = rate_again v.maximum i;
      }
