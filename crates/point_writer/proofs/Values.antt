-- Values and the rows and lists that a caller gives: of a value that can be written the rows are not too wide, and of rows that are not too wide there is a value.
-- Assumes nothing.
use Prim.Native.Nat.{ℕ, zero, suc, ◌+◌, ◌*◌, ◌/◌, ◌%◌, ◌^◌, ◌<◌}
use mathlib.Core.Path.{◌≡◌, refl, sym, ap, ap₂, ◌∙◌, subst}
use mathlib.Core.Bool.{Bool, true, false, cond, not, ◌||◌}
use mathlib.Core.List.{List, [], ◌∷◌, ◌++◌, map}
use native.Mathlib.Omega.{arith}
use native.Mathlib.Nat.{mod-lt}
use borrow.Author.Tests.{ltb-true, ltb-false, eqb-true, not-false}
use lib.Dec.{eqb, ltb, lit<}
use lib.ListN.{length, get_or, take, drop, length-append, length-drop, length-map, take-append-drop}
use lib.Seq.{take_at, drop_at, length-take-le}
use lib.Text.{eqt}
use Rattle.combinators.specs.Bools.{apart, neither_left, neither_right}
use Rattle.combinators.specs.Lists.{any, any_append, gather}
use Rattle.syntax.specs.Table.{Table, Fit}
use Rattle.syntax.specs.Named.{Given, values_by}
use Rattle.syntax.specs.Filled.{bit_of}
use Rattle.syntax.proofs.Laws.{read_fits}
use Rattle.syntax.proofs.Equations.{bounds}
use Rattle.descriptor_heads.proofs.Bits.{bit_there}
use Rattle.operation_points.specs.declared.Reference.{Reference}
use Rattle.operation_points.specs.Tables.{reference, flags, point_syntax}
use Rattle.operation_points.specs.Values.{FrameRate, no_frame_rate, constant, BitRate, no_bit_rate, rate, PointValue, frame_rate_of, bit_rate_of, reference_in, flags_in, reference_byte, idc_of, indicator_of, flag_of, number_of, numbers_of}
use Rattle.point_fields.specs.WrittenParts.{Lists, part_too_wide, parts_bytes, EachFits}
use Rattle.point_fields.specs.Fields.{given_in, item_in, lists_in, point_bytes, row_too_wide, reference_too_wide, references_counted, layers_counted}
use Rattle.point_fields.proofs.Rows.{field_fits, row_fits}
use Rattle.point_weights.specs.Rows.{twelves, total, is_reserved}
use Rattle.point_weights.proofs.Weights.{reference_fine}
use Rattle.point_writer.specs.Layout.{points_bytes}
use Rattle.point_writer.specs.Meaning.{reference_given, flags_given, value_given, value_lists, Shaped, PointFits, ListsOf, Rows}
use Rattle.point_writer.specs.Meaning as Meaning
use Rattle.point_writer.proofs.Walking.{any_behind, any_part}
use Rattle.point_writer.proofs.PartLaws.{AbsentZero, narrow_fit, fit_narrow, fit_items}

-- ---- items of the two lists

-- what a byte gives to the names, by the value that it is of
pub reference_given_lem : (byte : ℕ) → reference_given (reference_in byte) ≡ item_in reference byte
reference_given_lem byte =
    ap (λ (n : ℕ). ("prepend_dependencies", n) ∷ ("ES_reference", (byte * 256 ^ 0 + 0) / 2 ^ 0 % 2 ^ 6) ∷ [])
    (bit_there ((byte * 256 ^ 0 + 0) / 2 ^ 6 % 2 ^ 1) (mod-lt ((byte * 256 ^ 0 + 0) / 2 ^ 6) (lit< tt)))

pub flags_given_lem : (byte : ℕ) → flags_given (flags_in byte) ≡ item_in flags byte
flags_given_lem byte =
    ap₂ (λ (m n : ℕ). ("necessary_layer_flag", m) ∷ ("output_layer_flag", n) ∷ ("ptl_ref_idx", (byte * 256 ^ 0 + 0) / 2 ^ 0 % 2 ^ 6) ∷ [])
    (bit_there ((byte * 256 ^ 0 + 0) / 2 ^ 7 % 2 ^ 1) (mod-lt ((byte * 256 ^ 0 + 0) / 2 ^ 7) (lit< tt)))
    (bit_there ((byte * 256 ^ 0 + 0) / 2 ^ 6 % 2 ^ 1) (mod-lt ((byte * 256 ^ 0 + 0) / 2 ^ 6) (lit< tt)))

-- the byte of a reference that fits is one of seven bits, and is of that reference
small_reference : (r : Reference) → Fit reference (values_by reference (reference_given r)) → r.es_reference < 64
small_reference r fit = let b = bounds fit in b.1.0

pub reference_item : (r : Reference) → r.es_reference < 64 → item_in reference (reference_byte r) ≡ reference_given r
reference_item r h = go r.prepend_dependencies r.es_reference h
  where
    go : (p : Bool) (es : ℕ) → es < 64 → item_in reference (cond p 64 0 + es) ≡ ("prepend_dependencies", bit_of p) ∷ ("ES_reference", es) ∷ []
    go true es h =
        let first : ((64 + es) * 256 ^ 0 + 0) / 2 ^ 6 % 2 ^ 1 ≡ 1 = omega arith in
        let second : ((64 + es) * 256 ^ 0 + 0) / 2 ^ 0 % 2 ^ 6 ≡ es = omega arith in
        ap₂ (λ (m n : ℕ). ("prepend_dependencies", m) ∷ ("ES_reference", n) ∷ []) first second
    go false es h =
        let first : ((0 + es) * 256 ^ 0 + 0) / 2 ^ 6 % 2 ^ 1 ≡ 0 = omega arith in
        let second : ((0 + es) * 256 ^ 0 + 0) / 2 ^ 0 % 2 ^ 6 ≡ es = omega arith in
        ap₂ (λ (m n : ℕ). ("prepend_dependencies", m) ∷ ("ES_reference", n) ∷ []) first second

reference_small : (r : Reference) → r.es_reference < 64 → reference_too_wide (reference_byte r) ≡ false
reference_small r h = go r.prepend_dependencies
  where
    go : (p : Bool) → reference_too_wide (cond p 64 0 + r.es_reference) ≡ false
    go true = reference_fine (64 + r.es_reference) (omega arith)
    go false = reference_fine (0 + r.es_reference) (omega arith)

-- and the byte of the reference that a byte of seven bits is
reference_back : (byte : ℕ) → reference_too_wide byte ≡ false → reference_byte (reference_in byte) ≡ byte
reference_back byte e =
    let seven : byte % 128 ≡ byte = eqb-true (byte % 128) byte (not-false (eqb (byte % 128) byte) e) in
    let whole : (byte * 256 ^ 0 + 0) / 2 ^ 6 % 2 ^ 1 ≡ byte / 64 = omega arith in
    let low : (byte * 256 ^ 0 + 0) / 2 ^ 0 % 2 ^ 6 ≡ byte % 64 = omega arith in
    ap₂ (λ (m n : ℕ). cond (eqb m 1) 64 0 + n) whole low ∙ go (byte / 64) refl seven
  where
    go : (n : ℕ) → byte / 64 ≡ n → byte % 128 ≡ byte → cond (eqb n 1) 64 0 + byte % 64 ≡ byte
    go zero e s = omega arith
    go (suc zero) e s = omega arith
    go (suc (suc n)) e s = absurd (omega arith)

-- ---- a point of a value

row_of_lem : PointValue → ℕ → ℕ → List ℕ
row_of_lem v members closed = numbers_of v ++ (members ∷ closed ∷ [])

absent_frame : (f : FrameRate) → Shaped f → ltb 0 (idc_of f) ≡ false → (not (eqb (indicator_of f) 0) || false) ≡ false
absent_frame no_frame_rate s e = refl
absent_frame (constant idc indicator) s e = absurd (omega (arith, ltb-false 0 idc e))

absent_bit_rate : (b : BitRate) → eqb (flag_of b) 1 ≡ false → (not (eqb (number_of b) 0) || false) ≡ false
absent_bit_rate no_bit_rate e = refl
absent_bit_rate (rate n) e = apart (sym e)

module _ (v : PointValue) (known : PointFits v) where
  absent : AbsentZero (value_given v) (value_lists v) point_syntax
  absent = (absent_frame v.frame_rate known.shaped, (absent_bit_rate v.average, (absent_bit_rate v.maximum, tt)))

  pub row_fine_lem : (members closed : ℕ) → row_too_wide (numbers_of v ++ (members ∷ closed ∷ [])) ≡ false
  unfolding row_too_wide
  row_fine_lem members closed = fit_narrow (value_given v) (value_lists v) absent known.fits

  references_fit : EachFits reference (map reference_given v.references)
  references_fit = (fit_items (value_given v) (value_lists v) known.fits).0

-- the references of a value, as bytes
references_fine : (rs : List Reference) → EachFits reference (map reference_given rs) → any reference_too_wide (map reference_byte rs) ≡ false
references_fine [] f = refl
references_fine (r ∷ rs) (EachFits.one_then fit fits) = ap₂ ◌||◌ (reference_small r (small_reference r fit)) (references_fine rs fits)

references_items : (rs : List Reference) → EachFits reference (map reference_given rs) → map reference_given rs ≡ map (item_in reference) (map reference_byte rs)
references_items [] f = refl
references_items (r ∷ rs) (EachFits.one_then fit fits) =
    ap₂ (λ (x : Given) (xs : List Given). x ∷ xs) (sym (reference_item r (small_reference r fit))) (references_items rs fits)

pub layers_items : (layers : List ℕ) → map flags_given (map flags_in layers) ≡ map (item_in flags) layers
layers_items [] = refl
layers_items (x ∷ xs) = ap₂ (λ (y : Given) (ys : List Given). y ∷ ys) (flags_given_lem x) (layers_items xs)

module _ (v : PointValue) (known : PointFits v) (references layers : List ℕ) (are : ListsOf v references layers) where
  pub same_lists : value_lists v ≡ lists_in references layers
  same_lists =
      ap₂ {C = Lists} (λ (a b : List Given) (name : _). cond (eqt name "ES_count") a b)
      (references_items v.references (references_fit v known) ∙ ap (map (item_in reference)) (sym are.references_are))
      (ap (map flags_given) (sym are.layers_are) ∙ layers_items layers)

  pub same_bytes : (members closed : ℕ) → point_bytes (numbers_of v ++ (members ∷ closed ∷ [])) references layers ≡ parts_bytes (value_given v) (value_lists v) point_syntax
  unfolding point_bytes
  same_bytes members closed = ap (λ (l : Lists). parts_bytes (value_given v) l point_syntax) (sym same_lists)

  pub references_many : length references ≡ length v.references
  references_many = ap length are.references_are ∙ length-map v.references reference_byte

  pub layers_many : length layers ≡ length v.layers
  layers_many = sym (length-map layers flags_in) ∙ ap length are.layers_are

  pub none_wide : any reference_too_wide references ≡ false
  none_wide = ap (any reference_too_wide) are.references_are ∙ references_fine v.references (references_fit v known)

-- ---- points of values

-- their bytes, and whether one has a reserved count
abbrev pub values_bytes : List PointValue → List ℕ
values_bytes vs = gather (λ v. parts_bytes (value_given v) (value_lists v) point_syntax) vs

abbrev pub is_reserved_value : PointValue → Bool
is_reserved_value v = eqb (length v.references) 255

pub record RowsKnown (vs : List PointValue) (points references layers : List ℕ) : Type 0 where
  pub long : length points ≡ length vs * 12
  pub rows_fine : any row_too_wide (twelves (length vs) points) ≡ false
  pub references_fine : any reference_too_wide references ≡ false
  pub references_counted : total references_counted (twelves (length vs) points) ≡ length references
  pub layers_counted : total layers_counted (twelves (length vs) points) ≡ length layers
  pub reserved_alike : any is_reserved (twelves (length vs) points) ≡ any is_reserved_value vs
  pub bytes_alike : points_bytes (twelves (length vs) points) references layers ≡ values_bytes vs

pub rows_known : {vs : List PointValue} {points references layers : List ℕ} → Rows vs points references layers → Meaning.EachFits vs
    → RowsKnown vs points references layers
rows_known Rows.none Meaning.EachFits.none =
    record { long = refl; rows_fine = refl; references_fine = refl; references_counted = refl; layers_counted = refl; reserved_alike = refl; bytes_alike = refl }
rows_known (Rows.row_then {v} {vs} {points} {references} {layers} members closed its_references its_layers are rest) (Meaning.EachFits.point_then fits others) =
    let later = rows_known rest others in
    let many = references_many v fits its_references its_layers are in
    let fewer = layers_many v fits its_references its_layers are in
    let all = length-append its_references references in
    let every = length-append its_layers layers in
    record {
      long = (let l = later.long in omega arith);
      rows_fine = ap₂ ◌||◌ (row_fine_lem v fits members closed) later.rows_fine;
      references_fine = any_append reference_too_wide its_references references ∙ ap₂ ◌||◌ (none_wide v fits its_references its_layers are) later.references_fine;
      references_counted = (let c = later.references_counted in omega arith);
      layers_counted = (let c = later.layers_counted in omega arith);
      reserved_alike = ap (λ (b : Bool). is_reserved_value v || b) later.reserved_alike;
      bytes_alike = ap₂ (λ (a b : List ℕ). a ++ b)
          (ap₂ (λ (a b : List ℕ). point_bytes (numbers_of v ++ (members ∷ closed ∷ [])) a b) (take_at its_references references (length v.references) many)
          (take_at its_layers layers (length v.layers) fewer)
          ∙ same_bytes v fits its_references its_layers are members closed)
          (ap₂ (λ (a b : List ℕ). points_bytes (twelves (length vs) points) a b) (drop_at its_references references (length v.references) many)
          (drop_at its_layers layers (length v.layers) fewer)
          ∙ later.bytes_alike);
    }

-- ---- the values that rows are

-- the point of a row and its two lists
abbrev pub value_in : List ℕ → List ℕ → List ℕ → PointValue
value_in row references layers =
    record {
      target_ols = get_or row 0 0;
      references = map reference_in references;
      layers = map flags_in layers;
      temporal_id = get_or row 6 0;
      frame_rate = frame_rate_of (get_or row 5 0) (get_or row 7 0);
      average = bit_rate_of (eqb (get_or row 3 0) 1) (get_or row 8 0);
      maximum = bit_rate_of (eqb (get_or row 4 0) 1) (get_or row 9 0);
    }

abbrev pub values_in : List (List ℕ) → List ℕ → List ℕ → List PointValue
values_in [] references layers = []
values_in (row ∷ rows) references layers =
    value_in row (take (references_counted row) references) (take (layers_counted row) layers)
    ∷ values_in rows (drop (references_counted row) references) (drop (layers_counted row) layers)

twelve : (l : List ℕ) → length l ≡ 12
    → get_or l 0 0 ∷ get_or l 1 0 ∷ get_or l 2 0 ∷ get_or l 3 0 ∷ get_or l 4 0 ∷ get_or l 5 0 ∷ get_or l 6 0 ∷ get_or l 7 0 ∷ get_or l 8 0 ∷ get_or l 9 0 ∷ get_or l 10 0 ∷ get_or l 11 0 ∷ [] ≡ l
twelve ([]) e = absurd (omega arith)
twelve (a0 ∷ []) e = absurd (omega arith)
twelve (a0 ∷ a1 ∷ []) e = absurd (omega arith)
twelve (a0 ∷ a1 ∷ a2 ∷ []) e = absurd (omega arith)
twelve (a0 ∷ a1 ∷ a2 ∷ a3 ∷ []) e = absurd (omega arith)
twelve (a0 ∷ a1 ∷ a2 ∷ a3 ∷ a4 ∷ []) e = absurd (omega arith)
twelve (a0 ∷ a1 ∷ a2 ∷ a3 ∷ a4 ∷ a5 ∷ []) e = absurd (omega arith)
twelve (a0 ∷ a1 ∷ a2 ∷ a3 ∷ a4 ∷ a5 ∷ a6 ∷ []) e = absurd (omega arith)
twelve (a0 ∷ a1 ∷ a2 ∷ a3 ∷ a4 ∷ a5 ∷ a6 ∷ a7 ∷ []) e = absurd (omega arith)
twelve (a0 ∷ a1 ∷ a2 ∷ a3 ∷ a4 ∷ a5 ∷ a6 ∷ a7 ∷ a8 ∷ []) e = absurd (omega arith)
twelve (a0 ∷ a1 ∷ a2 ∷ a3 ∷ a4 ∷ a5 ∷ a6 ∷ a7 ∷ a8 ∷ a9 ∷ []) e = absurd (omega arith)
twelve (a0 ∷ a1 ∷ a2 ∷ a3 ∷ a4 ∷ a5 ∷ a6 ∷ a7 ∷ a8 ∷ a9 ∷ a10 ∷ []) e = absurd (omega arith)
twelve (a0 ∷ a1 ∷ a2 ∷ a3 ∷ a4 ∷ a5 ∷ a6 ∷ a7 ∷ a8 ∷ a9 ∷ a10 ∷ a11 ∷ []) e = refl
twelve (a0 ∷ a1 ∷ a2 ∷ a3 ∷ a4 ∷ a5 ∷ a6 ∷ a7 ∷ a8 ∷ a9 ∷ a10 ∷ a11 ∷ b ∷ l) e = absurd (omega arith)

idc_back : (idc indicator : ℕ) → idc_of (frame_rate_of idc indicator) ≡ idc
idc_back idc indicator = go (ltb 0 idc) refl
  where
    go : (b : Bool) → ltb 0 idc ≡ b → idc_of (cond b (constant idc indicator) no_frame_rate) ≡ idc
    go true e = refl
    go false e = (let h = ltb-false 0 idc e in omega arith)

indicator_back : (idc indicator : ℕ) → field_fits (ltb 0 idc) indicator 4096 ≡ true → indicator_of (frame_rate_of idc indicator) ≡ indicator
indicator_back idc indicator f = go (ltb 0 idc) f
  where
    go : (b : Bool) → field_fits b indicator 4096 ≡ true → indicator_of (cond b (constant idc indicator) no_frame_rate) ≡ indicator
    go true e = refl
    go false e = sym (eqb-true indicator 0 e)

shaped_in : (idc indicator : ℕ) → Shaped (frame_rate_of idc indicator)
shaped_in idc indicator = go (ltb 0 idc) refl
  where
    go : (b : Bool) → ltb 0 idc ≡ b → Shaped (cond b (constant idc indicator) no_frame_rate)
    go true e = ltb-true 0 idc e
    go false e = tt

flag_back : (flag number : ℕ) → flag < 2 → flag_of (bit_rate_of (eqb flag 1) number) ≡ flag
flag_back zero number h = refl
flag_back (suc zero) number h = refl
flag_back (suc (suc n)) number h = absurd (omega arith)

number_back : (flag number : ℕ) → field_fits (eqb flag 1) number 16777216 ≡ true → number_of (bit_rate_of (eqb flag 1) number) ≡ number
number_back flag number f = go (eqb flag 1) f
  where
    go : (b : Bool) → field_fits b number 16777216 ≡ true → number_of (bit_rate_of b number) ≡ number
    go true e = refl
    go false e = sym (eqb-true number 0 e)

each_item_fits : (t : Table) → ((byte : ℕ) → Fit t (values_by t (item_in t byte))) → (l : List ℕ) → EachFits t (map (item_in t) l)
each_item_fits t fit [] = EachFits.none
each_item_fits t fit (x ∷ xs) = EachFits.one_then (fit x) (each_item_fits t fit xs)

references_back : (l : List ℕ) → any reference_too_wide l ≡ false → l ≡ map reference_byte (map reference_in l)
references_back [] e = refl
references_back (x ∷ xs) e =
    ap₂ (λ (y : ℕ) (ys : List ℕ). y ∷ ys) (sym (reference_back x (neither_left (reference_too_wide x) (any reference_too_wide xs) e)))
    (references_back xs (neither_right (reference_too_wide x) (any reference_too_wide xs) e))

pub references_given : (l : List ℕ) → map (item_in reference) l ≡ map reference_given (map reference_in l)
references_given [] = refl
references_given (x ∷ xs) = ap₂ (λ (y : Given) (ys : List Given). y ∷ ys) (sym (reference_given_lem x)) (references_given xs)

module _ (row references layers : List ℕ) (long : length row ≡ 12) (fine : row_too_wide row ≡ false) (some : length references ≡ references_counted row)
    (few : length layers ≡ layers_counted row) where
  pub numbers_back : numbers_of (value_in row references layers) ++ (get_or row 10 0 ∷ get_or row 11 0 ∷ []) ≡ row
  numbers_back =
      let f = row_fits row fine in
      let r : length (map reference_in references) ≡ get_or row 1 0 = length-map references reference_in ∙ some in
      let l : length (map flags_in layers) ≡ get_or row 2 0 = length-map layers flags_in ∙ few in
      (λ i. get_or row 0 0
      ∷ r i
      ∷ l i
      ∷ flag_back (get_or row 3 0) (get_or row 8 0) f.average_flag i
      ∷ flag_back (get_or row 4 0) (get_or row 9 0) f.maximum_flag i
      ∷ idc_back (get_or row 5 0) (get_or row 7 0) i
      ∷ get_or row 6 0
      ∷ indicator_back (get_or row 5 0) (get_or row 7 0) f.indicator i
      ∷ number_back (get_or row 3 0) (get_or row 8 0) f.average i
      ∷ number_back (get_or row 4 0) (get_or row 9 0) f.maximum i
      ∷ get_or row 10 0
      ∷ get_or row 11 0
      ∷ [])
      ∙ twelve row long

  pub point_fits : PointFits (value_in row references layers)
  unfolding row_too_wide
  point_fits =
      record {
        fits = narrow_fit (value_given (value_in row references layers)) (value_lists (value_in row references layers)) point_syntax (
          subst (EachFits reference) (references_given references) (each_item_fits reference (λ byte. read_fits reference (byte ∷ [])) references),
          (subst (EachFits flags) (sym (layers_items layers)) (each_item_fits flags (λ byte. read_fits flags (byte ∷ [])) layers), tt),
        )
            (ap (λ (l : List ℕ). any (part_too_wide (given_in l)) point_syntax) numbers_back ∙ fine);
        shaped = shaped_in (get_or row 5 0) (get_or row 7 0);
      }

  lists_are : any reference_too_wide references ≡ false → ListsOf (value_in row references layers) references layers
  lists_are e = record { references_are = references_back references e; layers_are = refl }

pub record ValuesKnown (rows : List (List ℕ)) (points references layers : List ℕ) : Type 0 where
  pub laid : Rows (values_in rows references layers) points references layers
  pub fit : Meaning.EachFits (values_in rows references layers)
  pub many : length (values_in rows references layers) ≡ length rows

-- Rows that are not too wide, with lists that are as long as they say, are those of values.
pub values_known : (n : ℕ) (points references layers : List ℕ) → length points ≡ n * 12 → any row_too_wide (twelves n points) ≡ false
    → any reference_too_wide references ≡ false → total references_counted (twelves n points) ≡ length references
    → total layers_counted (twelves n points) ≡ length layers → ValuesKnown (twelves n points) points references layers
values_known zero [] [] [] long fine small some few = record { laid = Rows.none; fit = Meaning.EachFits.none; many = refl }
values_known zero (x ∷ points) references layers long fine small some few = absurd (omega arith)
values_known zero [] (x ∷ references) layers long fine small some few = absurd (omega arith)
values_known zero [] [] (x ∷ layers) long fine small some few = absurd (omega arith)
values_known (suc n) points references layers long fine small some few =
    let row : List ℕ = take 12 points in
    let es : ℕ = references_counted row in
    let count : ℕ = layers_counted row in
    let row_long : length row ≡ 12 = length-take-le 12 points (omega arith) in
    let its_references : length (take es references) ≡ es = length-take-le es references (omega arith) in
    let its_layers : length (take count layers) ≡ count = length-take-le count layers (omega arith) in
    let less = length-drop es references in
    let fewer = length-drop count layers in
    let first = neither_left (row_too_wide row) (any row_too_wide (twelves n (drop 12 points))) fine in
    let later =
    values_known n (drop 12 points) (drop es references) (drop count layers) (length-drop 12 points ∙ omega arith)
    (neither_right (row_too_wide row) (any row_too_wide (twelves n (drop 12 points))) fine) (any_behind reference_too_wide references small es) (omega arith) (omega arith) in
    let back = numbers_back row (take es references) (take count layers) row_long first its_references its_layers in
    record {
      laid = subst3 (λ (p r l : List ℕ). Rows (values_in (twelves (suc n) points) references layers) p r l)
          (ap (λ (l : List ℕ). l ++ drop 12 points) back ∙ take-append-drop 12 points) (take-append-drop es references) (take-append-drop count layers)
          (Rows.row_then (get_or row 10 0) (get_or row 11 0) (take es references) (take count layers)
          (lists_are row (take es references) (take count layers) row_long first its_references its_layers (any_part reference_too_wide references small es 0)) later.laid);
      fit = Meaning.EachFits.point_then (point_fits row (take es references) (take count layers) row_long first its_references its_layers) later.fit;
      many = ap suc later.many;
    }
  where
    subst3 : (P : List ℕ → List ℕ → List ℕ → Type 0) {a b c d e f : List ℕ} → a ≡ d → b ≡ e → c ≡ f → P a b c → P d e f
    subst3 P p q r x = mathlib.Core.Path.subst (λ (i : _). i) (λ i. P (p i) (q i) (r i)) x
