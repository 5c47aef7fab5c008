-- A point of the writer's own shape: it is read, its value can be written, and is written as these bytes.
-- Assumes nothing.
use Rattle.std.specs.Prelude.{ℕ, ◌+◌, ◌*◌, ◌<◌, ◌≡◌, refl, Bool, true, false, cond, not, ◌&&◌, List, [], ◌∷◌, ◌++◌, map, eqb, leb, ltb, length, get_or, take, drop, Err, Ok}
use Rattle.std.proofs.Common.{sym, ap, ap₂, ◌∙◌, subst, append_assoc, arith, le-leb, lt-ltb, ne_eqb, length-append, take_at, drop_at, drop-drop}
use Rattle.std.proofs.lemmas.List.{length-map}
use Rattle.syntax.specs.Table.{Table, AreBytes, bytes, read_table}
use Rattle.syntax.specs.Named.{Given, given_to, by_names, read_by}
use Rattle.syntax.proofs.Laws.{read_fits, read_before}
use Rattle.syntax.proofs.Equations.{bounds}
use Rattle.operation_points.specs.Parts.{Part, when, Walked}
use Rattle.operation_points.specs.Tables.{point_head, reference, flags_count, flags, rates, frame_rate, average_rate, maximum_rate, has_frame_rate, has_average_rate, has_maximum_rate, point_syntax}
use Rattle.operation_points.specs.Points.{point_from, is_reserved, point_in, first_point}
use Rattle.operation_points.specs.Values.{PointValue, reference_in, point_value}
use Rattle.operation_points.specs.declared.PointFault.TheVariants.{DoesNotFit, ReservedCount}
use Rattle.operation_points.proofs.Parsed.{parses_walk}
use Rattle.point_fields.specs.WrittenParts.{Lists, WritesParts}
use Rattle.point_fields.specs.Fields.{given_in, item_in, row_too_wide}
use Rattle.point_fields.proofs.Rows.{field_fits, tests, tested}
use Rattle.point_writer.specs.Meaning.{value_given, value_lists, PointFits}
use Rattle.point_writer.proofs.Values.{value_in, layers_items, references_given, numbers_back, point_fits}
use Rattle.points_round_trip.specs.ReadPoint.{seven}
use Rattle.points_round_trip.specs.OwnShape.{OwnEach, OwnParts}
use Rattle.points_round_trip.specs.OwnParsed.{items_of, Carried, Plain}
use Rattle.points_round_trip.proofs.OwnParsed.{each_long, own_parses, own_writes}

-- ---- the rates that may be there

abbrev whens : List Part
whens = when has_frame_rate frame_rate ∷ when has_average_rate average_rate ∷ when has_maximum_rate maximum_rate ∷ []

-- the row of a point that was read, with what is worked out left at 0
abbrev pub row_by : Given → List ℕ
row_by all =
    given_to "target_ols" all
    ∷ given_to "ES_count" all
    ∷ given_to "numEsInOp" all
    ∷ given_to "avg_bit_rate_info_flag" all
    ∷ given_to "max_bit_rate_info_flag" all
    ∷ given_to "constant_frame_rate_info_idc" all
    ∷ given_to "applicable_temporal_id" all
    ∷ given_to "frame_rate_indicator" all
    ∷ given_to "avg_bit_rate" all
    ∷ given_to "max_bit_rate" all
    ∷ 0
    ∷ 0
    ∷ []

there_fits : (b : Bool) (n bound : ℕ) → b ≡ true → n < bound → field_fits b n bound ≡ true
there_fits b n bound e h = ap (λ (x : Bool). field_fits x n bound) e ∙ lt-ltb n bound h

absent_fits : (b : Bool) (bound : ℕ) → b ≡ false → field_fits b 0 bound ≡ true
absent_fits b bound e = ap (λ (x : Bool). field_fits x 0 bound) e

record Tail (lists : Lists) (t e n a m c i : ℕ) {l : List ℕ} {all : Given} (p : OwnParts whens (seven t e n a m c i) l all) : Type 0 where
  pub first_seven : take 7 (row_by all) ≡ t ∷ e ∷ n ∷ a ∷ m ∷ c ∷ i ∷ []
  pub carried : Carried (given_in (row_by all)) lists p
  pub indicator : field_fits (ltb 0 c) (given_to "frame_rate_indicator" all) 4096 ≡ true
  pub average : field_fits (eqb a 1) (given_to "avg_bit_rate" all) 16777216 ≡ true
  pub maximum : field_fits (eqb m 1) (given_to "max_bit_rate" all) 16777216 ≡ true

tail_known : (lists : Lists) (t e n a m c i : ℕ) {l : List ℕ} {all : Given} (p : OwnParts whens (seven t e n a m c i) l all) → Tail lists t e n a m c i p
tail_known lists t e n a m c i (OwnParts.when_there fr _ e1 l1 o1 (OwnParts.when_there av _ e2 l2 o2 (OwnParts.when_there mx _ e3 l3 o3 OwnParts.nothing))) =
    record {
      first_seven = refl;
      carried = (e1, refl, (e2, refl, (e3, refl, tt)));
      indicator = there_fits (ltb 0 c) _ 4096 e1 (bounds (read_fits frame_rate fr)).0;
      average = there_fits (eqb a 1) _ 16777216 e2 (bounds (read_fits average_rate av)).0;
      maximum = there_fits (eqb m 1) _ 16777216 e3 (bounds (read_fits maximum_rate mx)).0;
    }
tail_known lists t e n a m c i (OwnParts.when_there fr _ e1 l1 o1 (OwnParts.when_there av _ e2 l2 o2 (OwnParts.when_not e3 OwnParts.nothing))) =
    record {
      first_seven = refl;
      carried = (e1, refl, (e2, refl, (e3, tt)));
      indicator = there_fits (ltb 0 c) _ 4096 e1 (bounds (read_fits frame_rate fr)).0;
      average = there_fits (eqb a 1) _ 16777216 e2 (bounds (read_fits average_rate av)).0;
      maximum = absent_fits (eqb m 1) 16777216 e3;
    }
tail_known lists t e n a m c i (OwnParts.when_there fr _ e1 l1 o1 (OwnParts.when_not e2 (OwnParts.when_there mx _ e3 l3 o3 OwnParts.nothing))) =
    record {
      first_seven = refl;
      carried = (e1, refl, (e2, (e3, refl, tt)));
      indicator = there_fits (ltb 0 c) _ 4096 e1 (bounds (read_fits frame_rate fr)).0;
      average = absent_fits (eqb a 1) 16777216 e2;
      maximum = there_fits (eqb m 1) _ 16777216 e3 (bounds (read_fits maximum_rate mx)).0;
    }
tail_known lists t e n a m c i (OwnParts.when_there fr _ e1 l1 o1 (OwnParts.when_not e2 (OwnParts.when_not e3 OwnParts.nothing))) =
    record {
      first_seven = refl;
      carried = (e1, refl, (e2, (e3, tt)));
      indicator = there_fits (ltb 0 c) _ 4096 e1 (bounds (read_fits frame_rate fr)).0;
      average = absent_fits (eqb a 1) 16777216 e2;
      maximum = absent_fits (eqb m 1) 16777216 e3;
    }
tail_known lists t e n a m c i (OwnParts.when_not e1 (OwnParts.when_there av _ e2 l2 o2 (OwnParts.when_there mx _ e3 l3 o3 OwnParts.nothing))) =
    record {
      first_seven = refl;
      carried = (e1, (e2, refl, (e3, refl, tt)));
      indicator = absent_fits (ltb 0 c) 4096 e1;
      average = there_fits (eqb a 1) _ 16777216 e2 (bounds (read_fits average_rate av)).0;
      maximum = there_fits (eqb m 1) _ 16777216 e3 (bounds (read_fits maximum_rate mx)).0;
    }
tail_known lists t e n a m c i (OwnParts.when_not e1 (OwnParts.when_there av _ e2 l2 o2 (OwnParts.when_not e3 OwnParts.nothing))) =
    record {
      first_seven = refl;
      carried = (e1, (e2, refl, (e3, tt)));
      indicator = absent_fits (ltb 0 c) 4096 e1;
      average = there_fits (eqb a 1) _ 16777216 e2 (bounds (read_fits average_rate av)).0;
      maximum = absent_fits (eqb m 1) 16777216 e3;
    }
tail_known lists t e n a m c i (OwnParts.when_not e1 (OwnParts.when_not e2 (OwnParts.when_there mx _ e3 l3 o3 OwnParts.nothing))) =
    record {
      first_seven = refl;
      carried = (e1, (e2, (e3, refl, tt)));
      indicator = absent_fits (ltb 0 c) 4096 e1;
      average = absent_fits (eqb a 1) 16777216 e2;
      maximum = there_fits (eqb m 1) _ 16777216 e3 (bounds (read_fits maximum_rate mx)).0;
    }
tail_known lists t e n a m c i (OwnParts.when_not e1 (OwnParts.when_not e2 (OwnParts.when_not e3 OwnParts.nothing))) =
    record {
      first_seven = refl;
      carried = (e1, (e2, (e3, tt)));
      indicator = absent_fits (ltb 0 c) 4096 e1;
      average = absent_fits (eqb a 1) 16777216 e2;
      maximum = absent_fits (eqb m 1) 16777216 e3;
    }

-- ---- the items of a list of bytes

each_items : {t : Table} {n : ℕ} {l : List ℕ} → bytes t ≡ 1 → (each : OwnEach t n l) → map (item_in t) l ≡ items_of each
each_items one OwnEach.none = refl
each_items one (OwnEach.one_then [] rest long ones each) = absurd (omega (arith, one, long))
each_items {t} one (OwnEach.one_then (b ∷ []) rest long ones each) = ap (λ (items : List Given). read_by t (b ∷ []) ∷ items) (each_items one each)
each_items one (OwnEach.one_then (b ∷ c ∷ l) rest long ones each) = absurd (omega (arith, one, long))

-- ---- the whole point

point_plain : Plain point_syntax
point_plain =
    (λ x. refl, (λ x. refl, λ l. refl, (λ x. refl, (λ x. refl, λ l. refl, (λ x. refl, (λ x. refl, (λ x. refl, (λ x. refl, tt))))))))

pub record Again (point rest : List ℕ) (all : Given) : Type 0 where
  pub value : PointValue
  pub first : first_point (point ++ rest) ≡ Ok (point_from (record { end = length point; given = all }))
  pub read : point_value (point_from (record { end = length point; given = all })) (point ++ rest) ≡ value
  pub fits : PointFits value
  pub allowed : length value.references ≡ 255 → ⊥
  pub written : WritesParts (value_given value) (value_lists value) point_syntax point

-- by the numbers of its fixed lines
module _ (t e n a m c i : ℕ) (references layers others : List ℕ) (all : Given) (tail : OwnParts whens (seven t e n a m c i) others all)
    (each-reference : OwnEach reference e references) (each-layer : OwnEach flags n layers) (small-t : t < 256) (small-e : e < 256) (small_n : n < 64) (small-a : a < 2)
    (small-m : m < 2) (small-c : c < 4) (small-i : i < 8) where
  abbrev row : List ℕ
  row = row_by all

  abbrev v : PointValue
  v = value_in row references layers

  known : Tail (value_lists v) t e n a m c i tail
  known = tail_known (value_lists v) t e n a m c i tail

  at : (j : ℕ) → get_or (take 7 row) j 0 ≡ get_or (t ∷ e ∷ n ∷ a ∷ m ∷ c ∷ i ∷ []) j 0
  at j = ap (λ (l : List ℕ). get_or l j 0) known.first_seven

  below : (j bound : ℕ) → get_or (t ∷ e ∷ n ∷ a ∷ m ∷ c ∷ i ∷ []) j 0 < bound → ltb (get_or (take 7 row) j 0) bound ≡ true
  below j bound h = ap (λ (x : ℕ). ltb x bound) (at j) ∙ lt-ltb (get_or (t ∷ e ∷ n ∷ a ∷ m ∷ c ∷ i ∷ []) j 0) bound h

  indicator_fits : field_fits (ltb 0 (given_to "constant_frame_rate_info_idc" all)) (given_to "frame_rate_indicator" all) 4096 ≡ true
  indicator_fits = ap (λ (x : ℕ). field_fits (ltb 0 x) (given_to "frame_rate_indicator" all) 4096) (at 5) ∙ known.indicator

  average_fits : field_fits (eqb (given_to "avg_bit_rate_info_flag" all) 1) (given_to "avg_bit_rate" all) 16777216 ≡ true
  average_fits = ap (λ (x : ℕ). field_fits (eqb x 1) (given_to "avg_bit_rate" all) 16777216) (at 3) ∙ known.average

  maximum_fits : field_fits (eqb (given_to "max_bit_rate_info_flag" all) 1) (given_to "max_bit_rate" all) 16777216 ≡ true
  maximum_fits = ap (λ (x : ℕ). field_fits (eqb x 1) (given_to "max_bit_rate" all) 16777216) (at 4) ∙ known.maximum

  all_tests : tests row ≡ true
  all_tests =
      λ j. below 0 256 small-t j
      && below 1 256 small-e j
      && below 2 64 small_n j
      && below 3 2 small-a j
      && below 4 2 small-m j
      && below 5 4 small-c j
      && below 6 8 small-i j
      && (indicator_fits j && average_fits j && maximum_fits j)

  row_fine_lem : row_too_wide row ≡ false
  row_fine_lem = sym (tested row) ∙ ap not all_tests

  many : length references ≡ e
  many = each_long each-reference ∙ (let same : e * 1 ≡ e = omega arith in same)

  few : length layers ≡ n
  few = each_long each-layer ∙ (let same : n * 1 ≡ n = omega arith in same)

  its_fits : PointFits v
  its_fits = point_fits row references layers refl row_fine_lem (many ∙ sym (at 1)) (few ∙ sym (at 2))

  given_back : given_in row ≡ value_given v
  given_back = sym (ap given_in (numbers_back row references layers refl row_fine_lem (many ∙ sym (at 1)) (few ∙ sym (at 2))))

  reference_items : items_of each-reference ≡ value_lists v "ES_count"
  reference_items = sym (each_items refl each-reference) ∙ references_given references

  layer_items : items_of each-layer ≡ value_lists v "numEsInOp"
  layer_items = sym (each_items refl each-layer) ∙ sym (layers_items layers)

  not_255 : (given_to "ES_count" all ≡ 255 → ⊥) → length v.references ≡ 255 → ⊥
  not_255 allowed e = allowed (at 1 ∙ sym many ∙ sym (length-map references reference_in) ∙ e)

  -- read behind a head of two bytes, with a count of one byte between the lists
  value_there : (head count more rest : List ℕ) (size : ℕ) → length head ≡ 2 → length count ≡ 1
      → point_value (point_from (record { end = size; given = all })) ((head ++ (references ++ (count ++ (layers ++ more)))) ++ rest) ≡ v
  value_there head count more rest size long-head long-count =
      let left : List ℕ = (head ++ (references ++ (count ++ (layers ++ more)))) ++ rest in
      let behind : drop 2 left ≡ references ++ ((count ++ (layers ++ more)) ++ rest) =
      ap (drop 2) (append_assoc head (references ++ (count ++ (layers ++ more))) rest)
      ∙ drop_at head ((references ++ (count ++ (layers ++ more))) ++ rest) 2 long-head
      ∙ append_assoc references (count ++ (layers ++ more)) rest in
      let es : ℕ = given_to "ES_count" all in
      let number : ℕ = given_to "numEsInOp" all in
      let is_es : es ≡ e = at 1 in
      let is_number : number ≡ n = at 2 in
      let first : take es (drop 2 left) ≡ references =
      ap (take es) behind ∙ take_at references ((count ++ (layers ++ more)) ++ rest) es (many ∙ sym is_es) in
      let past : drop (2 + (es * 1 + 1)) left ≡ layers ++ (more ++ rest) =
      sym (drop-drop (es * 1 + 1) 2 left)
      ∙ ap (drop (es * 1 + 1)) behind
      ∙ sym (drop-drop 1 (es * 1) (references ++ ((count ++ (layers ++ more)) ++ rest)))
      ∙ ap (drop 1) (drop_at references ((count ++ (layers ++ more)) ++ rest) (es * 1) (omega (arith, many, is_es)) ∙ append_assoc count (layers ++ more) rest)
      ∙ drop_at count ((layers ++ more) ++ rest) 1 long-count
      ∙ append_assoc layers more rest in
      let second : take number (drop (2 + (es * 1 + 1)) left) ≡ layers =
      ap (take number) past ∙ take_at layers (more ++ rest) number (few ∙ sym is_number) in
      ap₂ (λ (x y : List ℕ). value_in row x y) first second

  record PointKnown : Type 0 where
    pub seven_kept : take 7 row ≡ t ∷ e ∷ n ∷ a ∷ m ∷ c ∷ i ∷ []
    pub rates_carried : Carried (given_in row) (value_lists v) tail
    pub references_carried : items_of each-reference ≡ value_lists v "ES_count"
    pub layers_carried : items_of each-layer ≡ value_lists v "numEsInOp"
    pub given_kept : given_in row ≡ value_given v
    pub fits : PointFits v
    pub not_reserved : (given_to "ES_count" all ≡ 255 → ⊥) → length v.references ≡ 255 → ⊥
    pub found : (head count more rest : List ℕ) (size : ℕ) → length head ≡ 2 → length count ≡ 1
        → point_value (point_from (record { end = size; given = all })) ((head ++ (references ++ (count ++ (layers ++ more)))) ++ rest) ≡ v

  point_known : PointKnown
  point_known =
      record {
        seven_kept = known.first_seven;
        rates_carried = known.carried;
        references_carried = reference_items;
        layers_carried = layer_items;
        given_kept = given_back;
        fits = its_fits;
        not_reserved = not_255;
        found = value_there;
      }

pub again : {point : List ℕ} {all : Given} → OwnParts point_syntax [] point all → AreBytes point → (given_to "ES_count" all ≡ 255 → ⊥) → (rest : List ℕ) → Again point rest all
unfolding first_point
again {all = all}
    (OwnParts.lines_then head _ long-head ones-head (OwnParts.repeated_then references _ each-reference (OwnParts.lines_then count _ long-count ones-count
    (OwnParts.repeated_then layers _ each-layer (OwnParts.lines_then some others long-rates ones-rates tail))))) b allowed rest =
    let point : List ℕ = head ++ (references ++ (count ++ (layers ++ (some ++ others)))) in
    let p : OwnParts point_syntax [] point all =
    OwnParts.lines_then head _ long-head ones-head (OwnParts.repeated_then references _ each-reference (OwnParts.lines_then count _ long-count ones-count
    (OwnParts.repeated_then layers _ each-layer (OwnParts.lines_then some others long-rates ones-rates tail)))) in
    let h = bounds (read_fits point_head head) in
    let k = bounds (read_fits flags_count count) in
    let r = bounds (read_fits rates some) in
    let v : PointValue = value_in (row_by all) references layers in
    let known =
    point_known _ _ _ _ _ _ _ references layers others all tail each-reference each-layer h.0 h.1.0 k.0 r.0 r.1.0 r.1.1.0 r.1.1.1.0 in
    let kept = known.seven_kept in
    let w : Walked = record { end = length point; given = all } in
    let es : given_to "ES_count" (read_by point_head (point ++ rest)) ≡ given_to "ES_count" all =
    ap (λ (vs : List ℕ). given_to "ES_count" (by_names point_head vs))
    (ap (read_table point_head) (append_assoc head (references ++ (count ++ (layers ++ (some ++ others)))) rest)
    ∙ read_before point_head head ((references ++ (count ++ (layers ++ (some ++ others)))) ++ rest) (omega (arith, long-head)))
    ∙ sym (ap (λ (l : List ℕ). get_or l 1 0) kept) in
    let unreserved : is_reserved (point ++ rest) ≡ false =
    ap (λ (x : Bool). leb 2 (length (point ++ rest)) && x) (ap (λ (x : ℕ). eqb x 0xFF) es ∙ ne_eqb (given_to "ES_count" all) 255 allowed)
    ∙ never (leb 2 (length (point ++ rest))) in
    record {
      value = v;
      first = ap (point_in (point ++ rest)) (parses_walk rest (point ++ rest) refl (own_parses p))
          ∙ ap₂ (λ (x y : Bool). cond x (Err ReservedCount) (cond y (Ok (point_from w)) (Err DoesNotFit))) unreserved
          (le-leb (length point) (length (point ++ rest)) (omega (arith, length-append point rest)));
      read = known.found head count (some ++ others) rest (length point) long-head long-count;
      fits = known.fits;
      allowed = known.not_reserved allowed;
      written = subst (λ (g : Given). WritesParts g (value_lists v) point_syntax point) known.given_kept
          (own_writes (given_in (row_by all)) (value_lists v) point_plain b p (
            sym (ap (take 2) kept),
            (
              known.references_carried,
              (
                sym (ap (λ (l : List ℕ). take 1 (drop 2 l)) kept),
                (
                  known.layers_carried,
                  (sym (ap (drop 3) kept), known.rates_carried),
                ),
              ),
            ),
          ));
    }
  where
    never : (x : Bool) → x && false ≡ false
    never true = refl
    never false = refl
