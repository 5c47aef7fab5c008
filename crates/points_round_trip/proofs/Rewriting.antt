-- WRITING WHAT WAS READ gives the same bytes: of a payload in the writer's own shape the value can be written, is written as this payload, and its own lists are
-- taken by the call.
-- Assumes nothing.
use Rattle.std.specs.Prelude.{ℕ, suc, ◌+◌, ◌*◌, ◌/◌, ◌%◌, ◌^◌, ◌≤◌, ◌<◌, ◌≡◌, refl, Bool, true, false, cond, List, [], ◌∷◌, ◌++◌, map, eqb, length, take, drop, None, Ok, Some}
use Rattle.std.proofs.Common.{sym, ap, ap₂, ◌∙◌, subst, append_assoc, arith, not-suc-le-zero, le-leb, length-append, take_at, drop_at}
use Rattle.combinators.specs.Lists.{here, there, nth_inside, gather}
use Rattle.syntax.specs.Table.{AreBytes, write_table, none, at_value, at_reserved}
use Rattle.syntax.specs.Named.{Given, read_by}
use Rattle.syntax.specs.Filled.{bytes_in}
use Rattle.syntax.proofs.Laws.{read_fits}
use Rattle.syntax.proofs.NamedLaws.{written_by_meant}
use Rattle.syntax.proofs.Equations.{bounds}
use Rattle.descriptor_heads.specs.Head.{head_table}
use Rattle.descriptor_heads.proofs.Heads.{head_written}
use Rattle.operation_points.specs.declared.LayerFlags.{LayerFlags}
use Rattle.operation_points.specs.Tables.{profiles_count, profile, points_count, flags, head_syntax}
use Rattle.operation_points.specs.Points.{head_in, head_of, filling_by, points_filling, filling_after, filling_of}
use Rattle.operation_points.specs.Values.{PointValue, DescriptorValue, point_value, points_by, points_in, value_after, value_of, flags_in, flags_byte, reference_bytes, layer_bytes}
use Rattle.operation_points.specs.declared.Head.{Head}
use Rattle.operation_points.specs.Answer.{HeadRead, FirstPoint}
use Rattle.operation_points.proofs.Parsed.{parses_walk}
use Rattle.point_fields.specs.WrittenParts.{EachFits, FitParts}
use Rattle.point_weights.specs.Rows.{twelves}
use Rattle.point_writer.specs.Layout.{extension_tag, head_given, head_lists}
use Rattle.point_writer.specs.Writing.{answer, content}
use Rattle.point_writer.specs.Meaning.{flags_given, value_given, value_lists, ValueFits, Rows, Gives, SomeReserved, reserved_at, WritesPoints, WritesPayload, WritesDescriptor, descriptor, accepts}
use Rattle.point_writer.specs.Meaning as Meaning
use Rattle.point_writer.proofs.PartLaws.{fit_items}
use Rattle.point_writer.proofs.Meant.{tag_written, Only, answer_only}
use Rattle.points_round_trip.specs.OwnShape.{OwnEach, OwnParts, OwnPoints, OwnPayload}
use Rattle.points_round_trip.specs.OwnParsed.{items_of, Plain}
use Rattle.points_round_trip.proofs.OwnParsed.{each_long, own_parses, bytes_left, bytes_right, own_writes}
use Rattle.points_round_trip.proofs.OwnPoint.{again}
use Rattle.points_round_trip.specs.Rewriting.{rows_of, Rewritten}

-- ---- the points

pub record PointsAgain (count : ℕ) (l : List ℕ) : Type 0 where
  pub values : List PointValue
  pub long : length values ≡ count
  pub fits : Meaning.EachFits values
  pub unreserved : SomeReserved values → ⊥
  pub written : WritesPoints values l
  pub filled : points_filling count l ≡ Ok tt
  pub read : points_in count l ≡ values

pub points_again : {count : ℕ} {l : List ℕ} → OwnPoints count l → AreBytes l → PointsAgain count l
points_again OwnPoints.none b =
    record { values = []; long = refl; fits = Meaning.EachFits.none; unreserved = nobody; written = WritesPoints.nothing; filled = refl; read = refl }
  where
    nobody : SomeReserved [] → ⊥
    nobody (reserved_at n e) = not-suc-le-zero (nth_inside n)
points_again (OwnPoints.point_then {count} {given} point behind p allowed rest) b =
    let first = again p (bytes_left point behind b) allowed behind in
    let later = points_again rest (bytes_right point behind b) in
    let past : drop (length point) (point ++ behind) ≡ behind = drop_at point behind (length point) refl in
    record {
      values = first.value ∷ later.values;
      long = ap suc later.long;
      fits = Meaning.EachFits.point_then first.fits later.fits;
      unreserved = either first.allowed later.unreserved;
      written = WritesPoints.point_then first.written later.written;
      filled = ap (λ (f : FirstPoint). filling_by f (λ size. points_filling count (drop size (point ++ behind)))) first.first ∙ ap (points_filling count) past ∙ later.filled;
      read = ap (λ (f : FirstPoint). points_by f (λ q. point_value q (point ++ behind)) (λ size. points_in count (drop size (point ++ behind)))) first.first
          ∙ ap₂ (λ (x : PointValue) (xs : List PointValue). x ∷ xs) first.read (ap (points_in count) past ∙ later.read);
    }
  where
    either : {v : PointValue} {vs : List PointValue} → (length v.references ≡ 255 → ⊥) → (SomeReserved vs → ⊥) → SomeReserved (v ∷ vs) → ⊥
    either f g (reserved_at here e) = f e
    either f g (reserved_at (there n) e) = g (reserved_at n e)

-- ---- the payload

-- the profiles, piece by piece
pieces : {n : ℕ} {l : List ℕ} (each : OwnEach profile n l) → items_of each ≡ map (read_by profile) (twelves n l)
pieces OwnEach.none = refl
pieces (OwnEach.one_then {n} l rest long ones each) =
    ap₂ (λ (x : Given) (xs : List Given). x ∷ xs) (ap (read_by profile) (sym (take_at l rest 12 long)))
    (pieces each ∙ ap (λ (m : List ℕ). map (read_by profile) (twelves n m)) (sym (drop_at l rest 12 long)))

profiles_fit : (ps : List (List ℕ)) → EachFits profile (map (read_by profile) ps)
profiles_fit [] = EachFits.none
profiles_fit (piece ∷ ps) = EachFits.one_then (read_fits profile piece) (profiles_fit ps)

head_plain : Plain head_syntax
head_plain = (λ x. refl, (λ x. refl, λ l. refl, (λ x. refl, tt)))

-- THE SAME AGAIN, of a payload.
pub record PayloadAgain (payload : List ℕ) : Type 0 where
  pub fills : filling_of payload ≡ Ok tt
  pub fits : ValueFits (value_of payload)
  pub unreserved : SomeReserved (value_of payload).points → ⊥
  pub written : WritesPayload (value_of payload) payload

module _ (num count : ℕ) (first structures second points : List ℕ) (few : num < 64) (less : count < 256) (one : length first ≡ 1) (each : OwnEach profile num structures)
    (behind : PointsAgain count points) where
  abbrev payload_of : List ℕ
  payload_of = (first ++ (structures ++ (second ++ []))) ++ points

  abbrev v : DescriptorValue
  v = record { profiles = structures; points = behind.values }

  structures_long : length structures ≡ num * 12
  structures_long = each_long each

  many : length structures / 12 ≡ num
  many = (let e = structures_long in omega arith)

  abbrev head_read : Head
  head_read = record { num_ptl = num; operation_points_count = count; points_at = length (first ++ (structures ++ (second ++ []))) }

  past : drop (length (first ++ (structures ++ (second ++ [])))) payload_of ≡ points
  past = drop_at (first ++ (structures ++ (second ++ []))) points (length (first ++ (structures ++ (second ++ [])))) refl

  profiles_there : take (num * 12) (drop 1 payload_of) ≡ structures
  profiles_there =
      ap (λ (l : List ℕ). take (num * 12) (drop 1 l)) (append_assoc first (structures ++ (second ++ [])) points)
      ∙ ap (take (num * 12)) (drop_at first ((structures ++ (second ++ [])) ++ points) 1 one ∙ append_assoc structures (second ++ []) points)
      ∙ take_at structures ((second ++ []) ++ points) (num * 12) structures_long

  value_is : head_of payload_of ≡ Some head_read → value_of payload_of ≡ v
  value_is e =
      ap (λ (h : HeadRead). value_after h payload_of) e
      ∙ (λ i. record { profiles = profiles_there i; points = (ap (points_in count) past ∙ behind.read) i })

  fills_is : head_of payload_of ≡ Some head_read → filling_of payload_of ≡ Ok tt
  fills_is e = ap (λ (h : HeadRead). filling_after h payload_of) e ∙ ap (points_filling count) past ∙ behind.filled

  value_fits : ValueFits v
  value_fits =
      let few_structures : length structures / 12 < 64 = omega (arith, many) in
      let few_values : length behind.values < 256 = omega (arith, behind.long) in
      record {
        whole = (let e = structures_long in omega arith);
        counts = FitParts.lines_then (at_reserved {w = 2} (at_value {w = 6} few_structures none))
            (FitParts.repeated_then (profiles_fit (twelves (length structures / 12) structures)) (FitParts.lines_then (at_value {w = 8} few_values none) FitParts.none));
        points = behind.fits;
      }

  structures_carried : items_of each ≡ head_lists structures "num_ptl"
  structures_carried = pieces each ∙ ap (λ (n : ℕ). map (read_by profile) (twelves n structures)) (sym many)

pub own_payload : {payload : List ℕ} → OwnPayload payload → AreBytes payload → PayloadAgain payload
unfolding head_of
own_payload (OwnPayload.head_then _ points
    (OwnParts.lines_then first _ long-first ones-first (OwnParts.repeated_then structures _ each (OwnParts.lines_then second _ long-second ones-second OwnParts.nothing))) rest) b =
    let p : OwnParts head_syntax [] (first ++ (structures ++ (second ++ []))) _ =
    OwnParts.lines_then first _ long-first ones-first (OwnParts.repeated_then structures _ each (OwnParts.lines_then second _ long-second ones-second OwnParts.nothing)) in
    let head : List ℕ = first ++ (structures ++ (second ++ [])) in
    let behind = points_again rest (bytes_right head points b) in
    let h = bounds (read_fits profiles_count first) in
    let k = bounds (read_fits points_count second) in
    let headed = ap (head_in (head ++ points)) (parses_walk points (head ++ points) refl (own_parses p))
    ∙ ap (λ (x : Bool). cond x (Some (head_read _ _ first structures second points h.0 k.0 long-first each behind)) None)
    (le-leb (length head) (length (head ++ points)) (omega (arith, length-append head points))) in
    let is = value_is _ _ first structures second points h.0 k.0 long-first each behind headed in
    let fine = value_fits _ _ first structures second points h.0 k.0 long-first each behind in
    let value : DescriptorValue = v _ _ first structures second points h.0 k.0 long-first each behind in
    record {
      fills = fills_is _ _ first structures second points h.0 k.0 long-first each behind headed;
      fits = subst ValueFits (sym is) fine;
      unreserved = subst (λ (x : DescriptorValue). SomeReserved x.points → ⊥) (sym is) behind.unreserved;
      written = subst (λ (x : DescriptorValue). WritesPayload x (head ++ points)) (sym is)
          (Meaning.head_then
          (own_writes (head_given (length structures) (length behind.values)) (head_lists structures) head_plain (bytes_left head points b) p (
            ap (λ (n : ℕ). n ∷ []) (sym (many _ _ first structures second points h.0 k.0 long-first each behind)),
            (structures_carried _ _ first structures second points h.0 k.0 long-first each behind, (ap (λ (n : ℕ). n ∷ []) (sym behind.long), tt)),
          ))
          behind.written);
    }

-- ---- the lists of a value that can be written

flags_byte_lem : (f : LayerFlags) → f.ptl_ref_idx < 64 → flags_in (flags_byte f) ≡ f
flags_byte_lem f h = go f.necessary_layer_flag f.output_layer_flag f.ptl_ref_idx h
  where
    from : (p x y : ℕ) (a b : Bool) (byte : ℕ) → (byte * 256 ^ 0 + 0) / 2 ^ 7 % 2 ^ 1 ≡ x → (byte * 256 ^ 0 + 0) / 2 ^ 6 % 2 ^ 1 ≡ y
        → (byte * 256 ^ 0 + 0) / 2 ^ 0 % 2 ^ 6 ≡ p → eqb x 1 ≡ a → eqb y 1 ≡ b
        → flags_in byte ≡ record { necessary_layer_flag = a; output_layer_flag = b; ptl_ref_idx = p }
    from p x y a b byte e f g i j =
        λ k. record {
          necessary_layer_flag = (ap (λ (n : ℕ). eqb n 1) e ∙ i) k;
          output_layer_flag = (ap (λ (n : ℕ). eqb n 1) f ∙ j) k;
          ptl_ref_idx = g k;
        }

    go : (a b : Bool) (p : ℕ) → p < 64 → flags_in (cond a 128 0 + cond b 64 0 + p) ≡ record { necessary_layer_flag = a; output_layer_flag = b; ptl_ref_idx = p }
    go true true p h = from p 1 1 true true (128 + 64 + p) (omega arith) (omega arith) (omega arith) refl refl
    go true false p h = from p 1 0 true false (128 + 0 + p) (omega arith) (omega arith) (omega arith) refl refl
    go false true p h = from p 0 1 false true (0 + 64 + p) (omega arith) (omega arith) (omega arith) refl refl
    go false false p h = from p 0 0 false false (0 + 0 + p) (omega arith) (omega arith) (omega arith) refl refl

layers_back : (fs : List LayerFlags) → EachFits flags (map flags_given fs) → map flags_in (map flags_byte fs) ≡ fs
layers_back [] e = refl
layers_back (f ∷ fs) (EachFits.one_then fit fits) =
    let b = bounds fit in ap₂ (λ (x : LayerFlags) (xs : List LayerFlags). x ∷ xs) (flags_byte_lem f b.1.1.0) (layers_back fs fits)

module _ (members closed : PointValue → ℕ) where
  rows_of_lem : {vs : List PointValue} → Meaning.EachFits vs → Rows vs (rows_of members closed vs) (gather reference_bytes vs) (gather layer_bytes vs)
  rows_of_lem Meaning.EachFits.none = Rows.none
  rows_of_lem (Meaning.EachFits.point_then {v} fits others) =
      Rows.row_then (members v) (closed v) (reference_bytes v) (layer_bytes v)
      (record { references_are = refl; layers_are = layers_back v.layers (fit_items (value_given v) (value_lists v) fits.fits).1.0 }) (rows_of_lem others)

  pub own_lists : (v : DescriptorValue) → ValueFits v → Gives v.profiles (rows_of members closed v.points) (gather reference_bytes v.points) (gather layer_bytes v.points) v
  own_lists v fits = record { profiles_are = refl; rows = rows_of_lem fits.points; fits = fits }

-- ---- THE CALL: given lists of the value of a payload in the writer's own shape, it writes the descriptor with this payload, wherever there is room.

-- the descriptor with this payload is the one that its value is written as
pub descriptor_again : (payload : List ℕ) → OwnPayload payload → AreBytes payload → 1 + length payload ≤ 255
    → WritesDescriptor (value_of payload) (63 ∷ (1 + length payload) ∷ 5 ∷ payload)
descriptor_again payload own b short =
    subst (λ (l : List ℕ). WritesDescriptor (value_of payload) (l ++ (5 ∷ payload))) (sym (head_written 63 (1 + length payload) (omega arith) (omega arith)))
    (subst (λ (n : ℕ). WritesDescriptor (value_of payload) (bytes_in (head_table 63 n) ++ (5 ∷ payload))) behind
    (descriptor {tag = write_table extension_tag []} {payload = payload}
    (written_by_meant (record { whole = refl; fixed_fit = refl }) refl (at_value {w = 8} (omega arith) (at_value {w = 8} (omega (arith, behind)) none)))
    (tag_written [] [] [] []) (own_payload own b).written))
  where
    behind : length (write_table extension_tag [] ++ payload) ≡ 1 + length payload
    behind = omega arith

module _ (profiles points references layers old payload : List ℕ) (own : OwnPayload payload) (b : AreBytes payload) (short : 1 + length payload ≤ 255) where
  three_more : length (63 ∷ (1 + length payload) ∷ 5 ∷ payload) ≡ 3 + length payload
  three_more = omega arith

  only : Gives profiles points references layers (value_of payload) → 3 + length payload ≤ length old
      → Only profiles points references layers old (Ok (length (63 ∷ (1 + length payload) ∷ 5 ∷ payload)))
      ((63 ∷ (1 + length payload) ∷ 5 ∷ payload) ++ drop (length (63 ∷ (1 + length payload) ∷ 5 ∷ payload)) old)
  only g room =
      answer_only profiles points references layers old
      (accepts g (own_payload own b).unreserved (descriptor_again payload own b short) (subst (λ (n : ℕ). n ≤ length old) (sym three_more) room))

  pub rewritten : Gives profiles points references layers (value_of payload) → 3 + length payload ≤ length old
      → Rewritten profiles points references layers old payload
  rewritten g room =
      record {
        answers = subst (λ (n : ℕ). Ok n ≡ answer (length old) profiles points references layers) three_more (only g room).answers;
        holds = subst (λ (n : ℕ). (63 ∷ (1 + length payload) ∷ 5 ∷ payload) ++ drop n old ≡ content profiles points references layers old) three_more (only g room).holds;
      }
