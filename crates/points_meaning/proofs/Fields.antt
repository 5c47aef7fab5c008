-- The values that are computed are what the fields say, and nothing else is: `points_meant` and `points_only`, `payload_meant` and `payload_only`.
-- Assumes nothing.
use Rattle.std.specs.Prelude.{None, Some}
use Prim.Native.Nat.{ℕ, zero, suc, ◌+◌, ◌*◌, ◌≤◌, ◌<◌}
use Prim.Native.String.{String}
use mathlib.Core.Bool.{Bool, true, false, cond}
use mathlib.Core.List.{List, [], ◌∷◌, ◌++◌, map, append_assoc}
use mathlib.Core.Path.{◌≡◌, refl, sym, ap, ap₂, ◌∙◌, subst}
use native.Mathlib.Nat.{add-zero, not-suc-le-zero}
use native.Mathlib.Omega.{arith}
use borrow.Author.Tests.{le-leb, ltb-true, ltb-false, eq-eqb, eqb-true}
use lib.Dec.{eqb, ltb}
use lib.ListN.{length, get_or, take, drop, length-append, length-drop, length-map, take-append-drop}
use lib.Seq.{drop_at, take_at, get_or-drop, get_or-take, length-take-le}
use Rattle.combinators.specs.Bools.{both_ways}
use Rattle.combinators.specs.Lists.{Nth, here, there, nth_inside, nth_get_d, nth_of_map}
use Rattle.syntax.specs.Table.{Table, bytes}
use Rattle.syntax.specs.Named.{Given, given_to, read_by}
use Rattle.operation_points.specs.Answer.{HeadRead, FirstPoint}
use Rattle.operation_points.specs.declared.Point.{Point}
use Rattle.operation_points.specs.Parts.{Part, Parses, nothing, lines_then, repeated_then, when_there, when_not}
use Rattle.operation_points.specs.Tables.{head_syntax, point_syntax, point_head, reference, flags_count, flags, profiles_count}
use Rattle.operation_points.specs.Points.{head_from, head_in, head_of, point_from, reference_from, flags_from}
use Rattle.operation_points.specs.Values.{FrameRate, no_frame_rate, constant, BitRate, PointValue, DescriptorValue, frame_rate_of, bit_rate_of, reference_in, flags_in, point_value, points_by, each_point, points_in, value_after, value_of}
use Rattle.operation_points.specs.Meaning.{BeginsWith, reads, Points, none, Descriptor}
use Rattle.operation_points.proofs.Parsed.{parses_walk}
use Rattle.operation_points.proofs.Meant.{first_only}
use Rattle.points_meaning.specs.Fields.{Repeats, HasFrameRate, no_indicator, indicator, HasBitRate, flag_not_1, flag_1, PointHas, PointsHave, no_more, ProfilesOf, PayloadHas}

-- ---- lists

pub same_nth : {A : Type 0} (l m : List A) → length l ≡ length m → ((k : ℕ) (x y : A) → Nth l k x → Nth m k y → x ≡ y) → l ≡ m
same_nth [] [] e f = refl
same_nth [] (y ∷ m) e f = absurd (omega arith)
same_nth (x ∷ l) [] e f = absurd (omega arith)
same_nth (x ∷ l) (y ∷ m) e f =
    ap₂ (λ z zs. z ∷ zs) (f 0 x y here here) (same_nth l m (omega arith) (λ k a b n o. f (suc k) a b (there n) (there o)))

get_d_front : (l rest : List ℕ) (k : ℕ) → k < length l → get_or (l ++ rest) k 0 ≡ get_or l k 0
get_d_front [] rest k h = absurd (not-suc-le-zero h)
get_d_front (x ∷ l) rest zero h = refl
get_d_front (x ∷ l) rest (suc k) h = get_d_front l rest k (omega arith)

-- ---- structures of one byte, one after another

module _ {A : Type 0} (t : Table) (from : Given → A) (one : bytes t ≡ 1) (read : ℕ → A) (same : (l : List ℕ) → from (read_by t l) ≡ read (get_or l 0 0)) where
  repeats_meant : (count at : ℕ) (l rest : List ℕ) → at + count ≤ length l → Repeats t from count at l (map read (take count (drop at (l ++ rest))))
  repeats_meant count at l rest h =
      record {
        many = length-map (take count (drop at (l ++ rest))) read ∙ long;
        each = λ k x n. found k x (nth_of_map read (take count (drop at (l ++ rest))) n);
      }
    where
      long : length (take count (drop at (l ++ rest))) ≡ count
      long = length-take-le count (drop at (l ++ rest)) (omega (arith, length-drop at (l ++ rest), length-append l rest))

      found : (k : ℕ) (x : A) → (b : ℕ) × Nth (take count (drop at (l ++ rest))) k b × (read b ≡ x) → x ≡ from (read_by t (drop (at + k * bytes t) l))
      found k x (b, n, e) =
          let small : k < count = omega (arith, nth_inside n, long) in
          let place : at + k * bytes t ≡ at + k = ap (λ (m : ℕ). at + k * m) one ∙ (let z : at + k * 1 ≡ at + k = omega arith in z) in
          let byte : get_or (drop (at + k * bytes t) l) 0 0 ≡ b =
          get_or-drop (at + k * bytes t) l 0 0
          ∙ ap (λ (m : ℕ). get_or l m 0) (add-zero (at + k * bytes t) ∙ place)
          ∙ sym (get_d_front l rest (at + k) (omega arith))
          ∙ sym (get_or-drop at (l ++ rest) k 0)
          ∙ sym (get_or-take count (drop at (l ++ rest)) k 0 small)
          ∙ nth_get_d 0 n in
          sym e ∙ ap read (sym byte) ∙ sym (same (drop (at + k * bytes t) l))

pub repeats_one : {A : Type 0} {t : Table} {from : Given → A} {count at : ℕ} {l : List ℕ} (x y : List A) → Repeats t from count at l x → Repeats t from count at l y → x ≡ y
repeats_one x y p q = same_nth x y (p.many ∙ sym q.many) (λ k a b n m. p.each k a n ∙ sym (q.each k b m))

-- ---- the rates

frame_meant : (given : Given) → HasFrameRate given (frame_rate_of (given_to "constant_frame_rate_info_idc" given) (given_to "frame_rate_indicator" given))
frame_meant given = go (ltb 0 (given_to "constant_frame_rate_info_idc" given)) refl
  where
    go : (b : Bool) → ltb 0 (given_to "constant_frame_rate_info_idc" given) ≡ b
        → HasFrameRate given (cond b (constant (given_to "constant_frame_rate_info_idc" given) (given_to "frame_rate_indicator" given)) no_frame_rate)
    go true f = indicator (ltb-true 0 (given_to "constant_frame_rate_info_idc" given) f)
    go false f = no_indicator (let h = ltb-false 0 (given_to "constant_frame_rate_info_idc" given) f in omega arith)

frame_one : (given : Given) {a b : FrameRate} → HasFrameRate given a → HasFrameRate given b → a ≡ b
frame_one given (no_indicator e) (no_indicator f) = refl
frame_one given (no_indicator e) (indicator h) = absurd (omega arith)
frame_one given (indicator h) (no_indicator e) = absurd (omega arith)
frame_one given (indicator h) (indicator k) = refl

bit_meant : (flag name : String) (given : Given) → HasBitRate flag name given (bit_rate_of (eqb (given_to flag given) 1) (given_to name given))
bit_meant flag name given = go (eqb (given_to flag given) 1) refl
  where
    go : (b : Bool) → eqb (given_to flag given) 1 ≡ b → HasBitRate flag name given (bit_rate_of b (given_to name given))
    go true e = flag_1 (eqb-true (given_to flag given) 1 e)
    go false e = flag_not_1 (λ p. both_ways (eq-eqb (given_to flag given) 1 p) e)

bit_one : (flag name : String) (given : Given) {a b : BitRate} → HasBitRate flag name given a → HasBitRate flag name given b → a ≡ b
bit_one flag name given (flag_not_1 e) (flag_not_1 f) = refl
bit_one flag name given (flag_not_1 e) (flag_1 f) = absurd (e f)
bit_one flag name given (flag_1 e) (flag_not_1 f) = absurd (f e)
bit_one flag name given (flag_1 e) (flag_1 f) = refl

-- ---- the parts of a point stand within it

grown : {parts : List Part} {given all : Given} {l : List ℕ} → Parses parts given l all → (more : Given) × (all ≡ given ++ more)
grown {given = given} nothing = ([], sym (mathlib.Core.List.append-nil given))
grown {given = given} (lines_then {t} l rest e p) = let w = grown p in (read_by t l ++ w.0, w.1 ∙ append_assoc given (read_by t l) w.0)
grown (repeated_then l rest e p) = grown p
grown {given = given} (when_there {t = t} l rest h e p) = let w = grown p in (read_by t l ++ w.0, w.1 ∙ append_assoc given (read_by t l) w.0)
grown (when_not h p) = grown p

record Room (given : Given) (point : List ℕ) : Type 0 where
  pub references : 2 + given_to "ES_count" given ≤ length point
  pub layers : 2 + (given_to "ES_count" given * 1 + 1) + given_to "numEsInOp" given ≤ length point

room : {given : Given} {point : List ℕ} → Parses point_syntax [] point given → Room given point
room {given} (lines_then h r₁ eh (repeated_then m r₂ em (lines_then c r₃ ec (repeated_then f r₄ ef p)))) =
    let w = grown p in
    let es : given_to "ES_count" given ≡ given_to "ES_count" (read_by point_head h) = ap (given_to "ES_count") w.1 in
    let num : given_to "numEsInOp" given ≡ given_to "numEsInOp" (read_by flags_count c) = ap (given_to "numEsInOp") w.1 in
    let long_m : length m ≡ given_to "ES_count" (read_by point_head h) * 1 = em in
    let long_f : length f ≡ given_to "numEsInOp" (read_by flags_count c) * 1 = ef in
    let long_h : length h ≡ 2 = eh in
    let long_c : length c ≡ 1 = ec in
    let total : length (h ++ (m ++ (c ++ (f ++ r₄)))) ≡ length h + (length m + (length c + (length f + length r₄))) = simp length-append in
    record { references = omega (arith, es, long_m, long_h, total); layers = omega (arith, es, num, long_m, long_f, long_h, long_c, total) }

-- ---- one point

abbrev point_of : Given → List ℕ → Point
point_of given point = point_from (record { end = length point; given = given })

pub value_meant : (given : Given) (point behind : List ℕ) → Parses point_syntax [] point given → PointHas given point (point_value (point_of given point) (point ++ behind))
value_meant given point behind p =
    let r = room p in
    record {
      target_ols = refl;
      references = repeats_meant reference reference_from refl reference_in (λ l. refl) (given_to "ES_count" given) 2 point behind r.references;
      layers = repeats_meant flags flags_from refl flags_in (λ l. refl) (given_to "numEsInOp" given) (2 + (given_to "ES_count" given * 1 + 1)) point behind r.layers;
      temporal_id = refl;
      frame_rate = frame_meant given;
      average = bit_meant "avg_bit_rate_info_flag" "avg_bit_rate" given;
      maximum = bit_meant "max_bit_rate_info_flag" "max_bit_rate" given;
    }

pub value_one : (given : Given) (point : List ℕ) {v w : PointValue} → PointHas given point v → PointHas given point w → v ≡ w
value_one given point {v} {w} p q =
    λ i. record {
      target_ols = (p.target_ols ∙ sym q.target_ols) i;
      references = repeats_one v.references w.references p.references q.references i;
      layers = repeats_one v.layers w.layers p.layers q.layers i;
      temporal_id = (p.temporal_id ∙ sym q.temporal_id) i;
      frame_rate = frame_one given p.frame_rate q.frame_rate i;
      average = bit_one "avg_bit_rate_info_flag" "avg_bit_rate" given p.average q.average i;
      maximum = bit_one "max_bit_rate_info_flag" "max_bit_rate" given p.maximum q.maximum i;
    }

-- in the bytes that begin with it
module _ {given : Given} (left point behind : List ℕ) (w : BeginsWith given point behind left) where
  there_meant : PointHas given point (point_value (point_of given point) left)
  there_meant = subst (λ (l : List ℕ). PointHas given point (point_value (point_of given point) l)) (sym w.split) (value_meant given point behind w.parses)

  first_then : (count : ℕ) → points_in (suc count) left ≡ point_value (point_of given point) left ∷ points_in count behind
  first_then count =
      ap (λ (a : FirstPoint). points_by a (λ x. point_value x left) (λ size. each_point point_value count (drop size left))) (sym (first_only left (reads point behind w)))
      ∙ ap (λ (l : List ℕ). point_value (point_of given point) left ∷ points_in count l)
      (ap (drop (length point)) w.split ∙ drop_at point behind (length point) refl)

-- ---- so many points

pub points_meant : {count : ℕ} {left : List ℕ} → Points count left → PointsHave count left (points_in count left)
points_meant none = no_more
points_meant {left = left} (Points.point_then {count} {given} point behind w rest) =
    subst (PointsHave (suc count) left) (sym (first_then left point behind w count))
    (PointsHave.point_then point behind w (there_meant left point behind w) (points_meant rest))

pub points_only : {count : ℕ} {left : List ℕ} {values : List PointValue} → PointsHave count left values → values ≡ points_in count left
points_only no_more = refl
points_only {left = left} (PointsHave.point_then {count} {given} point behind w h rest) =
    ap₂ (λ (v : PointValue) (vs : List PointValue). v ∷ vs) (value_one given point h (there_meant left point behind w)) (points_only rest)
    ∙ sym (first_then left point behind w count)

-- ---- a payload

module _ {given : Given} (payload head points : List ℕ) (split : payload ≡ head ++ points) (p : Parses head_syntax [] head given) where
  head_is : head_of payload ≡ Some (head_from (record { end = length head; given = given }))
  unfolding head_of
  head_is =
      ap (head_in payload) (parses_walk points payload split p)
      ∙ ap (λ (b : Bool). cond b (Some (head_from (record { end = length head; given = given }))) None)
      (le-leb (length head) (length payload) (omega (arith, ap length split, length-append head points)))

  value_is : value_of payload
      ≡ record { profiles = take (given_to "num_ptl" given * 12) (drop 1 payload); points = points_in (given_to "operation_points_count" given) points }
  value_is =
      ap (λ (a : HeadRead). value_after a payload) head_is
      ∙ ap (λ (l : List ℕ). record { profiles = take (given_to "num_ptl" given * 12) (drop 1 payload); points = points_in (given_to "operation_points_count" given) l })
      (ap (drop (length head)) split ∙ drop_at head points (length head) refl)

  profiles_room : 1 + given_to "num_ptl" given * 12 ≤ length payload
  profiles_room = go p refl
    where
      go : {l : List ℕ} → Parses head_syntax [] l given → head ≡ l → 1 + given_to "num_ptl" given * 12 ≤ length payload
      go (lines_then c r₁ ec (repeated_then m r₂ em (lines_then n r₃ en q))) e =
          let g = grown q in
          let many : given_to "num_ptl" given ≡ given_to "num_ptl" (read_by profiles_count c) = ap (given_to "num_ptl") g.1 in
          let long_c : length c ≡ 1 = ec in
          let long_m : length m ≡ given_to "num_ptl" (read_by profiles_count c) * 12 = em in
          let total : length (c ++ (m ++ (n ++ r₃))) ≡ length c + (length m + (length n + length r₃)) = simp length-append in
          omega (arith, many, long_c, long_m, total, ap length e, ap length split, length-append head points)

  profiles_meant : ProfilesOf given payload (take (given_to "num_ptl" given * 12) (drop 1 payload))
  profiles_meant =
      record {
        counted = take 1 payload;
        behind = drop (given_to "num_ptl" given * 12) (drop 1 payload);
        split = sym (ap (λ (l : List ℕ). take 1 payload ++ l) (take-append-drop (given_to "num_ptl" given * 12) (drop 1 payload)) ∙ take-append-drop 1 payload);
        one_byte = length-take-le 1 payload (omega (arith, profiles_room));
        many = length-take-le (given_to "num_ptl" given * 12) (drop 1 payload) (omega (arith, profiles_room, length-drop 1 payload));
      }

profiles_only : {given : Given} {payload profiles : List ℕ} → ProfilesOf given payload profiles → profiles ≡ take (given_to "num_ptl" given * 12) (drop 1 payload)
profiles_only {given} {payload} {profiles} p =
    sym (ap (take (given_to "num_ptl" given * 12)) (ap (drop 1) p.split ∙ drop_at p.counted (profiles ++ p.behind) 1 p.one_byte)
    ∙ take_at profiles p.behind (given_to "num_ptl" given * 12) p.many)

-- A PAYLOAD that its fields fill has the value that is computed,
pub payload_meant : (payload : List ℕ) → Descriptor Points payload → PayloadHas payload (value_of payload)
payload_meant payload d =
    subst (PayloadHas payload) (sym (value_is payload d.head d.points d.split d.parses))
    (record {
      filled = record { given = d.given; head = d.head; points = d.points; split = d.split; parses = d.parses; rest = points_meant d.rest };
      profiles_are = profiles_meant payload d.head d.points d.split d.parses;
    })

-- and no other.
pub payload_only : (payload : List ℕ) {value : DescriptorValue} → PayloadHas payload value → value ≡ value_of payload
payload_only payload h =
    let d = h.filled in
    ap₂ (λ (a : List ℕ) (b : List PointValue). record { profiles = a; points = b }) (profiles_only h.profiles_are) (points_only d.rest)
    ∙ sym (value_is payload d.head d.points d.split d.parses)
