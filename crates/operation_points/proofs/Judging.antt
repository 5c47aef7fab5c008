-- The ways of the code, each a case of the definitions.
-- Assumes nothing.
use Rattle.std.specs.Prelude.{Err, None, Ok, Some}
use Prim.Native.Nat.{ℕ, zero, suc, ◌+◌, ◌-◌, ◌*◌, ◌/◌, ◌%◌, ◌≤◌, ◌<◌}
use mathlib.Core.Bool.{Bool, true, false, cond, ◌&&◌}
use mathlib.Core.List.{List, [], ◌∷◌}
use mathlib.Core.Path.{◌≡◌, refl, sym, ap, ap₂, ◌∙◌, subst}
use native.Mathlib.Nat.{not-suc-le-zero}
use native.Mathlib.Omega.{arith}
use borrow.Author.Tests.{le-leb, lt-leb, leb-true, eq-eqb, ne_eqb}
use lib.Dec.{eqb, leb, ltb}
use lib.ListN.{length, get_or, drop, length-drop}
use lib.Seq.{drop-drop}
use Rattle.combinators.specs.Bools.{apart}
use Rattle.syntax.specs.Table.{AreBytes}
use Rattle.operation_points.specs.Parts.{Walked, walked}
use Rattle.operation_points.specs.Tables.{head_syntax, point_syntax}
use Rattle.operation_points.specs.Points.{head_from, head_in, head_of, is_reserved, point_from, point_in, first_point, filling_by, points_filling}
use Rattle.operation_points.specs.declared.Head.{Head}
use Rattle.operation_points.specs.declared.Point.{Point}
use Rattle.operation_points.specs.Answer.{FirstPoint}
use Rattle.operation_points.specs.declared.PointFault.{PointFault}
use Rattle.operation_points.specs.declared.PointFault.TheVariants.{DoesNotFit, ReservedCount}
use Rattle.operation_points.proofs.Bytes.{average_at, maximum_at, end_at, rates_at, twelve, twenty_four, point_given, point_by, walked_point, walked_head, es_count_at, point_from_lem}

module _ (l : List ℕ) (b : AreBytes l) where
  -- ---- before the points

  head_by : head_of l
      ≡ head_in l (record { end = 1 + get_or l 0 0 % 64 * 12 + 1; given = ("num_ptl", get_or l 0 0 % 64) ∷ ("operation_points_count", get_or l (1 + get_or l 0 0 % 64 * 12) 0) ∷ [] })
  unfolding head_of
  head_by = ap (head_in l) (walked_head l b)

  pub head_misfit : length l ≤ 1 + get_or l 0 0 % 64 * 12 → None ≡ head_of l
  head_misfit h = sym (head_by ∙ rw (lt-leb (1 + get_or l 0 0 % 64 * 12 + 1) (length l) (omega arith)))

  pub head_fits : 1 + get_or l 0 0 % 64 * 12 < length l
      → Some (record {
        num_ptl = get_or l 0 0 % 64;
        operation_points_count = get_or l (1 + get_or l 0 0 % 64 * 12) 0;
        points_at = 1 + get_or l 0 0 % 64 * 12 + 1;
      }) ≡ head_of l
  head_fits h = sym (head_by ∙ rw (le-leb (1 + get_or l 0 0 % 64 * 12 + 1) (length l) (omega arith)))

  -- ---- one point

  abbrev es_in : ℕ
  es_in = get_or l 1 0

  abbrev num_in : ℕ
  num_in = get_or l (2 + get_or l 1 0) 0 % 64

  abbrev at_in : ℕ
  at_in = rates_at (get_or l 1 0) (get_or l (2 + get_or l 1 0) 0 % 64)

  abbrev byte_in : ℕ
  byte_in = get_or l (rates_at (get_or l 1 0) (get_or l (2 + get_or l 1 0) 0 % 64)) 0

  abbrev walk_in : Walked
  walk_in =
      record {
        end = end_at at_in byte_in;
        given = point_given (get_or l 0 0) es_in num_in byte_in (ltb 0 (byte_in / 8 % 4)) (twelve l (at_in + 1)) (eqb (byte_in / 64 % 2) 1)
            (twenty_four l (average_at at_in byte_in)) (eqb (byte_in / 32 % 2) 1) (twenty_four l (maximum_at at_in byte_in));
      }

  point_by_lem : first_point l ≡ point_in l walk_in
  unfolding first_point
  point_by_lem = ap (point_in l) (walked_point l b)

  reserved_by : is_reserved l ≡ leb 2 (length l) && eqb (get_or l 1 0) 0xFF
  reserved_by = ap (λ (n : ℕ). leb 2 (length l) && eqb n 0xFF) (es_count_at l b)

  answer : (r f : Bool) → is_reserved l ≡ r → leb (end_at at_in byte_in) (length l) ≡ f
      → cond r (Err ReservedCount) (cond f (Ok (point_from walk_in)) (Err DoesNotFit)) ≡ first_point l
  answer r f p q = sym (point_by_lem ∙ ap₂ (λ (x y : Bool). cond x (Err ReservedCount) (cond y (Ok (point_from walk_in)) (Err DoesNotFit))) p q)

  pub first_short : length l < 2 → Err DoesNotFit ≡ first_point l
  first_short h =
      answer false false (reserved_by ∙ ap (λ (x : Bool). x && eqb (get_or l 1 0) 0xFF) (lt-leb 2 (length l) h))
      (lt-leb (end_at at_in byte_in) (length l) (omega arith))

  pub first_reserved : 2 ≤ length l → get_or l 1 0 ≡ 0xFF → Err ReservedCount ≡ first_point l
  first_reserved h e =
      answer true (leb (end_at at_in byte_in) (length l))
      (reserved_by ∙ ap₂ (λ (x y : Bool). x && y) (le-leb 2 (length l) h) (eq-eqb (get_or l 1 0) 0xFF e)) refl

  module _ (allowed : get_or l 1 0 ≡ 0xFF → ⊥) where
    not_reserved : is_reserved l ≡ false
    not_reserved = reserved_by ∙ ap (λ (y : Bool). leb 2 (length l) && y) (ne_eqb (get_or l 1 0) 0xFF allowed) ∙ never (leb 2 (length l))
      where
        never : (x : Bool) → x && false ≡ false
        never true = refl
        never false = refl

    pub first_misfit : length l < end_at at_in byte_in → Err DoesNotFit ≡ first_point l
    first_misfit h = answer false false not_reserved (lt-leb (end_at at_in byte_in) (length l) h)

    pub first_fits : end_at at_in byte_in ≤ length l
        → Ok (point_by (get_or l 0 0) es_in num_in byte_in (cond (ltb 0 (byte_in / 8 % 4)) (twelve l (at_in + 1)) 0)
        (cond (eqb (byte_in / 64 % 2) 1) (twenty_four l (average_at at_in byte_in)) 0) (cond (eqb (byte_in / 32 % 2) 1) (twenty_four l (maximum_at at_in byte_in)) 0)
        (end_at at_in byte_in)) ≡ first_point l
    first_fits h =
        ap Ok (sym (point_from_lem (get_or l 0 0) es_in num_in byte_in (twelve l (at_in + 1)) (twenty_four l (average_at at_in byte_in))
        (twenty_four l (maximum_at at_in byte_in)) (end_at at_in byte_in) (ltb 0 (byte_in / 8 % 4)) (eqb (byte_in / 64 % 2) 1) (eqb (byte_in / 32 % 2) 1)))
        ∙ answer false true not_reserved (le-leb (end_at at_in byte_in) (length l) h)

    -- as the code finds it, test by test
    pub misfit_count : length l ≤ 2 + get_or l 1 0 → Err DoesNotFit ≡ first_point l
    misfit_count h = first_misfit (omega arith)

    pub misfit_rates : length l ≤ 2 + get_or l 1 0 + 1 + get_or l (2 + get_or l 1 0) 0 % 64 → Err DoesNotFit ≡ first_point l
    misfit_rates h = first_misfit (omega arith)

    module _ (x y z : ℕ) (p : x ≡ cond (ltb 0 (byte_in / 8 % 4)) 2 0) (q : y ≡ cond (eqb (byte_in / 64 % 2) 1) 3 0)
        (r : z ≡ cond (eqb (byte_in / 32 % 2) 1) 3 0) where
      same_end : at_in + 1 + x + y + z ≡ end_at at_in byte_in
      same_end = rw (p, q, r)

      pub misfit_fields : length l < at_in + 1 + x + y + z → Err DoesNotFit ≡ first_point l
      misfit_fields h = first_misfit (subst (λ (n : ℕ). length l < n) same_end h)

      pub fits_fields : (frame average maximum : ℕ) → at_in + 1 + x + y + z ≤ length l
          → frame ≡ cond (ltb 0 (byte_in / 8 % 4)) (twelve l (at_in + 1)) 0
          → average ≡ cond (eqb (byte_in / 64 % 2) 1) (twenty_four l (at_in + 1 + x)) 0
          → maximum ≡ cond (eqb (byte_in / 32 % 2) 1) (twenty_four l (at_in + 1 + x + y)) 0
          → Ok (point_by (get_or l 0 0) es_in num_in byte_in frame average maximum (at_in + 1 + x + y + z)) ≡ first_point l
      fits_fields frame average maximum h e f g =
          let f' : average ≡ cond (eqb (byte_in / 64 % 2) 1) (twenty_four l (average_at at_in byte_in)) 0 =
          f ∙ ap (λ (n : ℕ). cond (eqb (byte_in / 64 % 2) 1) (twenty_four l (at_in + 1 + n)) 0) p in
          let g' : maximum ≡ cond (eqb (byte_in / 32 % 2) 1) (twenty_four l (maximum_at at_in byte_in)) 0 =
          g ∙ ap₂ (λ (m n : ℕ). cond (eqb (byte_in / 32 % 2) 1) (twenty_four l (at_in + 1 + m + n)) 0) p q in
          (λ i. Ok (point_by (get_or l 0 0) es_in num_in byte_in (e i) (f' i) (g' i) (same_end i)))
          ∙ first_fits (subst (λ (n : ℕ). n ≤ length l) same_end h)

-- ---- a field that may be there

pub room_there : (b : Bool) (at size n : ℕ) → b ≡ true → at + cond b size 0 ≤ n → at + size ≤ n
room_there true at size n e h = h
room_there false at size n e h = apart e

-- no bytes at all
pub head_empty : (l : List ℕ) → length l ≡ 0 → None ≡ head_of l
unfolding head_of
head_empty [] e = refl
head_empty (x ∷ l) e = absurd (omega arith)

-- a point that was read ends within the bytes
pub read_within : (l : List ℕ) (point : Point) → first_point l ≡ Ok point → point.size ≤ length l
unfolding first_point
read_within l point = go (is_reserved l) (walked point_syntax [] 0 l) (leb (walked point_syntax [] 0 l).end (length l)) refl
  where
    go : (r : Bool) (w : Walked) (f : Bool) → leb w.end (length l) ≡ f → cond r (Err ReservedCount) (cond f (Ok (point_from w)) (Err DoesNotFit)) ≡ Ok point
        → point.size ≤ length l
    go true w f p e = let z : ◌≡◌ {A = ℕ} 0 1 = cc in absurd (omega arith)
    go false w false p e = let z : ◌≡◌ {A = ℕ} 0 1 = cc in absurd (omega arith)
    go false w true p e =
        let same : point_from w ≡ point = cc in
        subst (λ (n : ℕ). n ≤ length l) (ap (λ (x : Point). x.size) same) (leb-true w.end (length l) p)

-- and so does what stands before the points
pub head_within : (l : List ℕ) (head : Head) → head_of l ≡ Some head → head.points_at ≤ length l
unfolding head_of
head_within l head = go (walked head_syntax [] 0 l) (leb (walked head_syntax [] 0 l).end (length l)) refl
  where
    go : (w : Walked) (f : Bool) → leb w.end (length l) ≡ f → cond f (Some (head_from w)) None ≡ Some head → head.points_at ≤ length l
    go w false p e = let z : ◌≡◌ {A = ℕ} 0 1 = cc in absurd (omega arith)
    go w true p e =
        let same : head_from w ≡ head = cc in
        subst (λ (n : ℕ). n ≤ length l) (ap (λ (x : Head). x.points_at) same) (leb-true w.end (length l) p)

-- the profiles fill what stands between the two counts
pub profiles_between : (l : List ℕ) → AreBytes l → (head : Head) → head_of l ≡ Some head → 1 + head.num_ptl * 12 + 1 ≡ head.points_at
profiles_between l b head e =
    go (leb (1 + get_or l 0 0 % 64 * 12 + 1) (length l)) (sym (head_by l b) ∙ e)
  where
    go : (f : Bool)
        → cond f (Some (record {
          num_ptl = get_or l 0 0 % 64;
          operation_points_count = get_or l (1 + get_or l 0 0 % 64 * 12) 0;
          points_at = 1 + get_or l 0 0 % 64 * 12 + 1;
        })) None ≡ Some head
        → 1 + head.num_ptl * 12 + 1 ≡ head.points_at
    go false p = let z : ◌≡◌ {A = ℕ} 0 1 = cc in absurd (omega arith)
    go true p =
        let same : ◌≡◌ {A = Head} (record {
          num_ptl = get_or l 0 0 % 64;
          operation_points_count = get_or l (1 + get_or l 0 0 % 64 * 12) 0;
          points_at = 1 + get_or l 0 0 % 64 * 12 + 1;
        }) head = cc in
        subst (λ (h : Head). 1 + h.num_ptl * 12 + 1 ≡ h.points_at) same refl

-- The two lists of a point that was read stand within it: the references behind its head, and the flags behind their count.
pub record ListsWithin (point : Point) : Type 0 where
  pub references : 2 + point.es_count < point.flags_at
  pub layer_flags : point.flags_at + point.num_es_in_op < point.size

pub lists_within : (l : List ℕ) → AreBytes l → (point : Point) → first_point l ≡ Ok point → ListsWithin point
lists_within l b point e = go (is_reserved l) (leb (end_at (at_in l b) (byte_in l b)) (length l)) (sym (point_by_lem l b) ∙ e)
  where
    go : (r f : Bool) → cond r (Err ReservedCount) (cond f (Ok (point_from (walk_in l b))) (Err DoesNotFit)) ≡ Ok point → ListsWithin point
    go true f p = let z : ◌≡◌ {A = ℕ} 0 1 = cc in absurd (omega arith)
    go false false p = let z : ◌≡◌ {A = ℕ} 0 1 = cc in absurd (omega arith)
    go false true p =
        let same : point_from (walk_in l b) ≡ point = cc in
        subst ListsWithin same (record { references = omega arith; layer_flags = omega arith })

-- ---- the loop over the points

module _ (payload : List ℕ) (count first : ℕ) where
  pub record Passing (left at : ℕ) : Type 0 where
    pub within : at ≤ length payload
    pub same : points_filling left (drop at payload) ≡ points_filling count (drop first payload)

  pub passing_start : first ≤ length payload → Passing count first
  passing_start h = record { within = h; same = refl }

  module _ (left at : ℕ) (known : Passing left at) where
    pub passing_end : left ≤ 0 → at ≡ length payload → Ok tt ≡ points_filling count (drop first payload)
    passing_end h e = go left h known.same
      where
        empty : length (drop at payload) ≡ 0
        empty = length-drop at payload ∙ (let z : length payload - at ≡ 0 = omega arith in z)

        go : (n : ℕ) → n ≤ 0 → points_filling n (drop at payload) ≡ points_filling count (drop first payload)
            → Ok tt ≡ points_filling count (drop first payload)
        go zero h s = sym (ap (λ (x : Bool). cond x (Ok tt) (Err DoesNotFit)) (eq-eqb (length (drop at payload)) 0 empty)) ∙ s
        go (suc n) h s = absurd (not-suc-le-zero h)

    pub passing_more : left ≤ 0 → (at ≡ length payload → ⊥) → Err DoesNotFit ≡ points_filling count (drop first payload)
    passing_more h e = go left h known.same
      where
        some : length (drop at payload) ≡ 0 → ⊥
        some z = e (omega (arith, known.within, sym (length-drop at payload) ∙ z))

        go : (n : ℕ) → n ≤ 0 → points_filling n (drop at payload) ≡ points_filling count (drop first payload)
            → Err DoesNotFit ≡ points_filling count (drop first payload)
        go zero h s = sym (ap (λ (x : Bool). cond x (Ok tt) (Err DoesNotFit)) (ne_eqb (length (drop at payload)) 0 some)) ∙ s
        go (suc n) h s = absurd (not-suc-le-zero h)

    module _ (some : 0 < left) where
      one_less : points_filling left (drop at payload)
          ≡ filling_by (first_point (drop at payload)) (λ size. points_filling (left - 1) (drop size (drop at payload)))
      one_less = go left (left - 1) (omega arith)
        where
          go : (n m : ℕ) → n ≡ suc m
              → points_filling n (drop at payload) ≡ filling_by (first_point (drop at payload)) (λ size. points_filling m (drop size (drop at payload)))
          go n m e = ap (λ (k : ℕ). points_filling k (drop at payload)) e

      by_answer : (a : FirstPoint) → a ≡ first_point (drop at payload)
          → filling_by a (λ size. points_filling (left - 1) (drop size (drop at payload))) ≡ points_filling count (drop first payload)
      by_answer a e =
          ap (λ (x : FirstPoint). filling_by x (λ size. points_filling (left - 1) (drop size (drop at payload)))) e ∙ sym one_less ∙ known.same

      pub passing_fault : (fault : PointFault) → Err fault ≡ first_point (drop at payload) → Err fault ≡ points_filling count (drop first payload)
      passing_fault fault e = by_answer (Err fault) e

      pub passing_fits : (point : Point) → Ok point ≡ first_point (drop at payload) → at + point.size ≤ length payload
      passing_fits point e =
          omega (arith, known.within, read_within (drop at payload) point (sym e), length-drop at payload)

      pub passing_on : (point : Point) → Ok point ≡ first_point (drop at payload) → Passing (left - 1) (at + point.size)
      passing_on point e =
          record {
            within = passing_fits point e;
            same = ap (points_filling (left - 1)) (sym (drop-drop point.size at payload)) ∙ by_answer (Ok point) e;
          }
