-- What Points computes is what Meaning says, and nothing else is: `first_meant`, `first_only`, `filling_meant`, `filling_only`.
-- Assumes nothing.
use Rattle.std.specs.Prelude.{Err, None, Ok, Some}
use Prim.Native.Nat.{ℕ, zero, suc, ◌≤◌}
use mathlib.Core.Bool.{Bool, true, false, cond, ◌&&◌}
use mathlib.Core.List.{List, [], ◌∷◌, ◌++◌}
use mathlib.Core.Path.{◌≡◌, refl, sym, ap, ap₂, ◌∙◌, subst}
use native.Mathlib.Nat.{sub-zero}
use native.Mathlib.Omega.{arith}
use borrow.Author.Tests.{le-leb, leb-true, eq-eqb, ne_eqb, eqb-true}
use lib.Dec.{eqb, leb}
use lib.ListN.{length, take, drop, length-append, take-append-drop}
use lib.Seq.{length-take-le, drop_at}
use Rattle.combinators.specs.Bools.{both_left, both_right, both_ways, false_unless}
use Rattle.syntax.specs.Named.{Given, given_to, by_names, read_by}
use Rattle.syntax.proofs.Laws.{read_take, read_before}
use Rattle.operation_points.specs.Parts.{Walked, walked, Parses}
use Rattle.operation_points.specs.Tables.{head_syntax, point_syntax, point_head}
use Rattle.operation_points.specs.Points.{head_from, head_in, head_of, point_from, is_reserved, first_point, filling_by, points_filling, filling_after, filling_of}
use Rattle.operation_points.specs.Meaning.{BeginsReserved, BeginsWith, First, reads, reserves, fits_not, Points, none, Stops, here, Descriptor, Fills, exact, reserved, inexact}
use Rattle.operation_points.specs.Answer.{FirstPoint, Filling}
use Rattle.operation_points.specs.declared.PointFault.TheVariants.{DoesNotFit, ReservedCount}
use Rattle.operation_points.proofs.Parsed.{walk_parses, parses_walk}

-- ---- a reserved ES_count

reserved_meant : (left : List ℕ) → is_reserved left ≡ true → BeginsReserved left
reserved_meant left e =
    let long : 2 ≤ length left = leb-true 2 (length left) (both_left (leb 2 (length left)) (eqb (given_to "ES_count" (read_by point_head left)) 0xFF) e) in
    record {
      head = take 2 left;
      behind = drop 2 left;
      split = sym (take-append-drop 2 left);
      whole = length-take-le 2 left long;
      reserved = ap (λ (vs : List ℕ). given_to "ES_count" (by_names point_head vs)) (read_take point_head left)
          ∙ eqb-true (given_to "ES_count" (read_by point_head left)) 0xFF
          (both_right (leb 2 (length left)) (eqb (given_to "ES_count" (read_by point_head left)) 0xFF) e);
    }

reserved_only : (left : List ℕ) → BeginsReserved left → is_reserved left ≡ true
reserved_only left r =
    let long : 2 ≤ length left = omega (arith, ap length r.split, length-append r.head r.behind, r.whole) in
    let same : given_to "ES_count" (read_by point_head left) ≡ 0xFF =
    ap (λ (l : List ℕ). given_to "ES_count" (read_by point_head l)) r.split
    ∙ ap (λ (vs : List ℕ). given_to "ES_count" (by_names point_head vs)) (read_before point_head r.head r.behind (omega (arith, r.whole)))
    ∙ r.reserved in
    ap₂ (λ (a b : Bool). a && b) (le-leb 2 (length left) long) (eq-eqb (given_to "ES_count" (read_by point_head left)) 0xFF same)

-- ---- the first point

module _ (left : List ℕ) where
  -- a walk that ends within the bytes is a point that they begin with
  walk_begins : (walked point_syntax [] 0 left).end ≤ length left → (BeginsReserved left → ⊥)
      → BeginsWith (walked point_syntax [] 0 left).given (take (walked point_syntax [] 0 left).end left) (drop (walked point_syntax [] 0 left).end left) left
  walk_begins h allowed =
      record {
        split = sym (take-append-drop (walked point_syntax [] 0 left).end left);
        parses = subst (λ (n : ℕ). Parses point_syntax [] (take n left) (walked point_syntax [] 0 left).given) (sub-zero (walked point_syntax [] 0 left).end)
            (walk_parses left point_syntax [] 0 h);
        allowed = allowed;
      }

  -- and the other way round
  begins_walk : {given : Given} (point behind : List ℕ) → BeginsWith given point behind left
      → walked point_syntax [] 0 left ≡ record { end = length point; given = given }
  begins_walk point behind w = parses_walk behind left w.split w.parses

  begins_within : {given : Given} (point behind : List ℕ) → BeginsWith given point behind left → (walked point_syntax [] 0 left).end ≤ length left
  begins_within point behind w =
      subst (λ (x : Walked). x.end ≤ length left) (sym (begins_walk point behind w))
      (omega (arith, ap length w.split, length-append point behind))

  answer : (r f : Bool) → is_reserved left ≡ r → leb (walked point_syntax [] 0 left).end (length left) ≡ f
      → cond r (Err ReservedCount) (cond f (Ok (point_from (walked point_syntax [] 0 left))) (Err DoesNotFit)) ≡ first_point left
  unfolding first_point
  answer r f p q =
      sym (ap₂ (λ (x y : Bool). cond x (Err ReservedCount) (cond y (Ok (point_from (walked point_syntax [] 0 left))) (Err DoesNotFit))) p q)

  not_reserved : (BeginsReserved left → ⊥) → is_reserved left ≡ false
  not_reserved f = false_unless (is_reserved left) (λ e. f (reserved_meant left e))

  -- THE FIRST POINT: what is computed is right,
  pub first_meant : First left (first_point left)
  first_meant = go (is_reserved left) refl (leb (walked point_syntax [] 0 left).end (length left)) refl
    where
      go : (r : Bool) → is_reserved left ≡ r → (f : Bool) → leb (walked point_syntax [] 0 left).end (length left) ≡ f → First left (first_point left)
      go true p f q = subst (First left) (answer true f p q) (reserves (reserved_meant left p))
      go false p true q =
          let h = leb-true (walked point_syntax [] 0 left).end (length left) q in
          subst (First left)
          (ap (λ (n : ℕ). Ok (point_from (record { end = n; given = (walked point_syntax [] 0 left).given })))
          (length-take-le (walked point_syntax [] 0 left).end left h)
          ∙ answer false true p q)
          (reads (take (walked point_syntax [] 0 left).end left) (drop (walked point_syntax [] 0 left).end left)
          (walk_begins h (λ b. both_ways (reserved_only left b) p)))
      go false p false q =
          subst (First left) (answer false false p q)
          (fits_not (λ b. both_ways (reserved_only left b) p)
          (λ given point behind w. both_ways (le-leb (walked point_syntax [] 0 left).end (length left) (begins_within point behind w)) q))

  -- and nothing else is.
  pub first_only : {a : FirstPoint} → First left a → a ≡ first_point left
  first_only (reads {given} point behind w) =
      ap (λ (x : Walked). Ok (point_from x)) (sym (begins_walk point behind w))
      ∙ answer false true (not_reserved w.allowed) (le-leb (walked point_syntax [] 0 left).end (length left) (begins_within point behind w))
  first_only (reserves r) = answer true (leb (walked point_syntax [] 0 left).end (length left)) (reserved_only left r) refl
  first_only (fits_not f g) =
      answer false false (not_reserved f)
      (false_unless (leb (walked point_syntax [] 0 left).end (length left))
      (λ e. g (walked point_syntax [] 0 left).given (take (walked point_syntax [] 0 left).end left) (drop (walked point_syntax [] 0 left).end left)
      (walk_begins (leb-true (walked point_syntax [] 0 left).end (length left) e) f)))

-- ---- so many points

-- past a point
after_point : {given : Given} (count : ℕ) (left point behind : List ℕ) → BeginsWith given point behind left
    → points_filling (suc count) left ≡ points_filling count behind
after_point {given} count left point behind w =
    ap (λ (a : FirstPoint). filling_by a (λ size. points_filling count (drop size left))) (sym (first_only left (reads point behind w)))
    ∙ ap (points_filling count) (ap (drop (length point)) w.split ∙ drop_at point behind (length point) refl)

exact_only : {count : ℕ} {left : List ℕ} → Points count left → points_filling count left ≡ Ok tt
exact_only none = refl
exact_only {left = left} (Points.point_then {count} point behind w rest) = after_point count left point behind w ∙ exact_only rest

reserved_stops : {count : ℕ} {left : List ℕ} → Stops count left → points_filling count left ≡ Err ReservedCount
reserved_stops {left = left} (here {count} r) =
    ap (λ (a : FirstPoint). filling_by a (λ size. points_filling count (drop size left))) (sym (first_only left (reserves r)))
reserved_stops {left = left} (Stops.point_then {count} point behind w rest) = after_point count left point behind w ∙ reserved_stops rest

-- what a verdict says of the points
Says : ℕ → List ℕ → Filling → Type 0
Says count left (Ok _) = Points count left
Says count left (Err DoesNotFit) = Unit {0}
Says count left (Err ReservedCount) = Stops count left

says : (count : ℕ) (left : List ℕ) → Says count left (points_filling count left)
unfolding Says
says zero [] = none
says zero (x ∷ left) =
    subst (Says zero (x ∷ left)) (sym (ap (λ (b : Bool). cond b (Ok tt) (Err DoesNotFit)) (ne_eqb (suc (length left)) 0 (λ e. omega arith)))) tt
says (suc count) left = go (first_point left) (first_meant left) refl (says count)
  where
    later : {given : Given} (point behind : List ℕ) → BeginsWith given point behind left → (f : Filling) → Says count behind f → Says (suc count) left f
    later point behind w (Ok _) s = Points.point_then point behind w s
    later point behind w (Err DoesNotFit) s = tt
    later point behind w (Err ReservedCount) s = Stops.point_then point behind w s

    go : (a : FirstPoint) → First left a → first_point left ≡ a → ((l : List ℕ) → Says count l (points_filling count l))
        → Says (suc count) left (points_filling (suc count) left)
    go a (reads point behind w) e ih =
        subst (Says (suc count) left) (sym (after_point count left point behind w)) (later point behind w (points_filling count behind) (ih behind))
    go a (reserves r) e ih = subst (Says (suc count) left) (sym (reserved_stops (here {count = count} r))) (here r)
    go a (fits_not f g) e ih =
        subst (Says (suc count) left)
        (sym (ap (λ (x : FirstPoint). filling_by x (λ size. points_filling count (drop size left))) e)) tt

-- ---- the whole payload

module _ (payload : List ℕ) where
  -- past what stands before the points
  after_head : {given : Given} (head points : List ℕ) → payload ≡ head ++ points → Parses head_syntax [] head given
      → filling_of payload ≡ points_filling (given_to "operation_points_count" given) points
  unfolding head_of
  after_head {given} head points split p =
      let w = parses_walk points payload split p in
      ap (λ (x : Walked). filling_after (head_in payload x) payload) w
      ∙ ap (λ (b : Bool). filling_after (cond b (Some (head_from (record { end = length head; given = given }))) None) payload)
      (le-leb (length head) (length payload) (omega (arith, ap length split, length-append head points)))
      ∙ ap (points_filling (given_to "operation_points_count" given)) (ap (drop (length head)) split ∙ drop_at head points (length head) refl)

  exact_fills : Descriptor Points payload → filling_of payload ≡ Ok tt
  exact_fills d = after_head d.head d.points d.split d.parses ∙ exact_only d.rest

  reserved_fills : Descriptor Stops payload → filling_of payload ≡ Err ReservedCount
  reserved_fills d = after_head d.head d.points d.split d.parses ∙ reserved_stops d.rest

  Tells : Filling → Type 0
  Tells (Ok _) = Descriptor Points payload
  Tells (Err DoesNotFit) = Unit {0}
  Tells (Err ReservedCount) = Descriptor Stops payload

  -- the payload in two, where the walk over its head ends within it
  cut : (Rest : ℕ → List ℕ → Type 0) → (walked head_syntax [] 0 payload).end ≤ length payload
      → Rest (given_to "operation_points_count" (walked head_syntax [] 0 payload).given) (drop (walked head_syntax [] 0 payload).end payload)
      → Descriptor Rest payload
  cut Rest h s =
      record {
        given = (walked head_syntax [] 0 payload).given;
        head = take (walked head_syntax [] 0 payload).end payload;
        points = drop (walked head_syntax [] 0 payload).end payload;
        split = sym (take-append-drop (walked head_syntax [] 0 payload).end payload);
        parses = subst (λ (n : ℕ). Parses head_syntax [] (take n payload) (walked head_syntax [] 0 payload).given)
            (sub-zero (walked head_syntax [] 0 payload).end) (walk_parses payload head_syntax [] 0 h);
        rest = s;
      }

  tells : Tells (filling_of payload)
  unfolding head_of Tells Says
  tells = go (leb (walked head_syntax [] 0 payload).end (length payload)) refl
    where
      later : (walked head_syntax [] 0 payload).end ≤ length payload → (f : Filling)
          → Says (given_to "operation_points_count" (walked head_syntax [] 0 payload).given) (drop (walked head_syntax [] 0 payload).end payload) f → Tells f
      later h (Ok _) s = cut Points h s
      later h (Err DoesNotFit) s = tt
      later h (Err ReservedCount) s = cut Stops h s

      go : (b : Bool) → leb (walked head_syntax [] 0 payload).end (length payload) ≡ b → Tells (filling_of payload)
      go true q =
          subst Tells
          (sym (ap (λ (b : Bool). filling_after (cond b (Some (head_from (walked head_syntax [] 0 payload))) None) payload) q))
          (later (leb-true (walked head_syntax [] 0 payload).end (length payload) q)
          (points_filling (given_to "operation_points_count" (walked head_syntax [] 0 payload).given) (drop (walked head_syntax [] 0 payload).end payload))
          (says (given_to "operation_points_count" (walked head_syntax [] 0 payload).given) (drop (walked head_syntax [] 0 payload).end payload)))
      go false q =
          subst Tells
          (sym (ap (λ (b : Bool). filling_after (cond b (Some (head_from (walked head_syntax [] 0 payload))) None) payload) q)) tt

  -- THE VERDICT: what is computed is right,
  pub filling_meant : Fills payload (filling_of payload)
  unfolding Tells
  filling_meant = go (filling_of payload) refl tells
    where
      go : (f : Filling) → filling_of payload ≡ f → Tells f → Fills payload f
      go (Ok _) e t = exact t
      go (Err DoesNotFit) e t =
          inexact (λ d. (let z : ◌≡◌ {A = ℕ} 0 1 = cc (exact_fills d) in omega arith)) (λ d. (let z : ◌≡◌ {A = ℕ} 0 1 = cc (reserved_fills d) in omega arith))
      go (Err ReservedCount) e t = reserved t

  -- and nothing else is.
  pub filling_only : {f : Filling} → Fills payload f → f ≡ filling_of payload
  unfolding Tells
  filling_only (exact d) = sym (exact_fills d)
  filling_only (reserved d) = sym (reserved_fills d)
  filling_only (inexact p q) = go (filling_of payload) refl tells
    where
      go : (f : Filling) → filling_of payload ≡ f → Tells f → Err DoesNotFit ≡ filling_of payload
      go (Ok _) e t = absurd (p t)
      go (Err DoesNotFit) e t = sym e
      go (Err ReservedCount) e t = absurd (q t)
