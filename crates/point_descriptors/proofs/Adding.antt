-- Places put into an array, one after another: of a descriptor that is an operation point descriptor or not, and of the points of a payload.
-- Assumes nothing.
use Rattle.std.specs.Prelude.{Err, Ok}
use Prim.Native.Nat.{ℕ, zero, suc, ◌+◌, ◌-◌, ◌*◌, ◌≤◌, ◌<◌}
use mathlib.Core.Bool.{Bool, true, false, cond, ◌&&◌}
use mathlib.Core.List.{List, [], ◌∷◌, ◌++◌, append_assoc, append-nil}
use mathlib.Core.Path.{◌≡◌, refl, sym, ap, ap₂, ◌∙◌, subst}
use native.Mathlib.Nat.{add_assoc, not-suc-le-zero}
use native.Mathlib.Omega.{arith}
use borrow.Author.Tests.{lt-ltb, le-ltb, ltb-true, eq-eqb, ne_eqb}
use lib.Dec.{eqb, ltb}
use lib.ListN.{length, get_or, set, drop, length-append, length-drop}
use lib.Seq.{sets, drop-drop}
use Rattle.combinators.specs.Bools.{both_left, both_right}
use Rattle.syntax.specs.Table.{AreBytes}
use Rattle.buffers.proofs.Laws.{sets_append}
use Rattle.operation_points.specs.declared.Point.{Point}
use Rattle.operation_points.specs.Answer.{FirstPoint}
use Rattle.operation_points.specs.declared.PointFault.{PointFault}
use Rattle.operation_points.specs.Points.{first_point}
use Rattle.operation_points.proofs.Judging.{read_within, lists_within}
use Rattle.point_descriptors.specs.Held.{Held}
use Rattle.point_descriptors.specs.Descriptors.{is_points, payload_place, places_by, point_places}

-- ---- whether a descriptor is an operation point descriptor

pub other_tag : (tag : ℕ) (body : List ℕ) → (tag ≡ 63 → ⊥) → false ≡ is_points tag body
other_tag tag body n = sym (ap (λ (b : Bool). b && (ltb 0 (length body) && eqb (get_or body 0 0) 5)) (ne_eqb tag 63 n))

pub no_body : (tag : ℕ) (body : List ℕ) → length body ≡ 0 → false ≡ is_points tag body
no_body tag body e = sym (ap (λ (b : Bool). eqb tag 63 && (b && eqb (get_or body 0 0) 5)) (le-ltb 0 (length body) (omega arith)) ∙ never (eqb tag 63))
  where
    never : (b : Bool) → b && false ≡ false
    never true = refl
    never false = refl

pub by_extension : (tag : ℕ) (body : List ℕ) → tag ≡ 63 → (length body ≡ 0 → ⊥) → eqb (get_or body 0 0) 5 ≡ is_points tag body
by_extension tag body t n =
    sym (ap₂ (λ (a b : Bool). a && (b && eqb (get_or body 0 0) 5)) (eq-eqb tag 63 t) (lt-ltb 0 (length body) (omega arith)))

-- one that is has its extension tag
pub has_body : (tag : ℕ) (body : List ℕ) → is_points tag body ≡ true → 0 < length body
has_body tag body e =
    ltb-true 0 (length body)
    (both_left (ltb 0 (length body)) (eqb (get_or body 0 0) 5) (both_right (eqb tag 63) (ltb 0 (length body) && eqb (get_or body 0 0) 5) e))

-- ---- the loop over the points of a payload

-- a point takes four bytes at least, and stands within the bytes
pub point_long : (l : List ℕ) → AreBytes l → (point : Point) → first_point l ≡ Ok point → 4 ≤ point.size
point_long l b point e =
    let w = lists_within l b point e in
    omega (arith, w.references, w.layer_flags)

module _ (entry : List ℕ) (count base : ℕ) (payload : List ℕ) (first points : ℕ) where
  pub record Adding (places : List ℕ) (at filled left : ℕ) : Type 0 where
    pub done : List ℕ
    pub within : at ≤ length payload
    pub all : done ++ point_places left (base + at) (drop at payload) ≡ point_places points (base + first) (drop first payload)
    pub held : Held entry count done filled places
    pub room : 3 * filled ≤ base + at

  pub adding_start : first ≤ length payload → 3 * count ≤ base + first → Adding entry first count points
  adding_start h r = record { done = []; within = h; all = refl; held = record { many = omega arith; stored = refl }; room = r }

  module _ (places : List ℕ) (at filled left : ℕ) (known : Adding places at filled left) where
    -- nothing more: what was put is all
    finished : point_places left (base + at) (drop at payload) ≡ [] → Held entry count (point_places points (base + first) (drop first payload)) filled places
    finished e =
        subst (λ (l : List ℕ). Held entry count l filled places)
        (sym (append-nil known.done) ∙ ap (λ (l : List ℕ). known.done ++ l) (sym e) ∙ known.all) known.held

    pub adding_end : left ≤ 0 → Held entry count (point_places points (base + first) (drop first payload)) filled places
    adding_end h = finished (go left h)
      where
        go : (n : ℕ) → n ≤ 0 → point_places n (base + at) (drop at payload) ≡ []
        go zero h = refl
        go (suc n) h = absurd (not-suc-le-zero h)

    module _ (some : 0 < left) where
      one_less : point_places left (base + at) (drop at payload)
          ≡ places_by (first_point (drop at payload)) (base + at) (λ size. point_places (left - 1) (base + at + size) (drop size (drop at payload)))
      one_less = go left (left - 1) (omega arith)
        where
          go : (n m : ℕ) → n ≡ suc m → point_places n (base + at) (drop at payload)
              ≡ places_by (first_point (drop at payload)) (base + at) (λ size. point_places m (base + at + size) (drop size (drop at payload)))
          go n m e = ap (λ (k : ℕ). point_places k (base + at) (drop at payload)) e

      by_answer : (a : FirstPoint) → a ≡ first_point (drop at payload) → point_places left (base + at) (drop at payload)
          ≡ places_by a (base + at) (λ size. point_places (left - 1) (base + at + size) (drop size (drop at payload)))
      by_answer a e =
          one_less ∙ ap (λ (x : FirstPoint). places_by x (base + at) (λ size. point_places (left - 1) (base + at + size) (drop size (drop at payload)))) (sym e)

      pub adding_fault : (fault : PointFault) → Err fault ≡ first_point (drop at payload)
          → Held entry count (point_places points (base + first) (drop first payload)) filled places
      adding_fault fault e = finished (by_answer (Err fault) e)

      module _ (b : AreBytes payload) (point : Point) (e : Ok point ≡ first_point (drop at payload)) where
        bytes_left : AreBytes (drop at payload)
        bytes_left i = subst (λ (n : ℕ). n < 256) (sym (lib.Seq.get_or-drop at payload i 0)) (b (at + i))

        pub point_takes : 4 ≤ point.size
        point_takes = point_long (drop at payload) bytes_left point (sym e)

        pub adding_within : at + point.size ≤ length payload
        adding_within = omega (arith, known.within, read_within (drop at payload) point (sym e), length-drop at payload)

        pub adding_room : base + length payload ≤ 1008 → filled < 336
        adding_room h = omega (arith, known.room, adding_within, point_takes)

        pub adding_on : Adding (set places filled (base + at)) (at + point.size) (filled + 1) (left - 1)
        adding_on =
            record {
              done = known.done ++ ((base + at) ∷ []);
              within = adding_within;
              all = append_assoc known.done ((base + at) ∷ []) (point_places (left - 1) (base + (at + point.size)) (drop (at + point.size) payload))
                  ∙ ap₂ (λ (n : ℕ) (l : List ℕ). known.done ++ ((base + at) ∷ point_places (left - 1) n l)) (sym (add_assoc base at point.size))
                  (sym (drop-drop point.size at payload))
                  ∙ ap (λ (l : List ℕ). known.done ++ l) (sym (by_answer (Ok point) e))
                  ∙ known.all;
              held =
                  record {
                    many = omega (arith, known.held.many, length-append known.done ((base + at) ∷ []));
                    stored = ap₂ (λ (l : List ℕ) (n : ℕ). set l n (base + at)) known.held.stored known.held.many
                        ∙ sets_append entry count known.done ((base + at) ∷ []);
                  };
              room = omega (arith, known.room, point_takes);
            }

-- ---- the place of a payload

module _ (entry : List ℕ) (count at tag : ℕ) (body : List ℕ) where
  pub put_one : is_points tag body ≡ true → Held entry count (payload_place at tag body) (count + 1) (set entry count (at + 3))
  put_one e =
      subst (λ (b : Bool). Held entry count (cond b ((at + 3) ∷ []) []) (count + 1) (set entry count (at + 3))) (sym e)
      (record { many = refl; stored = refl })

  pub put_none : is_points tag body ≡ false → Held entry count (payload_place at tag body) count entry
  put_none e =
      subst (λ (b : Bool). Held entry count (cond b ((at + 3) ∷ []) []) count entry) (sym e) (record { many = omega arith; stored = refl })
