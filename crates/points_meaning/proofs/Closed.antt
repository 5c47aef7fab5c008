-- THE THEOREM of a point whose list is closed under embedding, `closed_point`: of every point that is told.
-- Assumes nothing.
use Prim.Native.Nat.{ℕ}
use mathlib.Core.Bool.{true}
use mathlib.Core.List.{List}
use mathlib.Core.Logic.{◌↔◌}
use mathlib.Core.Path.{◌≡◌, sym, ◌∙◌, subst}
use Rattle.combinators.specs.Lists.{Nth, here, there}
use Rattle.sets.specs.Sets.{members_of}
use Rattle.closure.specs.declared.Layers.{Layers}
use Rattle.stream_lists.specs.Lists.{set_of}
use Rattle.stream_lists.specs.Meaning.{ClosuresJoined, Ordered}
use Rattle.stream_lists.proofs.Union.{closed_union}
use Rattle.operation_points.specs.Values.{PointValue, reference_bytes}
use Rattle.points_meaning.specs.Telling.{PointTold, ProgramTold, told}
use Rattle.points_meaning.specs.Meaning.{InOrder, nothing, next, NotInLoop, not_in_loop, Listed, tells, InLayers, Answers, loop_accepted}
use Rattle.points_meaning.specs.Closed.{ClosedGives}
use Rattle.points_meaning.proofs.Points.{list_ordered}
use Rattle.points_meaning.proofs.Meant.{layers_read}

-- one of a list, and the one that it goes with
at_place : {A B : Type 0} {R : A → B → Type 0} {xs : List A} {ys : List B} → InOrder R xs ys → {k : ℕ} {y : B} → Nth ys k y → (x : A) × Nth xs k x × R x y
at_place nothing n = elim n [ ]
at_place (next {x = x} r rest) here = (x, here, r)
at_place (next r rest) (there n) = let w = at_place rest n in (w.0, there w.1, w.2)

module _ (layers : Layers) {points : List PointValue} (clear : NotInLoop layers points → ⊥) where
  any_order : {k : ℕ} {value : PointValue} (point : PointTold) → Nth points k value → Listed layers value point
      → (other : List ℕ) → Ordered point.streams other → (point.closed ≡ true) ↔ ClosuresJoined layers point.streams other
  any_order {value = value} point n l other o =
      let u = closed_union layers (reference_bytes value) point.streams other (λ j reference m p. clear (not_in_loop n m p)) l.list o in
      (λ e. u.0 (l.closed.0 e), λ j. l.closed.1 (u.1 j))

  gives : {k : ℕ} {value : PointValue} (point : PointTold) → Nth points k value → Listed layers value point → ClosedGives layers point
  gives point n l =
      record {
        ordered = members_of (set_of point.streams);
        is_ordered = list_ordered layers l.list;
        union = any_order point n l (members_of (set_of point.streams)) (list_ordered layers l.list);
        any_order = any_order point n l;
      }

pub closed_point : {program bytes : List ℕ} {layers : Layers} {t : ProgramTold} → InLayers bytes layers → Answers program bytes (told t)
    → {k : ℕ} {point : PointTold} → Nth t.points k point → ClosedGives layers point
closed_point {layers = layers} l (loop_accepted {layers = read} m c (tells f g v x listed)) {point = point} n =
    let w = at_place listed n in
    subst (λ (y : Layers). ClosedGives y point) (layers_read m ∙ sym (layers_read l)) (gives read x point w.1 w.2)
