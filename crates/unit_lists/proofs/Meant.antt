-- The heads as they are computed are all heads in the order of their units (`heads_in_order_lem`), and no other list is (`heads_only`); and the units of heads, their
-- sizes, rows and lags one after another, are those that `UnitsOf` asks for (`units_meant`), and no others are (`units_only`).
-- Assumes nothing.
use Prim.Native.Nat.{ℕ, zero, suc, ◌<◌}
use mathlib.Core.Bool.{Bool, true, ◌&&◌}
use mathlib.Core.List.{List, [], ◌∷◌, ◌++◌, map}
use mathlib.Core.Path.{◌≡◌, refl, sym, ◌∙◌, ap₂, subst}
use native.Mathlib.Omega.{arith}
use borrow.Author.Tests.{eq-eqb}
use lib.Dec.{eqb}
use lib.IntN.{ℤ}
use lib.ListN.{length, get_or}
use Rattle.closure.specs.declared.Layers.{Layers}
use Rattle.combinators.specs.Lists.{gather}
use Rattle.combinators.specs.Members.{member, member_at, member_which}
use Rattle.combinators.specs.Those.{those, those_which}
use Rattle.ordering.specs.Meaning.{ByKey, lower_key, given_before}
use Rattle.ordering.proofs.Meant.{ordered_meant}
use Rattle.ordering.proofs.Stored.{member_ordered}
use Rattle.unit_order.proofs.Each.{each_at, two_at}
use Rattle.rows.specs.Table.{Table, rows_in, layer_of}
use Rattle.claims.specs.Meaning.{Head}
use Rattle.spans.specs.Spans.{key_at}
use Rattle.spans.specs.Meaning.{ClosureRow}
use Rattle.heads.specs.Units.{Frame, is_head, assembly_of, unit_of, lags_of}
use Rattle.heads.specs.Meaning.{AssemblesOwn}
use Rattle.heads.specs.Orderly.{Orderly, Framed}
use Rattle.heads.proofs.Gathers.{gathered_in}
use Rattle.heads.proofs.Meant.{head_meant, head_only, unit_meant, unit_only}
use Rattle.unit_lists.specs.Sequence.{heads_of_layer, heads_by_layer, heads_in_order}
use Rattle.unit_lists.specs.Meaning.{ComesBefore, HeadsInOrder, UnitsOf, no_unit, next_unit}
use Rattle.unit_lists.proofs.ByLayer.{LayerThenRow, lower_layer, lower_row, by_layer, each_head_in_order}
use Rattle.unit_lists.proofs.Order as order
use Rattle.unit_lists.proofs.Order.{KeyBefore, key_before, never_itself, never_both}
use Rattle.unit_lists.proofs.Unique.{in_order_one}

-- ---- by their keys, and where these are the same as they were given: by lower layer, then by row

by_key : (t : Table) (closure j k : ℕ) → ByKey (key_at t closure) (LayerThenRow t) j k → KeyBefore t closure j k
by_key t closure j k (lower_key h) = order.KeyBefore.lower_key h
by_key t closure j k (given_before e (lower_layer h)) = order.KeyBefore.same_key e h
by_key t closure j k (given_before e (lower_row l h)) = order.KeyBefore.same_layer e l h

-- among the units of some heads is an assembly of each
pub assembly_of_lem : {layers : Layers} {t : Table} {heads sizes rows : List ℕ} {lags : List ℤ} → UnitsOf layers t heads sizes rows lags
    → (i : ℕ) → i < length heads → (choice : ℕ → ℕ) × AssemblesOwn layers t (get_or heads i 0) choice
assembly_of_lem no_unit i h = absurd (omega arith)
assembly_of_lem (next_unit u us) zero h = (u.choice, u.assembles)
assembly_of_lem (next_unit u us) (suc i) h = assembly_of_lem us i (omega arith)

module _ (layers : Layers) (target closure : ℕ) (t : Table) (orderly : Orderly layers target closure t) (f : Frame) (framed : Framed layers closure t f) where
  -- ---- every head is among the heads by layer

  by_layer_only : (k : ℕ) → Head layers target t k → member k (heads_by_layer t f) ≡ true
  unfolding heads_by_layer
  by_layer_only k head =
      let place = those_which (λ _. true) 64 (layer_of t k) (orderly.within k head.inside) refl in
      let at = those_which (λ j. is_head t f j && eqb (layer_of t j) (layer_of t k)) (rows_in t) k head.inside
      (ap₂ (λ (a b : Bool). a && b) (head_only layers target closure t orderly f framed k head) (eq-eqb (layer_of t k) (layer_of t k) refl)) in
      gathered_in (heads_of_layer t f) k (those (λ _. true) 64) place.0 place.1
      (subst (λ (layer : ℕ). member k (heads_of_layer t f layer) ≡ true) (sym place.2)
      (subst (λ (j : ℕ). member j (heads_of_layer t f (layer_of t k)) ≡ true) at.2 (member_at (heads_of_layer t f (layer_of t k)) at.0 at.1)))

  -- ---- THE HEADS IN ORDER

  abbrev key : ℕ → ℕ
  key = key_at t f.closure

  closure_row : (k : ℕ) → Head layers target t k → ClosureRow layers target t k
  closure_row k head = record { inside = head.inside; in_closure = head.closure_row }

  pub heads_in_order_lem : HeadsInOrder layers target t (heads_in_order t f)
  heads_in_order_lem =
      record {
        each = each;
        all = λ k head. member_which k (heads_in_order t f) (member_ordered key k (heads_by_layer t f) ∙ by_layer_only k head);
        in_order = λ i j h l.
            key_before layers target closure orderly.closed_over.whole t (get_or (heads_in_order t f) i 0) (get_or (heads_in_order t f) j 0)
            (closure_row (get_or (heads_in_order t f) i 0) (each i (omega arith))) (closure_row (get_or (heads_in_order t f) j 0) (each j l))
            (by_key t closure (get_or (heads_in_order t f) i 0) (get_or (heads_in_order t f) j 0)
            (subst (λ (c : ℕ). ByKey (key_at t c) (LayerThenRow t) (get_or (heads_in_order t f) i 0) (get_or (heads_in_order t f) j 0)) framed.over_closure
            (two_at (ordered_meant key (LayerThenRow t) (heads_by_layer t f) (by_layer t f)) i j h l)));
      }
    where
      each : (i : ℕ) → i < length (heads_in_order t f) → Head layers target t (get_or (heads_in_order t f) i 0)
      each i h =
          let w = each_at (each_head_in_order t f) i h in
          head_meant layers target closure t orderly f framed (get_or (heads_in_order t f) i 0) w.row w.is_head

  pub heads_only : (heads : List ℕ) → HeadsInOrder layers target t heads → heads ≡ heads_in_order t f
  heads_only heads o =
      in_order_one (ComesBefore layers target t) (never_itself layers target closure orderly.closed_over.whole t) (Head layers target t)
      (λ i j h l b c. never_both layers target closure orderly.closed_over.whole t i j b c) heads (heads_in_order t f) o heads_in_order_lem

  -- ---- THE UNITS of some heads, one after another: what is computed is right, and nothing else is

  pub units_meant : ((k : ℕ) → Head layers target t k → (assembly_of t f k).complete ≡ true) → (heads : List ℕ)
      → ((i : ℕ) → i < length heads → Head layers target t (get_or heads i 0))
      → UnitsOf layers t heads (map (λ head. length (unit_of t f head)) heads) (gather (unit_of t f) heads) (gather (lags_of t f) heads)
  units_meant complete [] each = no_unit
  units_meant complete (head ∷ heads) each =
      next_unit (unit_meant layers target closure t orderly f framed head (each 0 (omega arith)) (complete head (each 0 (omega arith))))
      (units_meant complete heads (λ i h. each (suc i) (omega arith)))

  pub units_only : {heads sizes rows : List ℕ} {lags : List ℤ} → ((i : ℕ) → i < length heads → Head layers target t (get_or heads i 0))
      → UnitsOf layers t heads sizes rows lags
      → (sizes ≡ map (λ head. length (unit_of t f head)) heads) × (rows ≡ gather (unit_of t f) heads) × (lags ≡ gather (lags_of t f) heads)
  units_only each no_unit = (refl, refl, refl)
  units_only each (next_unit {head = head} u us) =
      let one = unit_only layers target closure t orderly f framed head (each 0 (omega arith)) u in
      let more = units_only (λ i h. each (suc i) (omega arith)) us in (
        ap₂ (λ (unit sizes : List ℕ). length unit ∷ sizes) one.0 more.0,
        ap₂ (λ (a b : List ℕ). a ++ b) one.0 more.1,
        ap₂ (λ (a b : List ℤ). a ++ b) one.1 more.2,
      )
