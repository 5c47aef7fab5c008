-- ONE ANSWER: there is one list of all heads in the order of their units (`heads_one`), and its units have one list of sizes, of row numbers and of lags
-- (`units_one`).
-- Assumes nothing.
use Prim.Native.Nat.{ℕ, suc, ◌<◌}
use mathlib.Core.List.{List, [], ◌∷◌, ◌++◌, map}
use mathlib.Core.Path.{◌≡◌, refl, sym, ◌∙◌, ap, ap₂, subst}
use native.Mathlib.Omega.{arith}
use lib.IntN.{ℤ}
use lib.ListN.{length, get_or}
use Rattle.closure.specs.declared.Layers.{Layers}
use Rattle.closure.specs.Meaning.{RestsOn, WholeClosure}
use Rattle.combinators.specs.Ascending.{ascending_one}
use Rattle.rows.specs.Table.{Table, layer_of}
use Rattle.rows.specs.Meaning.{NoRow, BreaksOrder}
use Rattle.claims.specs.Meaning.{Head}
use Rattle.heads.specs.Meaning.{UnitOf, LagsBeside}
use Rattle.heads.proofs.Meant.{lags_one}
use Rattle.spans.specs.Meaning.{ClosureRow}
use Rattle.unit_lists.specs.Meaning.{HeadsInOrder, ComesBefore, UnitsOf, no_unit, next_unit}
use Rattle.unit_lists.proofs.Unique.{in_order_one}
use Rattle.every_row.specs.Statements.{TotalOrder}
use Rattle.every_row.proofs.Claims.{head_row, one_assembly}
use Rattle.every_row.proofs.Order.{total_order}

-- choices that agree on a list's numbers choose the same for it
chosen_alike : (f g : ℕ → ℕ) (l : List ℕ) → ((i : ℕ) → i < length l → f (get_or l i 0) ≡ g (get_or l i 0)) → map f l ≡ map g l
chosen_alike f g [] same = refl
chosen_alike f g (x ∷ xs) same =
    ap₂ (λ (y : ℕ) (ys : List ℕ). y ∷ ys) (same 0 (omega arith)) (chosen_alike f g xs (λ i h. same (suc i) (omega arith)))

module _ (layers : Layers) (target closure : ℕ) (whole : WholeClosure layers target closure) (t : Table) where
  -- ONE LIST OF HEADS
  pub heads_one : (heads other : List ℕ) → HeadsInOrder layers target t heads → HeadsInOrder layers target t other → heads ≡ other
  heads_one heads other a b =
      in_order_one (ComesBefore layers target t) order.never_itself (Head layers target t)
      (λ i j h l p q. order.never_itself i (order.through i j i h h p q)) heads other a b
    where
      order : TotalOrder layers target t
      order = total_order layers target closure whole t

  -- ---- one unit

  module _ (ordered : NoRow t (BreaksOrder layers target t)) where
    unit_one : (head : ℕ) → ClosureRow layers target t head → {unit other : List ℕ} {beside lags : List ℤ}
        → UnitOf layers (layer_of t head) t head unit beside → UnitOf layers (layer_of t head) t head other lags → (unit ≡ other) × (beside ≡ lags)
    unit_one head c {unit} {other} {beside} a b =
        (same_rows, lags_one t head (subst (λ (r : List ℕ). LagsBeside t head r beside) same_rows a.lags_beside) b.lags_beside)
      where
        same_rows : unit ≡ other
        same_rows =
            a.row_numbers
            ∙ chosen_alike a.choice b.choice a.members
            (λ i h. one_assembly layers target closure whole t ordered head c a.choice b.choice a.assembles b.assembles (get_or a.members i 0)
            (a.closure_layers.each i h))
            ∙ ap (map b.choice) (ascending_one (RestsOn layers (layer_of t head)) a.members b.members a.closure_layers b.closure_layers)
            ∙ sym b.row_numbers

    -- ONE LIST OF SIZES, OF ROW NUMBERS AND OF LAGS
    pub units_one : {heads sizes rows : List ℕ} {lags : List ℤ} {sizes₂ rows₂ : List ℕ} {lags₂ : List ℤ}
        → ((i : ℕ) → i < length heads → Head layers target t (get_or heads i 0))
        → UnitsOf layers t heads sizes rows lags → UnitsOf layers t heads sizes₂ rows₂ lags₂
        → (sizes ≡ sizes₂) × (rows ≡ rows₂) × (lags ≡ lags₂)
    units_one each no_unit no_unit = (refl, refl, refl)
    units_one each (next_unit {head} u units) (next_unit v others) =
        let one = unit_one head (head_row (each 0 (omega arith))) u v in
        let more = units_one (λ i h. each (suc i) (omega arith)) units others in (
          ap₂ (λ (l : List ℕ) (sizes : List ℕ). length l ∷ sizes) one.0 more.0,
          ap₂ (λ (l m : List ℕ). l ++ m) one.0 more.1,
          ap₂ (λ (l m : List ℤ). l ++ m) one.1 more.2,
        )
