-- IN EVERY ACCEPTED ANSWER EACH CLOSURE ROW STANDS IN EXACTLY ONE UNIT, so that the sizes sum to the number of closure rows (`each_row`, and of what is computed
-- `each_row_computed`); and where every head is a row of the target, the units come in the order of the target's rows, each of the closure's size
-- (`in_target_order`).
-- Assumes nothing.
use Rattle.join_answers.specs.Answer.{joined_units}
use Prim.Native.Nat.{ℕ, suc, ◌<◌}
use mathlib.Core.List.{List, ◌∷◌}
use mathlib.Core.Path.{◌≡◌, refl, sym, ◌∙◌, ap, ap₂, subst}
use native.Mathlib.Omega.{arith}
use lib.IntN.{ℤ}
use lib.ListN.{length, get_or, replicate}
use Rattle.closure.specs.declared.Layers.{Layers}
use Rattle.closure.specs.Meaning.{RestsOn, WholeClosure}
use Rattle.closure.proofs.Meant.{closure_only}
use Rattle.combinators.specs.Ascending.{Ascending}
use Rattle.rows.specs.Table.{Table, layer_of}
use Rattle.rows.specs.Meaning.{NoRow, InOrder}
use Rattle.claims.specs.Meaning.{Head}
use Rattle.spans.specs.Meaning.{SpansTooFar}
use Rattle.heads.specs.Meaning.{SharesRow}
use Rattle.heads.proofs.Orderly.{closed, orderly_of}
use Rattle.unit_lists.specs.Meaning.{UnitsOf, no_unit, next_unit}
use Rattle.unit_lists.specs.Sequence.{unit_rows, unit_sizes, Lists}
use Rattle.every_row.specs.Statements.{EachOnce, total, TargetRow}
use Rattle.every_row.proofs.Sizes.{each_once, sizes_sum, target_size}
use Rattle.every_row.proofs.Order.{target_order}
use Rattle.join_answers.specs.Joining.{frame_of, joined_of, room_of}
use Rattle.join_answers.specs.Meaning.{Accepted}
use Rattle.join_answers.proofs.Framing.{framed}
use Rattle.join_answers.proofs.Contents.{content_only}
use Rattle.join_answers.proofs.Meant.{given_units}

-- units of heads of the target are of one size
sizes_same : (layers : Layers) (target : ℕ) (t : Table) (members : List ℕ) → Ascending (RestsOn layers target) members → {heads sizes rows : List ℕ} {lags : List ℤ}
    → UnitsOf layers t heads sizes rows lags → ((i : ℕ) → i < length heads → layer_of t (get_or heads i 0) ≡ target)
    → sizes ≡ replicate (length heads) (length members)
sizes_same layers target t members a no_unit own = refl
sizes_same layers target t members a (next_unit {head} {unit} {beside} u units) own =
    ap₂ (λ (size : ℕ) (sizes : List ℕ). size ∷ sizes) (target_size layers target t head unit members beside (own 0 (omega arith)) u a)
    (sizes_same layers target t members a units (λ i h. own (suc i) (omega arith)))

module _ (most : ℕ) (layers : Layers) (target closure : ℕ) (whole : WholeClosure layers target closure) (t : Table) (o : InOrder most layers target t)
    (apart : NoRow t (SharesRow layers target t)) (before : Lists) {units rows : ℕ} {after : Lists} (a : Accepted layers target t before units rows after) where
  pub each_row : EachOnce layers target t a.numbers × (total a.sizes ≡ rows)
  each_row = (
    each_once layers target closure whole t o.order apart a.heads a.sizes a.numbers a.lags a.in_order a.units_of_heads,
    sizes_sum layers target closure whole t o.order apart a.heads a.sizes a.numbers a.lags a.in_order a.units_of_heads a.closure_rows
        a.all_closure_rows
        ∙ sym a.number_of_rows,
  )

  pub in_target_order : (SpansTooFar layers target t → ⊥) → ((k : ℕ) → Head layers target t k → layer_of t k ≡ target)
      → (members : List ℕ) → Ascending (RestsOn layers target) members
      → Ascending (TargetRow target t) a.heads × (a.sizes ≡ replicate units (length members))
  in_target_order narrow every members m = (
    target_order layers target closure whole t o.order a.heads narrow every a.in_order,
    sizes_same layers target t members m a.units_of_heads (λ i h. every (get_or a.heads i 0) (a.in_order.each i h))
        ∙ ap (λ (n : ℕ). replicate n (length members)) (sym a.number_of_units),
  )

-- the same of what is computed
pub each_row_computed : (most : ℕ) (layers : Layers) (target : ℕ) (t : Table) (before : Lists) (closure units rows : ℕ)
    → joined_of most layers target t (room_of before) ≡ joined_units closure units rows
    → EachOnce layers target t (unit_rows t (frame_of layers closure t)) × (total (unit_sizes t (frame_of layers closure t)) ≡ rows)
each_row_computed most layers target t before closure units rows e =
    let w = (given_units most layers target t before closure units rows).0 e in
    let whole = closed layers target closure (sym (closure_only layers target w.1)) in
    let both = each_row most layers target closure whole.whole t w.2 w.3 before w.5 in
    let content = content_only layers target closure t (orderly_of layers target closure whole most t w.2) (frame_of layers closure t)
    (framed layers target closure t whole) before w.5 in
    (subst (EachOnce layers target t) content.1 both.0, sym (ap total content.0) ∙ both.1)
