-- W-204, beside the three demands: in every accepted answer each row of the closure stands in exactly one unit, so that the sizes sum to how many such rows there are; the units stand in
-- a total order; and where every unclaimed row is a row of the target, they come in the order of the target's rows, each of the closure's size, as they did before W-204.
-- Assumes nothing.
use Rattle.join_answers.specs.Answer.{joined_units}
use Rattle.std.specs.Prelude.{ℕ, List, ◌≡◌, length, replicate}
use Rattle.combinators.specs.Ascending.{Ascending}
use Rattle.closure.specs.declared.Layers.{Layers}
use Rattle.closure.specs.Meaning.{RestsOn, WholeClosure}
use Rattle.rows.specs.Table.{Table, layer_of}
use Rattle.rows.specs.Meaning.{NoRow, InOrder, BreaksOrder}
use Rattle.claims.specs.Meaning.{Head}
use Rattle.spans.specs.Meaning.{SpansTooFar}
use Rattle.heads.specs.Meaning.{SharesRow}
use Rattle.unit_lists.specs.Sequence.{Lists, unit_rows, unit_sizes}
use Rattle.every_row.specs.Statements.{EachOnce, total, TotalOrder, TargetRow}
use Rattle.every_row.proofs.Order as order
use Rattle.join_answers.specs.Joining.{frame_of, joined_of, room_of}
use Rattle.join_answers.specs.Meaning.{Accepted}
use Rattle.join_answers.proofs.EveryRow as shown

pub record EveryRow : Type 0 where
  -- of an accepted answer, as it is meant
  pub in_one_unit : (most : ℕ) (layers : Layers) (target closure : ℕ) → WholeClosure layers target closure → (t : Table) → InOrder most layers target t
      → NoRow t (SharesRow layers target t) → (before : Lists) {units rows : ℕ} {after : Lists} (a : Accepted layers target t before units rows after)
      → EachOnce layers target t a.numbers × (total a.sizes ≡ rows)
  -- and as it is computed
  pub in_one_unit_computed : (most : ℕ) (layers : Layers) (target : ℕ) (t : Table) (before : Lists) (closure units rows : ℕ)
      → joined_of most layers target t (room_of before) ≡ joined_units closure units rows
      → EachOnce layers target t (unit_rows t (frame_of layers closure t)) × (total (unit_sizes t (frame_of layers closure t)) ≡ rows)
  -- 'The order is a total one'
  pub total_order : (layers : Layers) (target closure : ℕ) → WholeClosure layers target closure → (t : Table) → TotalOrder layers target t
  -- 'Where every unclaimed row is a target row, the units come in target row order'
  pub in_target_order : (most : ℕ) (layers : Layers) (target closure : ℕ) → WholeClosure layers target closure → (t : Table) → InOrder most layers target t
      → NoRow t (SharesRow layers target t) → (before : Lists) {units rows : ℕ} {after : Lists} (a : Accepted layers target t before units rows after)
      → (SpansTooFar layers target t → ⊥) → ((k : ℕ) → Head layers target t k → layer_of t k ≡ target)
      → (members : List ℕ) → Ascending (RestsOn layers target) members
      → Ascending (TargetRow target t) a.heads × (a.sizes ≡ replicate units (length members))

pub every_row : EveryRow
every_row =
    record {
      in_one_unit = shown.each_row;
      in_one_unit_computed = shown.each_row_computed;
      total_order = order.total_order;
      in_target_order = shown.in_target_order;
    }
