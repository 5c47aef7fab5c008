-- `entry_rows::some_too_wide` meets its contract. The invariant: none of the rows passed has a value that is too wide.
-- Assumes nothing.
use Prim.Native.Nat.{◌-◌, ◌≤◌}
use mathlib.Core.Path.{◌≡◌}
use mathlib.Core.Bool.{false}
use Rattle.combinators.specs.Below.{some}
use Rattle.entry_rows.specs.Rows.{row_at, row_too_wide}
use Rattle.entry_rows.proofs.some_too_wide.Given as goal

abbrev pub invariant-loop-i : goal.invariant-loop-i
invariant-loop-i l = (l.i ≤ l.count) × (some (λ k. row_too_wide (row_at l.numbers k)) l.i ≡ false)
