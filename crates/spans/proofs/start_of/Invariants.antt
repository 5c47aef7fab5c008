-- `spans::start_of` meets its contract (Measuring has the laws). The invariant: no row before this one is of the closure. Assumes nothing.
use Prim.Native.Nat.{ℕ, ◌≤◌, ◌<◌}
use mathlib.Core.Bool.{false}
use mathlib.Core.List.{[]}
use mathlib.Core.Path.{◌≡◌}
use lib.ListN.{length}
use Rattle.rows.specs.Table.{table}
use Rattle.spans.specs.Spans.{is_closure_row}
use Rattle.spans.proofs.start_of.Given as goal

abbrev pub invariant-loop-row : goal.invariant-loop-row
invariant-loop-row l =
    (l.row ≤ length l.indices) × ((k : ℕ) → k < l.row → is_closure_row (table l.indices l.decodings []) l.closure k ≡ false)
