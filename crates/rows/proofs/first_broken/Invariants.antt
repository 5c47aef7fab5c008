-- `rows::first_broken` meets its contract. The invariant, what is known of the order after some rows, and each turn are in Order.
-- Assumes nothing.
use mathlib.Core.List.{[]}
use Rattle.rows.specs.Table.{table}
use Rattle.rows.proofs.Order.{Ordered}
use Rattle.rows.proofs.first_broken.Given as goal

abbrev pub invariant-loop-row : goal.invariant-loop-row
invariant-loop-row l =
    Ordered (table l.indices l.decodings []) l.closure l.row l.firsts l.least
