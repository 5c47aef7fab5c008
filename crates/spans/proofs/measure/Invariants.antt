-- `spans::measure` meets its contract. The invariant, what is known after some rows, and each turn are in Measuring. Assumes nothing.
use mathlib.Core.List.{[]}
use Rattle.rows.specs.Table.{table}
use Rattle.spans.proofs.Measuring.{Measured}
use Rattle.spans.proofs.measure.Given as goal

abbrev pub invariant-loop-row : goal.invariant-loop-row
invariant-loop-row l =
    Measured (table l.indices l.decodings []) l.closure l.initial.keys l.row l.keys l.least l.greatest
