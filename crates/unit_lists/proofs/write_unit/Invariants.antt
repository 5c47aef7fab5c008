-- `unit_lists::write_unit` meets its contract. The invariant, what is left of the unit stored from here on, and each turn are in Laying. Assumes nothing.
use mathlib.Core.List.{[]}
use Rattle.rows.specs.Table.{table}
use Rattle.unit_lists.proofs.Laying.{Laying}
use Rattle.unit_lists.proofs.write_unit.Given as goal

abbrev pub invariant-loop-from : goal.invariant-loop-from
invariant-loop-from l =
    Laying (table [] l.decodings []) l.kept l.time l.first l.end l.at l.initial.numbers l.initial.lags l.from l.next l.numbers l.lags
