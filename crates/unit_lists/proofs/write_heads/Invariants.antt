-- `unit_lists::write_heads` meets its contract. The invariant, the units of the heads so far written, and each turn are in Filling. Assumes nothing.
use mathlib.Core.List.{[]}
use Rattle.rows.specs.Table.{table}
use Rattle.heads.specs.Units.{frame}
use Rattle.unit_lists.proofs.Filling.{Filled}
use Rattle.unit_lists.proofs.write_heads.Given as goal

abbrev pub invariant-loop-unit : goal.invariant-loop-unit
invariant-loop-unit l =
    Filled (table l.indices l.decodings []) (frame 0 [] l.own []) l.kept l.places l.heads l.initial.numbers l.initial.lags l.initial.sizes l.unit l.at l.numbers l.lags l.sizes
