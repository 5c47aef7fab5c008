-- `scanning::skipping::pass_each` meets its contract. The invariant: all packets so far are passed over.
-- Assumes nothing.
use Rattle.scanning.specs.Events.{Passes}
use Rattle.scanning.proofs.skipping.pass_each.Given as goal

abbrev pub invariant-loop-number : goal.invariant-loop-number
invariant-loop-number l = Passes l.table l.kept l.bytes l.initial.ends l.from l.packets l.number l.ends
