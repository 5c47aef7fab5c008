-- `nothing_weighed` meets its contract: no fault is that of no entry.
-- Assumes nothing.
use mathlib.Core.Path.{ap}
use Rattle.loop_faults.specs.declared.Fault.{Fault}
use Rattle.loop_writer.proofs.weighing.nothing_weighed.Goals as goal

pub returns : goal.returns
returns c = ap (λ (f : Fault). record { size = 0; fault = f }) c.no_fault.ensures
