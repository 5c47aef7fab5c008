-- `recording_imports::ask` meets its contract: the loop as it was read, and what its layers have for the target. Assumes nothing.
use mathlib.Core.Path.{ap, ◌∙◌}
use Rattle.es_loop.specs.Answer.{Outcome}
use Rattle.loop_layers.specs.declared.table.TableRead.{TableRead}
use Rattle.recording_imports.specs.Imports.{outcome_for}
use Rattle.recording_imports.proofs.ask.Goals as goal

pub returns : goal.returns
returns c =
    ap (λ (o : Outcome). record { outcome = o; table = c.read_table-read.result.table }) c.outcome_for.ensures
    ∙ ap (λ (r : TableRead). record { outcome = outcome_for r.outcome r.table.layers c.args.target; table = r.table }) c.read_table-read.ensures
