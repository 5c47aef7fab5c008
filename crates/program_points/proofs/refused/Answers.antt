-- `refused` meets its contract.
-- Assumes nothing.
use Rattle.std.specs.Prelude.{Err}
use Rattle.program_points.specs.declared.Tally.{Tally}
use mathlib.Core.Path.{ap}
use Rattle.program_points.proofs.refused.Goals as goal

pub returns : goal.returns
returns c =
    let a = c.args in
    ap (λ (t : Tally). record { outcome = Err a.refusal; layers = a.layers; found = a.found; profile_bytes = 0; tally = t }) c.no_tally.ensures
