-- `read_in` meets its contract.
-- Assumes nothing.
use Rattle.program_points.proofs.Filled.{by_verdict}
use Rattle.program_points.specs.Told.{refused_points}
use Rattle.point_descriptors.specs.declared.Found.{Found}
use Rattle.vocabulary.specs.declared.refusal.Refusal.{Refusal}
use Rattle.std.specs.Prelude.{Err, Ok}
use mathlib.Core.Path.{refl, ap₂, ◌∙◌}
use Rattle.program_points.proofs.read_in.Goals as goal

pub returns-in-Err : goal.returns-in-Err
returns-in-Err c =
    let a = c.args in
    by_verdict a.program.now a.layers a.found c.requires _ refl {verdict = Err c.in-Err.fault} c.in-Err.is
    (c.refused.ensures ∙ ap₂ (λ (r : Refusal) (f : Found). refused_points r a.layers f) c.refusal_of.ensures c.requires)

pub returns-in-Ok : goal.returns-in-Ok
returns-in-Ok c = by_verdict c.args.program.now c.args.layers c.args.found c.requires _ refl {verdict = Ok tt} c.in-Ok.is c.tell.ensures
