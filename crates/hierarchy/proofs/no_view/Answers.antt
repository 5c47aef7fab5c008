-- `no_view` meets its contract: which arm was taken says which reading it is.
-- Assumes nothing.
use mathlib.Core.Path.{ap, sym}
use Rattle.vocabulary.specs.declared.stream_types.Reading.{Reading}
use Rattle.hierarchy.specs.Hierarchy.{first_bit}
use Rattle.hierarchy.proofs.no_view.Goals as goal

pub returns-in-Edition2015 : goal.returns-in-Edition2015
returns-in-Edition2015 c =
    sym (ap (λ (r : Reading). first_bit r c.args.kind) c.in-Edition2015.is)
