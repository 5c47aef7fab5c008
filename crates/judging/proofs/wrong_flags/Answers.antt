-- `judging::wrong_flags` meets its contract: which arm was taken says which record it is, and the callee judges its flags.
-- Assumes nothing.
use mathlib.Core.Path.{◌∙◌, ap, sym}
use Rattle.judging.specs.Judging.{flags_wrong_for, wrong_flags}
use Rattle.judging.proofs.wrong_flags.Goals as goal

pub returns-in-Hierarchy : goal.returns-in-Hierarchy
returns-in-Hierarchy c =
    c.flags_wrong_for.ensures ∙ ap (flags_wrong_for c.in-Hierarchy.hierarchy.hierarchy_type) c.flags_at_0.ensures ∙ sym (ap wrong_flags c.in-Hierarchy.is)
