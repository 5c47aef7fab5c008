-- `loop_faults::judged_fault` meets its contract: the tests on the way to each return say which condition holds first.
-- Assumes nothing.
use mathlib.Core.Path.{◌∙◌, sym}
use Rattle.loop_faults.proofs.judged_fault.Goals as goal

pub returns-then-type_not_allowed : goal.returns-then-type_not_allowed
returns-then-type_not_allowed c = rw (sym c.type_not_allowed.ensures ∙ c.if-type_not_allowed.true)

pub returns-then-wrong_flags : goal.returns-then-wrong_flags
returns-then-wrong_flags c = rw (sym c.type_not_allowed.ensures ∙ c.if-type_not_allowed.false, sym c.wrong_flags.ensures ∙ c.if-wrong_flags.true)

pub returns-then-index_held : goal.returns-then-index_held
returns-then-index_held c = rw (sym c.type_not_allowed.ensures ∙ c.if-type_not_allowed.false, sym c.wrong_flags.ensures ∙ c.if-wrong_flags.false, c.if-index_held.true)

pub returns-then-outline : goal.returns-then-outline
returns-then-outline c = rw (sym c.type_not_allowed.ensures ∙ c.if-type_not_allowed.false, sym c.wrong_flags.ensures ∙ c.if-wrong_flags.false, c.if-index_held.false, c.if-outline.true)

pub returns : goal.returns
returns c = rw (sym c.type_not_allowed.ensures ∙ c.if-type_not_allowed.false, sym c.wrong_flags.ensures ∙ c.if-wrong_flags.false, c.if-index_held.false, c.if-outline.false)
