-- `records::names_of_hierarchy` meets its contract: a base layer names nothing, and any other its one embedded layer.
-- Assumes nothing.
use mathlib.Core.Path.{◌∙◌, sym}
use Rattle.records.proofs.names_of_hierarchy.Goals as goal

pub returns-then-is_base : goal.returns-then-is_base
returns-then-is_base c = rw (sym c.is_base.ensures ∙ c.if-is_base.true)

pub returns : goal.returns
returns c = rw (sym c.is_base.ensures ∙ c.if-is_base.false) c.with_index.ensures
