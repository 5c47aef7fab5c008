-- `judging::wrong_hierarchy_index` meets its contract: a base layer lists nothing, and any other its one embedded index.
-- Assumes nothing.
use mathlib.Core.Path.{◌∙◌, sym}
use mathlib.Core.Bool.{or-false}
use lib.Dec.{leb}
use Rattle.judging.proofs.wrong_hierarchy_index.Goals as goal

pub returns-then-is_base : goal.returns-then-is_base
returns-then-is_base c = rw (sym c.is_base.ensures ∙ c.if-is_base.true)

pub returns : goal.returns
returns c =
    let h = c.args.hierarchy in
    rw (sym c.is_base.ensures ∙ c.if-is_base.false) (sym (or-false (leb h.layer_index.0 h.embedded_layer_index.0)))
