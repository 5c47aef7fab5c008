-- `pes_reader::judge` meets its contract: its two tests are the definition's.
-- Assumes nothing.
use mathlib.Core.Path.{sym, ◌∙◌}
use Rattle.pes_reader.proofs.judge.Goals as goal

pub returns-then-not-marked : goal.returns-then-not-marked
returns-then-not-marked c =
    simp (c.if-not-marked.true)

pub returns-then-before : goal.returns-then-before
returns-then-before c =
    simp (c.if-not-marked.false, sym c.before-2.ensures ∙ c.if-before.true)

pub returns : goal.returns
returns c =
    simp (c.if-not-marked.false, sym c.before-2.ensures ∙ c.if-before.false)
