-- `judge_ranges` meets its contract: 46 where the ranges are wrong.
-- Assumes nothing.
use mathlib.Core.Path.{◌∙◌, sym}
use Rattle.stereo_set.proofs.set.judge_ranges.Goals as goal

pub returns-then-wrong_ranges : goal.returns-then-wrong_ranges
returns-then-wrong_ranges c = rw (sym c.wrong_ranges.ensures ∙ c.if-wrong_ranges.true) c.refused.ensures

pub returns : goal.returns
returns c = rw (sym c.wrong_ranges.ensures ∙ c.if-wrong_ranges.false)
