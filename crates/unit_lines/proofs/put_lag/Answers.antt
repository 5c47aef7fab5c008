-- `unit_lines::put_lag` meets its contract: a lag that is not below 0 is its own magnitude, and one below 0 lies one further than it lies beyond -1.
-- Assumes nothing.
use Rattle.unit_lines.proofs.Parts.{lag_fits, lag_shown, past_fits, past_number, past_more, past_shown}
use Rattle.text.proofs.Laws.{laid_as}
use Rattle.unit_lines.proofs.put_lag.Goals as goal

-- LEFT: no goal of today has the name slice-aggregate-put-labelled
-- slice-aggregate-put-labelled : tie.Need-slice-aggregate-put-labelled
-- slice-aggregate-put-labelled c = search rules

pub overflow_cast-lag : goal.overflow_cast-lag
overflow_cast-lag c =
    lag_fits c.args.lag c.ranges.lag c.if-lag-ge0.true

pub returns-then-lag-ge0 : goal.returns-then-lag-ge0
returns-then-lag-ge0 c =
    laid_as (lag_shown c.args.lag c.ranges.lag c.if-lag-ge0.true) c.put_labelled.ensures

pub overflow_sub-beyond : goal.overflow_sub-beyond
overflow_sub-beyond c =
    past_fits c.args.lag c.ranges.lag c.if-lag-ge0.false

-- LEFT: no goal of today has the name slice-aggregate-put-labelled-2
-- slice-aggregate-put-labelled-2 : tie.Need-slice-aggregate-put-labelled-2
-- slice-aggregate-put-labelled-2 c = search rules

pub overflow_cast-beyond : goal.overflow_cast-beyond
overflow_cast-beyond c =
    past_number c.args.lag c.ranges.lag c.if-lag-ge0.false

pub overflow_add-beyond : goal.overflow_add-beyond
overflow_add-beyond c =
    past_more c.args.lag c.ranges.lag c.if-lag-ge0.false

pub returns : goal.returns
returns c =
    laid_as (past_shown c.args.lag c.ranges.lag c.if-lag-ge0.false) c.put_labelled-2.ensures
