-- `packet_states::is_state` meets its contract: each test decides, or leaves it to the next. Assumes nothing.
use mathlib.Core.Path.{◌∙◌}
use Rattle.packet_states.proofs.Judged.{bytes_wrong, numbers_wrong, ends_wrong, numbers_decide}
use Rattle.packet_states.proofs.is_state.Goals as goal

pub returns-then-state-ne-STATE_BYTES : goal.returns-then-state-ne-STATE_BYTES
returns-then-state-ne-STATE_BYTES c = bytes_wrong c.args.state.now c.args.counts.now c.if-state-ne-STATE_BYTES.true

pub returns-then-counts-ne-STATE_NUMBERS : goal.returns-then-counts-ne-STATE_NUMBERS
returns-then-counts-ne-STATE_NUMBERS c = numbers_wrong c.args.state.now c.args.counts.now c.if-state-ne-STATE_BYTES.false c.if-counts-ne-STATE_NUMBERS.true

pub returns-then-ends_past_one : goal.returns-then-ends_past_one
returns-then-ends_past_one c = ends_wrong c.args.state.now c.args.counts.now c.if-state-ne-STATE_BYTES.false c.if-counts-ne-STATE_NUMBERS.false c.ends_past_one.ensures c.if-ends_past_one.true

pub returns : goal.returns
returns c = c.possible.ensures ∙ numbers_decide c.args.state.now c.args.counts.now c.if-state-ne-STATE_BYTES.false c.if-counts-ne-STATE_NUMBERS.false c.ends_past_one.ensures c.if-ends_past_one.false
