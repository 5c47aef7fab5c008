-- `continuity::next_counter` meets its contract: the test of the payload picks the case. Assumes nothing.
use mathlib.Core.Path.{sym, ◌∙◌}
use Rattle.continuity.proofs.next_counter.Goals as goal

pub returns-then-not-has_payload : goal.returns-then-not-has_payload
returns-then-not-has_payload c =
    simp (sym c.has_payload.ensures ∙ c.if-not-has_payload.true)

pub returns : goal.returns
returns c =
    simp (sym c.has_payload.ensures ∙ c.if-not-has_payload.false)
