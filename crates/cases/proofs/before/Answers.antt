-- `cases::before` meets its contract: the first place at which the closure says yes.
-- Assumes nothing.
use Rattle.std.proofs.Common.{rules, length, ap, ◌∙◌}
use lib.Dec.{eqb}
use Rattle.std.specs.Option.{unwrap_or}
use Rattle.std.proofs.lemmas.Iterator.{YieldsList-from_slice}
use Rattle.std.proofs.lemmas.Iterator.Search.{position_from_yields_List}
use Rattle.cases.proofs.Cuts.{before_is}
use Rattle.cases.proofs.before.Goals as goal

pub returns-clause-value : goal.returns-clause-value
returns-clause-value c =
    let text = c.args.text.now in
    let found = position_from_yields_List (λ b. eqb b c.args.mark) _ _ _ c.position.ensures.ran (YieldsList-from_slice text c.iter.ensures.rest) (λ x b q k. search rules) in
    c.unwrap_or.ensures ∙ ap (λ o. unwrap_or o (length text)) found ∙ before_is c.args.mark text
