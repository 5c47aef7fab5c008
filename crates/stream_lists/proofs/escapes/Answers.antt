-- `stream_lists::escapes` meets its contract. Assumes nothing.
use Rattle.stream_lists.proofs.Closing.{above_names_nothing, escaping}
use Rattle.stream_lists.proofs.escapes.Goals as goal

pub returns-then-index-ge64 : goal.returns-then-index-ge64
returns-then-index-ge64 c = let a = c.args in above_names_nothing a.layers a.set a.index c.if-index-ge64.true

pub returns : goal.returns
returns c = let a = c.args in escaping a.layers a.set a.index _ _ c.if-index-ge64.false c.named.ensures c.without.ensures
