-- `add_layer` meets its contract: the count says which layer this is.
-- Assumes nothing.
use borrow.Author.Tests.{ne_eqb}
use Rattle.stereo_set.proofs.views.add_layer.Goals as goal

pub returns-then-layers-eq0 : goal.returns-then-layers-eq0
returns-then-layers-eq0 c = rw c.if-layers-eq0.true

pub returns-then-layers-eq1 : goal.returns-then-layers-eq1
returns-then-layers-eq1 c =
    let a = c.args in
    rw c.if-layers-eq1.true

pub returns : goal.returns
returns c =
    let n = c.args.layers.count in
    rw (ne_eqb n 0 c.if-layers-eq0.false, ne_eqb n 1 c.if-layers-eq1.false)
