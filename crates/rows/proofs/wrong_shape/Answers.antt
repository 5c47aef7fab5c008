-- `rows::wrong_shape` meets its contract: each way of the code decides the tests of the definition up to its own.
-- Assumes nothing.
use borrow.Author.Tests.{eq-eqb, ne_eqb}
use Rattle.rows.proofs.wrong_shape.Goals as goal

pub returns-then-decodings-indices : goal.returns-then-decodings-indices
returns-then-decodings-indices c = rw (ne_eqb _ _ c.if-decodings-indices.true)

pub returns-then-matches-indices : goal.returns-then-matches-indices
returns-then-matches-indices c = rw (eq-eqb _ _ c.if-decodings-indices.false, ne_eqb _ _ c.if-matches-indices.true)

pub returns : goal.returns
returns c = rw (eq-eqb _ _ c.if-decodings-indices.false, eq-eqb _ _ c.if-matches-indices.false)
