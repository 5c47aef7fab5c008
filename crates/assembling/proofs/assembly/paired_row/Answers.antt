-- `assembling::assembly::paired_row` meets its contract: the three ways of the code are the three cases of the definition.
-- Assumes nothing.
use borrow.Author.Tests.{lt-ltb, le-ltb, eq-eqb, ne_eqb}
use Rattle.assembling.proofs.assembly.paired_row.Goals as goal

pub returns-then-decodings-row : goal.returns-then-decodings-row
returns-then-decodings-row c = rw (lt-ltb _ _ c.if-row-indices.true, eq-eqb _ _ c.if-decodings-row.true)

pub returns-then-row-indices : goal.returns-then-row-indices
returns-then-row-indices c = rw (lt-ltb _ _ c.if-row-indices.true, ne_eqb _ _ c.if-decodings-row.false)

pub returns : goal.returns
returns c = rw (le-ltb _ _ c.if-row-indices.false) c.row_at.ensures
