-- `entry::extension_for` meets its contract.
-- Assumes nothing.
use borrow.Author.Tests.{ne_eqb}
use Rattle.stereo_writer.proofs.entry.extension_for.Goals as goal

pub returns-then-stream_type-eq-SECOND_TYPE : goal.returns-then-stream_type-eq-SECOND_TYPE
returns-then-stream_type-eq-SECOND_TYPE c = rw c.if-stream_type-eq-SECOND_TYPE.true

pub returns : goal.returns
returns c = rw (ne_eqb c.args.stream_type 0x20 c.if-stream_type-eq-SECOND_TYPE.false)
