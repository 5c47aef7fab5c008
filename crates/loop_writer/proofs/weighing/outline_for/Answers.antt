-- `loop_writer::outline_for` meets its contract: what is judged of the embedded layers is judged here, and all else is kept.
-- Assumes nothing.
use Rattle.loop_writer.proofs.weighing.outline_for.Goals as goal

pub returns : goal.returns
returns c = rw (c.wrong_embedded.ensures c.args.entry.stream_type)
