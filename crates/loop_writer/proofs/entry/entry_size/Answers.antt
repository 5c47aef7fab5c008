-- `entry_size` meets its contract: the size of a record, and five bytes before it.
-- Assumes nothing.
use Rattle.loop_writer.proofs.Entries.{record_fit}
use Rattle.loop_writer.proofs.entry.entry_size.Goals as goal

pub record_size-requires : goal.record_size-requires
record_size-requires c = record_fit c.args.entry c.requires
