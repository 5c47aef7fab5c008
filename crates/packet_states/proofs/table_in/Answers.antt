-- `packet_states::table_in` meets its contract: as many bytes are copied as the table has. Assumes nothing.
use mathlib.Core.Path.{sym}
use lib.Seq.{length-take-le}
use Rattle.packet_states.proofs.table_in.Goals as goal

pub copy_from_slice-requires : goal.copy_from_slice-requires
copy_from_slice-requires c = sym (length-take-le 8192 c.args.state.now c.requires)
