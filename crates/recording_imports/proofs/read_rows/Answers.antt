-- `recording_imports::read_rows` meets its contract: the loop as it was read has the outcome and the PIDs. Assumes nothing.
use lib.ListN.{length}
use Rattle.recording_rows.specs.Columns.{columns}
use Rattle.recording_imports.proofs.Told.{under_loop}
use Rattle.recording_imports.proofs.read_rows.Goals as goal

pub returns : goal.returns
returns c =
    let a = c.args in
    let old = columns a.indices.now a.decodings.now a.matches.now a.trefs.now a.numbers.now in
    let all_of_it = under_loop a.bytes.now a.packets.now (length a.starts.now) old c.read_table-read.ensures c.pid_table-table.ensures c.read_for.ensures.answer c.read_for.ensures.content in record {
      answer = all_of_it.0;
      content = all_of_it.1;
    }
