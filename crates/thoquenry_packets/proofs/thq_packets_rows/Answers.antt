-- `thoquenry_packets::thq_packets_rows` meets its contract: the answer of the rows as one number. Assumes nothing.
use lib.ListN.{length}
use Rattle.recording_rows.specs.Columns.{columns}
use Rattle.thoquenry_packets.proofs.Rows.{rows_left}
use Rattle.thoquenry_packets.proofs.thq_packets_rows.Goals as goal

pub returns : goal.returns
returns c =
    let a = c.args in
    let old = columns a.indices.now a.decodings.now a.matches.now a.trefs.now a.numbers.now in
    let all_of_it = rows_left a.bytes.now a.packets.now (length a.starts.now) old c.read_table-read.ensures c.pid_table-table.ensures c.read_for.ensures.answer c.read_for.ensures.content c.rows_answer.ensures in record {
      answer = all_of_it.0;
      content = all_of_it.1;
    }
