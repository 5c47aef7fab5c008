-- `thoquenry_packet_imports::thq_packets_import` meets its contract: its columns and its work space have 512 places each. Assumes nothing.
use lib.ListN.{length}
use Rattle.rows.specs.Table.{most_rows}
use Rattle.join_answers.specs.Joining.{most_long}
use Rattle.join_answers.specs.Steps.{spaces}
use Rattle.recording_rows.specs.Columns.{columns}
use Rattle.recording_imports.specs.Imports.{places_for}
use Rattle.long_imports.proofs.Whole.{own_numbers, own_marks, own_places}
use Rattle.thoquenry_packet_imports.proofs.Own.{placed_are}
use Rattle.thoquenry_packet_imports.proofs.thq_packets_import.Goals as goal

pub returns : goal.returns
returns c =
    let a = c.args in
    let call = c.thq_packets_import_long.ensures in
    let all_of_it = placed_are a.bytes.now a.target a.packets.now a.numbers.now a.lags.now a.sizes.now a.summary.now
    (places_for (most_long (spaces (length own_numbers) (length own_numbers) (length own_numbers) (length own_numbers) (length own_numbers) (length own_marks) (length own_marks))) (columns own_numbers own_numbers own_numbers own_numbers own_numbers)) most_rows
    own_places call.answer call.content call.summed in record {
      answer = all_of_it.0;
      content = all_of_it.1.0;
      summed = all_of_it.1.1;
    }
