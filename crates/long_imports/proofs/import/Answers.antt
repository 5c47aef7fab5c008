-- `long_imports::import` meets its contract: its columns and its work space have 512 places each. Assumes nothing.
use Rattle.unit_lists.specs.Sequence.{lists}
use Rattle.join_answers.specs.Joining.{room_of, most_long}
use Rattle.join_answers.specs.Steps.{spaces}
use Rattle.rows.specs.Table.{most_rows}
use Rattle.recording_rows.specs.Columns.{columns}
use Rattle.recording_imports.specs.Imports.{places_for}
use lib.ListN.{length}
use Rattle.long_imports.proofs.Whole.{places_are, own_numbers, own_marks, own_places}
use Rattle.long_imports.proofs.import.Goals as goal

pub returns : goal.returns
returns c =
    let a = c.args in record {
      answer = places_are a.bytes.now a.target a.packets.now (room_of (lists a.numbers.now a.lags.now a.sizes.now))
          {n = places_for (most_long (spaces (length own_numbers) (length own_numbers) (length own_numbers) (length own_numbers) (length own_numbers) (length own_marks) (length own_marks))) (columns own_numbers own_numbers own_numbers own_numbers own_numbers)} {m = most_rows}
          c.import_long.ensures.answer own_places;
      content = c.import_long.ensures.content;
    }
