-- `recording_imports::read_for` meets its contract: where nothing was refused before, what the recording answered and laid; else nothing was touched. Assumes nothing.
use Rattle.std.specs.Prelude.{Ok}
use borrow.Author.Rules.{rules}
use mathlib.Core.Path.{◌≡◌}
use lib.ListN.{length}
use Rattle.es_loop.specs.Answer.{Outcome}
use Rattle.recording_rows.specs.Columns.{columns}
use Rattle.recording_imports.proofs.Told.{read_told}
use Rattle.recording_imports.proofs.read_for.Goals as goal

pub returns : goal.returns
returns c =
    let a = c.args in
    let old = columns a.indices.now a.decodings.now a.matches.now a.trefs.now a.numbers.now in
    let accepted : ◌≡◌ {A = Outcome} a.outcome (Ok tt) = search rules in
    let all_of_it = read_told a.table.now a.packets.now (length a.starts.now) old accepted c.read_recording.ensures.answer c.read_recording.ensures.content c.rows_told.ensures in record {
      answer = all_of_it.0;
      content = all_of_it.1;
    }
