-- `thoquenry_pieces::begin` meets its contract. Assumes nothing.
use mathlib.Core.Path.{ap, ◌∙◌}
use Rattle.thoquenry_pieces.proofs.Starting.{begun_with}
use Rattle.thoquenry_pieces.proofs.begin.Goals as goal

pub returns : goal.returns
returns c =
    let a = c.args in
    begun_with a.table a.state.now c.requires.0 c.pid_table-by_pid.ensures c.put_whole.ensures.content c.start.ensures c.put_counts.ensures
    (c.accepted.ensures ∙ ap Rattle.c_answers.specs.Answers.accepted c.size.ensures)
