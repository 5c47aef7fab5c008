-- `thoquenry_pieces::told` meets its contract. Assumes nothing.
use native.Mathlib.Omega.{arith}
use mathlib.Core.Path.{ap, ◌∙◌}
use Rattle.unit_starts.specs.declared.Found.{Found}
use Rattle.packet_states.specs.States.{no_room_in}
use Rattle.packet_states.proofs.Judged.{stated}
use Rattle.piece_feeding.specs.Told.{found_at_end}
use Rattle.recordings.specs.Reading.{answer_of}
use Rattle.thoquenry_pieces.specs.Calls.{told_of}
use Rattle.thoquenry_pieces.proofs.Feeding.{rows_countable}
use Rattle.thoquenry_pieces.proofs.told.Goals as goal

pub progress_in-progress-requires : goal.progress_in-progress-requires
progress_in-progress-requires c =
    let s = stated c.args.state.now c.args.counts.now c.requires in
    (omega (arith, s.numbers), omega (arith, s.fault_to), omega (arith, s.refusal_to))

pub at_end-found-requires : goal.at_end-found-requires
at_end-found-requires c = rows_countable c.args.state.now c.args.counts.now c.requires c.progress_in-progress.ensures

pub bounds-counts-71 : goal.bounds-counts-71
bounds-counts-71 c = omega (arith, (stated c.args.state.now c.args.counts.now c.requires).numbers)

pub returns : goal.returns
returns c =
    let counts = c.args.counts.now in
    c.answer_of.ensures
    ∙ ap (answer_of c.at_end-found.result) c.room_told.ensures
    ∙ ap (λ (f : Found). told_of f (no_room_in counts)) (c.at_end-found.ensures ∙ ap found_at_end c.progress_in-progress.ensures)
