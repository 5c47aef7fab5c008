-- `thq_packets_told` meets its contract. Assumes nothing.
use mathlib.Core.Path.{◌≡◌, sym, ap, ◌∙◌}
use mathlib.Core.Bool.{Bool, true, cond}
use Rattle.c_answers.specs.Answers.{not_a_call}
use Rattle.recording_imports.specs.Rows.{rows_told}
use Rattle.packet_states.specs.States.{is_state}
use Rattle.packet_answers.specs.Answers.{rows_answer}
use Rattle.thoquenry_pieces.specs.Calls.{told_by}
use Rattle.thoquenry_pieces.proofs.thq_packets_told.Goals as goal

pub returns-then-not-is_state : goal.returns-then-not-is_state
returns-then-not-is_state c =
    let counts = c.args.counts.now in
    c.not_a_call.ensures ∙ sym (ap (λ (t : Bool). cond t (rows_answer (rows_told (told_by counts))) not_a_call) (sym c.is_state.ensures ∙ c.if-not-is_state.true))

pub told-requires : goal.told-requires
told-requires c = sym c.is_state.ensures ∙ c.if-not-is_state.false

pub returns : goal.returns
returns c =
    let counts = c.args.counts.now in
    let is : is_state c.args.state.now counts ≡ true = sym c.is_state.ensures ∙ c.if-not-is_state.false in
    c.rows_answer.ensures
    ∙ ap rows_answer (c.rows_told.ensures ∙ ap rows_told c.told.ensures)
    ∙ sym (ap (λ (t : Bool). cond t (rows_answer (rows_told (told_by counts))) not_a_call) is)
