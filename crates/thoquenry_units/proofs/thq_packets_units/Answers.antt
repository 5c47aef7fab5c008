-- `thq_packets_units` meets its contract: what is no state is no call. Assumes nothing.
use mathlib.Core.Path.{sym, ◌∙◌}
use lib.ListN.{length}
use Rattle.rows.specs.Table.{table}
use Rattle.unit_lists.specs.Sequence.{lists}
use Rattle.join_answers.specs.Joining.{most_long}
use Rattle.join_answers.specs.Steps.{spaces}
use Rattle.thoquenry_units.proofs.Replies.{no_state, of_state}
use Rattle.thoquenry_units.proofs.thq_packets_units.Goals as goal

pub returns-then-not-is_state : goal.returns-then-not-is_state
returns-then-not-is_state c =
    let a = c.args in
    let t = table a.indices.now a.decodings.now a.matches.now in
    let before = lists a.numbers.now a.lags.now a.sizes.now in
    let most = most_long (spaces (length a.order.now) (length a.keys.now) (length a.kept.now) (length a.places.now) (length a.heads.now) (length a.claimed.now) (length a.used.now)) in
    let all_of_it = no_state most a.bytes.now a.target a.state.now a.counts.now t before a.summary.now (sym c.is_state.ensures ∙ c.if-not-is_state.true) c.not_a_call.ensures in record {
      answer = all_of_it.0;
      content = all_of_it.1.0;
      summed = all_of_it.1.1;
    }

pub told-recording-requires : goal.told-recording-requires
told-recording-requires c = sym c.is_state.ensures ∙ c.if-not-is_state.false

pub returns : goal.returns
returns c =
    let a = c.args in
    let t = table a.indices.now a.decodings.now a.matches.now in
    let before = lists a.numbers.now a.lags.now a.sizes.now in
    let most = most_long (spaces (length a.order.now) (length a.keys.now) (length a.kept.now) (length a.places.now) (length a.heads.now) (length a.claimed.now) (length a.used.now)) in
    let all_of_it = of_state most a.bytes.now a.target a.state.now a.counts.now t before a.summary.now (sym c.is_state.ensures ∙ c.if-not-is_state.false) c.told-recording.ensures (c.units_told.ensures.answer, (c.units_told.ensures.content, c.units_told.ensures.summed)) in record {
      answer = all_of_it.0;
      content = all_of_it.1.0;
      summed = all_of_it.1.1;
    }
