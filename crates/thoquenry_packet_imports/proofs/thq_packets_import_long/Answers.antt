-- `thoquenry_packet_imports::thq_packets_import_long` meets its contract: the loop is asked, the recording is read where there are places for its rows, and the rows are joined. Assumes nothing.
use Prim.Native.Nat.{ℕ}
use mathlib.Core.Path.{sym, ap, ◌∙◌}
use lib.ListN.{length}
use lib.Seq.{length-take-le}
use Rattle.unit_lists.specs.Sequence.{lists}
use Rattle.join_answers.specs.Joining.{most_long}
use Rattle.join_answers.specs.Steps.{spaces}
use Rattle.joining.proofs.Held.{most_held}
use Rattle.recording_rows.specs.Columns.{columns}
use Rattle.summed_joins.proofs.Placed.{placed_at}
use Rattle.thoquenry_packet_imports.proofs.thq_packets_import_long.Goals as goal

pub slice_bounds-read_for-end : goal.slice_bounds-read_for-end
slice_bounds-read_for-end c =
    let a = c.args in
    (most_held (length a.order.now) (length a.keys.now) (length a.kept.now) (length a.places.now) (length a.heads.now) (length a.claimed.now) (length a.used.now) c.most_long-most.result c.most_long-most.ensures).for_keys

pub slice_bounds-read_for-end-2 : goal.slice_bounds-read_for-end-2
slice_bounds-read_for-end-2 c =
    let a = c.args in
    sym (length-take-le _ _ (most_held (length a.order.now) (length a.keys.now) (length a.kept.now) (length a.places.now) (length a.heads.now) (length a.claimed.now) (length a.used.now) c.most_long-most.result c.most_long-most.ensures).for_keys)

pub shape_of-indices : goal.shape_of-indices
shape_of-indices c = c.indices-1.given

pub shape_of-decodings : goal.shape_of-decodings
shape_of-decodings c = c.decodings-1.given

pub shape_of-matches : goal.shape_of-matches
shape_of-matches c = c.matches-1.given

pub shape_of-trefs : goal.shape_of-trefs
shape_of-trefs c = c.trefs-1.given

pub shape_of-packet_numbers : goal.shape_of-packet_numbers
shape_of-packet_numbers c = c.packet_numbers-1.given

pub shape_of-order : goal.shape_of-order
shape_of-order c = c.order-1.given

pub shape_of-keys : goal.shape_of-keys
shape_of-keys c = c.keys-2-1.given ∙ c.keys-1.given.1

pub shape_of-kept : goal.shape_of-kept
shape_of-kept c = c.kept-1.given

pub shape_of-places : goal.shape_of-places
shape_of-places c = c.places-1.given

pub shape_of-heads : goal.shape_of-heads
shape_of-heads c = c.heads-1.given

pub shape_of-claimed : goal.shape_of-claimed
shape_of-claimed c = c.claimed-1.given

pub shape_of-used : goal.shape_of-used
shape_of-used c = c.used-1.given

pub shape_of-numbers : goal.shape_of-numbers
shape_of-numbers c = c.numbers-1.given

pub shape_of-lags : goal.shape_of-lags
shape_of-lags c = c.lags-1.given

pub shape_of-sizes : goal.shape_of-sizes
shape_of-sizes c = c.sizes-1.given

pub shape_of-summary : goal.shape_of-summary
shape_of-summary c = c.summary-1.given

pub returns : goal.returns
returns c =
    let a = c.args in
    let old = columns a.indices.now a.decodings.now a.matches.now a.trefs.now a.packet_numbers.now in
    let before = lists a.numbers.now a.lags.now a.sizes.now in
    let most = most_long (spaces (length a.order.now) (length a.keys.now) (length a.kept.now) (length a.places.now) (length a.heads.now) (length a.claimed.now) (length a.used.now)) in
    let held = most_held (length a.order.now) (length a.keys.now) (length a.kept.now) (length a.places.now) (length a.heads.now) (length a.claimed.now) (length a.used.now) c.most_long-most.result c.most_long-most.ensures in
    let all_of_it = placed_at a.bytes.now a.target a.packets.now most old before a.summary.now
    (length-take-le c.most_long-most.result a.keys.now held.for_keys ∙ c.most_long-most.ensures)
    (ap (λ (k : ℕ). most_long (spaces (length a.order.now) k (length a.kept.now) (length a.places.now) (length a.heads.now) (length a.claimed.now) (length a.used.now))) c.keys-1.given.1)
    c.ask-asked.ensures c.pid_table-pids.ensures c.read_for-rows.ensures.answer c.read_for-rows.ensures.content (c.join_summed.ensures.answer, (c.join_summed.ensures.content, c.join_summed.ensures.summed)) in record {
      answer = all_of_it.0;
      rows = all_of_it.1.0;
      content = all_of_it.1.1.0;
      summed = all_of_it.1.1.1;
    }
