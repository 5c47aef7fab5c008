-- `thq_packets_feed` meets its contract: what is no state is no call, and a state is taken apart, fed and put together. Assumes nothing.
use native.Mathlib.Omega.{arith}
use mathlib.Core.Path.{sym, ◌∙◌}
use Rattle.combinators.specs.Lists.{part_to_end}
use Rattle.recording_rows.specs.Columns.{columns}
use Rattle.thoquenry_pieces.proofs.Feeding.{not_fed, given_state, given_room, given_ready, same_le, part_laid, fed_call}
use Rattle.thoquenry_pieces.proofs.thq_packets_feed.Goals as goal

pub returns-then-not-may_feed : goal.returns-then-not-may_feed
returns-then-not-may_feed c = not_fed c.args.piece.now c.args.state.now c.args.counts.now (columns c.args.indices.now c.args.decodings.now c.args.matches.now c.args.trefs.now c.args.numbers.now) (sym c.may_feed.ensures ∙ c.if-not-may_feed.true) c.not_a_call.ensures

pub progress_in-progress-requires : goal.progress_in-progress-requires
progress_in-progress-requires c =
    let s = given_state c.args.piece.now c.args.state.now c.args.counts.now (columns c.args.indices.now c.args.decodings.now c.args.matches.now c.args.trefs.now c.args.numbers.now) (sym c.may_feed.ensures ∙ c.if-not-may_feed.false) in
    (omega (arith, s.numbers), omega (arith, s.fault_to), omega (arith, s.refusal_to))

pub bounds-counts-71 : goal.bounds-counts-71
bounds-counts-71 c =
    let s = given_state c.args.piece.now c.args.state.now c.args.counts.now (columns c.args.indices.now c.args.decodings.now c.args.matches.now c.args.trefs.now c.args.numbers.now) (sym c.may_feed.ensures ∙ c.if-not-may_feed.false) in
    omega (arith, s.numbers)

pub ends_in-ends-requires : goal.ends_in-ends-requires
ends_in-ends-requires c =
    let s = given_state c.args.piece.now c.args.state.now c.args.counts.now (columns c.args.indices.now c.args.decodings.now c.args.matches.now c.args.trefs.now c.args.numbers.now) (sym c.may_feed.ensures ∙ c.if-not-may_feed.false) in
    omega (arith, s.numbers)

pub table_in-table-requires : goal.table_in-table-requires
table_in-table-requires c =
    let s = given_state c.args.piece.now c.args.state.now c.args.counts.now (columns c.args.indices.now c.args.decodings.now c.args.matches.now c.args.trefs.now c.args.numbers.now) (sym c.may_feed.ensures ∙ c.if-not-may_feed.false) in
    omega (arith, s.long)

pub part_in-part-requires : goal.part_in-part-requires
part_in-part-requires c =
    let s = given_state c.args.piece.now c.args.state.now c.args.counts.now (columns c.args.indices.now c.args.decodings.now c.args.matches.now c.args.trefs.now c.args.numbers.now) (sym c.may_feed.ensures ∙ c.if-not-may_feed.false) in
    omega (arith, s.long)

pub slice_bounds-feed-count : goal.slice_bounds-feed-count
slice_bounds-feed-count c =
    let s = given_state c.args.piece.now c.args.state.now c.args.counts.now (columns c.args.indices.now c.args.decodings.now c.args.matches.now c.args.trefs.now c.args.numbers.now) (sym c.may_feed.ensures ∙ c.if-not-may_feed.false) in
    omega (arith, s.long)

pub slice_bounds-feed-start : goal.slice_bounds-feed-start
slice_bounds-feed-start c =
    let s = given_state c.args.piece.now c.args.state.now c.args.counts.now (columns c.args.indices.now c.args.decodings.now c.args.matches.now c.args.trefs.now c.args.numbers.now) (sym c.may_feed.ensures ∙ c.if-not-may_feed.false) in
    omega (arith, s.long)

pub feed-after-requires : goal.feed-after-requires
feed-after-requires c = (
  given_room c.args.piece.now c.args.state.now c.args.counts.now (columns c.args.indices.now c.args.decodings.now c.args.matches.now c.args.trefs.now c.args.numbers.now) (sym c.may_feed.ensures ∙ c.if-not-may_feed.false) c.table_in-table.ensures c.progress_in-progress.ensures c.part_in-part.ensures (part_to_end c.args.state.now 8380) c.ends_in-ends.ensures c.shortest-room.ensures,
  given_ready c.args.piece.now c.args.state.now c.args.counts.now (columns c.args.indices.now c.args.decodings.now c.args.matches.now c.args.trefs.now c.args.numbers.now) (sym c.may_feed.ensures ∙ c.if-not-may_feed.false) c.table_in-table.ensures c.progress_in-progress.ensures c.part_in-part.ensures (part_to_end c.args.state.now 8380) c.ends_in-ends.ensures c.shortest-room.ensures,
  same_le c.shortest-room.ensures,
)

pub put_whole-requires : goal.put_whole-requires
put_whole-requires c =
    let s = given_state c.args.piece.now c.args.state.now c.args.counts.now (columns c.args.indices.now c.args.decodings.now c.args.matches.now c.args.trefs.now c.args.numbers.now) (sym c.may_feed.ensures ∙ c.if-not-may_feed.false) in
    part_laid s.long c.state-1.given.1 c.feed-after.ensures.ready.long

pub put_counts-requires : goal.put_counts-requires
put_counts-requires c =
    let s = given_state c.args.piece.now c.args.state.now c.args.counts.now (columns c.args.indices.now c.args.decodings.now c.args.matches.now c.args.trefs.now c.args.numbers.now) (sym c.may_feed.ensures ∙ c.if-not-may_feed.false) in
    (c.feed-after.ensures.ready.held.many, s.numbers)

pub shape_of-state : goal.shape_of-state
shape_of-state c = c.state-2-1.given ∙ c.state-1.given.1

pub returns : goal.returns
returns c =
    fed_call c.args.piece.now c.args.state.now c.args.counts.now (columns c.args.indices.now c.args.decodings.now c.args.matches.now c.args.trefs.now c.args.numbers.now) (sym c.may_feed.ensures ∙ c.if-not-may_feed.false) c.table_in-table.ensures c.progress_in-progress.ensures c.part_in-part.ensures (part_to_end c.args.state.now 8380) c.ends_in-ends.ensures c.shortest-room.ensures c.feed-after.ensures c.state-1.given.0 c.accepted.ensures c.put_whole.ensures.content c.no_room_after.ensures c.put_counts.ensures
