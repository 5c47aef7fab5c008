-- `unit_lists::write_units` meets its contract: the heads in order stand at the front of the list that was lent for them (Front), and their units are written.
-- Assumes nothing.
use mathlib.Core.List.{[]}
use Rattle.rows.specs.Table.{table}
use Rattle.heads.specs.Units.{frame}
use Rattle.unit_lists.specs.Sequence.{lists}
use Rattle.unit_lists.proofs.Front.{to_order, front_short, front_long, fillable, all_written}
use Rattle.unit_lists.proofs.write_units.Goals as goal

pub order_heads-count-requires : goal.order_heads-count-requires
order_heads-count-requires c =
    let a = c.args in
    let t = table a.indices.now a.decodings.now [] in
    let f = frame a.closure a.claimed.now a.own.now [] in
    to_order t f _ a.order.now _ a.kept.now a.places.now a.heads.now _ _ _ c.requires

pub slice_bounds-write_heads-end : goal.slice_bounds-write_heads-end
slice_bounds-write_heads-end c =
    let a = c.args in
    let t = table a.indices.now a.decodings.now [] in
    let f = frame a.closure a.claimed.now a.own.now [] in
    let ordered = c.order_heads-count.ensures in
    front_short t f _ a.order.now _ a.kept.now a.places.now a.heads.now _ _ _ c.requires _ _ ordered.count ordered.content

pub slice_bounds-write_heads-end-2 : goal.slice_bounds-write_heads-end-2
slice_bounds-write_heads-end-2 c =
    let a = c.args in
    let t = table a.indices.now a.decodings.now [] in
    let f = frame a.closure a.claimed.now a.own.now [] in
    let ordered = c.order_heads-count.ensures in
    front_long t f _ a.order.now _ a.kept.now a.places.now a.heads.now _ _ _ c.requires _ _ ordered.count ordered.content

pub write_heads-requires : goal.write_heads-requires
write_heads-requires c =
    let a = c.args in
    let t = table a.indices.now a.decodings.now [] in
    let f = frame a.closure a.claimed.now a.own.now [] in
    let ordered = c.order_heads-count.ensures in
    fillable t f _ a.order.now _ a.kept.now a.places.now a.heads.now _ _ _ c.requires _ _ ordered.count ordered.content

pub returns : goal.returns
returns c =
    let a = c.args in
    let t = table a.indices.now a.decodings.now [] in
    let f = frame a.closure a.claimed.now a.own.now [] in
    let ordered = c.order_heads-count.ensures in
    all_written t f _ a.order.now _ a.kept.now a.places.now a.heads.now _ _ _ c.requires _ _ ordered.count ordered.content
    (lists a.numbers.now a.lags.now a.sizes.now) _ c.write_heads.ensures
