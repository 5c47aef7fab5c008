-- `joining::answer::join_ordered` meets its contract: what it lends is the index that Orderly asks for, and the marks, the sets and the edges of the frame.
-- Assumes nothing.
use Prim.Native.Nat.{◌≤◌}
use mathlib.Core.Path.{◌≡◌, sym, ◌∙◌, ap}
use native.Mathlib.Omega.{arith}
use lib.ListN.{length, take}
use lib.Seq.{length-take-le}
use Rattle.rows.specs.Table.{table}
use Rattle.assembling.specs.declared.assembly.Edges.{Edges}
use Rattle.assembling.specs.Assemblies.{edges_of}
use Rattle.heads.specs.Units.{Frame}
use Rattle.heads.proofs.Orderly.{claimable}
use Rattle.unit_lists.specs.Sequence.{lists}
use Rattle.join_answers.specs.Joining.{units_joined, room_of}
use Rattle.join_answers.specs.Steps.{framed_lists}
use Rattle.joining.proofs.Answering.{part_is, part_fits, marks_are, part_held, frame_is, joinable}
use Rattle.joining.proofs.answer.join_ordered.Goals as goal
use Rattle.joining.proofs.answer.join_ordered.Goals.{After-edges_of-edges}

-- the edges that it lends
edges_are : (c : After-edges_of-edges) → take c.edges_of-edges.result.count c.edges_of-edges.result.list ≡ edges_of c.args.layers c.args.closure
edges_are c = part_is 2016 _ _ _ (ap (λ (e : Edges). e.count) c.edges_of-edges.ensures) (ap (λ (e : Edges). e.list) c.edges_of-edges.ensures)

edges_fit : (c : After-edges_of-edges) → c.edges_of-edges.result.count ≤ length c.edges_of-edges.result.list
edges_fit c =
    part_fits 2016 _ (edges_of c.args.layers c.args.closure) _ (ap (λ (e : Edges). e.count) c.edges_of-edges.ensures) (ap (λ (e : Edges). e.list) c.edges_of-edges.ensures)

pub starts_of-starts-requires : goal.starts_of-starts-requires
starts_of-starts-requires c = c.requires.0.1.within

pub lay_order-requires : goal.lay_order-requires
lay_order-requires c = (c.requires.0.1.within, c.requires.1.for_order, c.starts_of-starts.ensures)

pub own_sets-own-requires : goal.own_sets-own-requires
own_sets-own-requires c = (c.requires.0.0, c.requires.0.1.closed_over)

pub mark_claimed-requires : goal.mark_claimed-requires
mark_claimed-requires c =
    let a = c.args in (
      claimable a.layers c.requires.0.0 a.closure (table a.indices.now a.decodings.now a.matches.now) c.requires.0.1 _ _ c.starts_of-starts.ensures
          c.lay_order.ensures.ordered,
      c.requires.1.for_claimed,
    )

pub slice_bounds-pairs-end : goal.slice_bounds-pairs-end
slice_bounds-pairs-end c = edges_fit (goal.at.slice_bounds-pairs-end c).After-edges_of-edges

pub slice_bounds-join_framed-end : goal.slice_bounds-join_framed-end
slice_bounds-join_framed-end c = sym (length-take-le _ _ (edges_fit (goal.at.slice_bounds-join_framed-end c).After-edges_of-edges))

pub slice_bounds-join_framed-end-2 : goal.slice_bounds-join_framed-end-2
slice_bounds-join_framed-end-2 c = omega (arith, c.requires.1.for_claimed, c.claimed-1.given)

pub slice_bounds-join_framed-end-3 : goal.slice_bounds-join_framed-end-3
slice_bounds-join_framed-end-3 c = sym (length-take-le _ _ (omega (arith, c.requires.1.for_claimed, c.claimed-1.given)))

pub join_framed-requires : goal.join_framed-requires
join_framed-requires c =
    let a = c.args in
    let t = table a.indices.now a.decodings.now a.matches.now in
    let fits = c.mark_claimed.ensures.as_long in (
      joinable a.layers c.requires.0.0 a.closure t c.requires.0.1 _
          (frame_is a.layers a.closure t _ _ _ (marks_are a.layers a.closure t _ _ c.mark_claimed.ensures (omega (arith, c.requires.1.for_claimed, fits))) c.own_sets-own.ensures (edges_are (goal.at.join_framed-requires c).After-edges_of-edges)),
      c.starts_of-starts.ensures,
      c.lay_order.ensures.ordered,
      record {
        for_order = omega (arith, c.requires.1.for_order, c.lay_order.ensures.as_long);
        for_keys = c.requires.1.for_keys;
        for_kept = c.requires.1.for_kept;
        for_places = c.requires.1.for_places;
        for_heads = c.requires.1.for_heads;
        for_claimed = part_held _ _ (omega (arith, c.requires.1.for_claimed, fits));
        for_used = c.requires.1.for_used;
      },
    )

pub shape_of-order : goal.shape_of-order
shape_of-order c = c.order-2-1.given ∙ c.order-1.given

pub shape_of-keys : goal.shape_of-keys
shape_of-keys c = c.keys-1.given

pub shape_of-kept : goal.shape_of-kept
shape_of-kept c = c.kept-1.given

pub shape_of-places : goal.shape_of-places
shape_of-places c = c.places-1.given

pub shape_of-heads : goal.shape_of-heads
shape_of-heads c = c.heads-1.given

pub shape_of-claimed : goal.shape_of-claimed
shape_of-claimed c = c.claimed-1.given

pub shape_of-used : goal.shape_of-used
shape_of-used c = c.used-1.given

pub shape_of-numbers : goal.shape_of-numbers
shape_of-numbers c = c.numbers-1.given

pub shape_of-lags : goal.shape_of-lags
shape_of-lags c = c.lags-1.given

pub shape_of-sizes : goal.shape_of-sizes
shape_of-sizes c = c.sizes-1.given

pub returns : goal.returns
returns c =
    let a = c.args in
    let t = table a.indices.now a.decodings.now a.matches.now in
    let before = lists a.numbers.now a.lags.now a.sizes.now in
    let fits = c.mark_claimed.ensures.as_long in
    let same = frame_is a.layers a.closure t _ _ _ (marks_are a.layers a.closure t _ _ c.mark_claimed.ensures (omega (arith, c.requires.1.for_claimed, fits))) c.own_sets-own.ensures (edges_are (goal.at.returns c).After-edges_of-edges) in record {
      answer = c.join_framed.ensures.answer ∙ ap (λ (f : Frame). units_joined t f (room_of before)) same;
      content = c.join_framed.ensures.content ∙ ap (λ (f : Frame). framed_lists t f c.join_framed.result before) same;
    }
