-- `assembling::assembly::edges_of` meets its contract. The invariant: the edges among the pairs so far are gathered. The measure is the number of
-- pairs left. Assumes nothing.
use Prim.Native.Nat.{ℕ, ◌<◌}
use mathlib.Core.Path.{◌≡◌, sym, ◌∙◌, ap₂}
use native.Mathlib.Omega.{arith}
use lib.ListN.{get_or}
use Rattle.combinators.specs.Gathering.{gathered_start, gathered_room, gathered_same, gathered_count, gathered_array}
use Rattle.combinators.proofs.Padding.{gathered_more}
use Rattle.assembling.specs.Assemblies.{is_edge, edges_of, most_edges, joins}
use Rattle.assembling.proofs.Skipping.{gathered_next, few_edges}
use Rattle.assembling.proofs.assembly.edges_of.Goals as goal
use Rattle.assembling.proofs.assembly.edges_of.Goals.{After-is_edge, Then-is_edge, then-is_edge, else-is_edge}

-- the test of the code is that of the definition
tested : (c : After-is_edge)
    → c.is_edge.result
    ≡ is_edge c.args.layers c.args.closure
    c.loop-edge.edge
tested c =
    let a = c.args in
    c.is_edge.ensures
    ∙ ap₂ (λ (u l : ℕ). joins a.closure (get_or a.layers.embedded u 0) u l) c.upper_of-upper.ensures c.lower_of.ensures

pub loop-edge-init : goal.loop-edge-init
loop-edge-init c = gathered_start _ _ _

pub offset_bounds-layers-upper : goal.offset_bounds-layers-upper
offset_bounds-layers-upper c = omega (arith, c.upper_of-upper.ensures)

pub bounds-layers-upper : goal.bounds-layers-upper
bounds-layers-upper c = omega (arith, c.upper_of-upper.ensures)

-- there is room for an edge
room : (c : Then-is_edge) → c.loop-edge.count < 2016
room c =
    let a = c.args in
    gathered_room (is_edge a.layers a.closure) 4096 2016 _ _ _ c.loop-edge.invariant c.loop-edge-test.true
    (few_edges a.layers a.closure) (sym (tested c.before) ∙ c.if-is_edge.true)

pub offset_bounds-list-count : goal.offset_bounds-list-count
offset_bounds-list-count c = omega (arith, room c)

pub bounds-list-count : goal.bounds-list-count
bounds-list-count c = omega (arith, room c)

pub overflow_add-count : goal.overflow_add-count
overflow_add-count c = omega (arith, room c)

pub loop-edge-smaller : goal.loop-edge-smaller
loop-edge-smaller c = let after = c.next_edge-edge.ensures.after in omega arith

pub loop-edge-preserved : goal.loop-edge-preserved
loop-edge-preserved c =
    let a = c.args in
    let at = c.loop-edge in
    let more = c.loop-edge-test.true in
    gathered_next a.layers a.closure at.edge _ _ _ _
    (elim c.if-is_edge.branch [
      | then-is_edge w ↦
          rw (w.list-is, w.count-is) (gathered_more (is_edge a.layers a.closure) 4096 2016 _ _ _ at.invariant more (few_edges a.layers a.closure)
          (sym (tested (goal.at.loop-edge-preserved c).After-is_edge) ∙ w.if-is_edge.true))
      | else-is_edge w ↦
          rw (w.list-is, w.count-is) (gathered_same _ 4096 2016 _ _ _ at.invariant more
          (sym (tested (goal.at.loop-edge-preserved c).After-is_edge) ∙ w.if-is_edge.false))
    ])
    c.upper_of-upper.ensures c.next_edge-edge.ensures

pub returns : goal.returns
unfolding edges_of
returns c =
    let at = c.loop-edge in
    let counted = gathered_count _ 4096 most_edges _ _ _ at.invariant c.loop-edge-test.false in
    let filled = gathered_array _ 4096 most_edges _ _ _ at.invariant c.loop-edge-test.false in cc
