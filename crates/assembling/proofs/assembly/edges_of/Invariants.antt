-- `assembling::assembly::edges_of` meets its contract. The invariant: the edges among the pairs so far are gathered. The measure is the number of
-- pairs left. Assumes nothing.
use Prim.Native.Nat.{◌-◌}
use Rattle.combinators.specs.Gathering.{Gathered}
use Rattle.assembling.specs.Assemblies.{is_edge, most_edges}
use Rattle.assembling.proofs.assembly.edges_of.Given as goal

abbrev pub invariant-loop-edge : goal.invariant-loop-edge
invariant-loop-edge l =
    Gathered (is_edge l.layers l.closure) 4096 most_edges l.edge l.count l.list

abbrev pub decreases-loop-edge : goal.decreases-loop-edge
decreases-loop-edge l =
    4096 - l.edge
