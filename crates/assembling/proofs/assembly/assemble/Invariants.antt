-- `assembling::assembly::assemble` meets its contract. The invariant: what is left of the edges, from the rows as they are, gives the assembly.
-- Each turn is a step of the definition (Assembling). Assumes nothing.
use Prim.Native.Nat.{◌≤◌}
use mathlib.Core.Path.{◌≡◌}
use lib.ListN.{length, drop}
use Rattle.rows.specs.Table.{table}
use Rattle.assembling.specs.Assemblies.{assembled_from, assembled}
use Rattle.assembling.proofs.assembly.assemble.Given as goal

abbrev pub invariant-loop-pair : goal.invariant-loop-pair
invariant-loop-pair l =
    (l.pair-index ≤ length l.edges)
    × (assembled_from (table l.indices l.decodings l.matches) (drop l.pair-index l.edges) l.rows ≡ assembled (table l.indices l.decodings l.matches) l.edges l.top l.head)
