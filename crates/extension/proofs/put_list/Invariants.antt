-- `put_list` meets its contract. The invariant: the layers passed are laid in, after the empty text at the start.
-- Assumes nothing.
use Rattle.buffers.specs.Buffers.{Laid}
use Prim.Native.Nat.{◌≤◌}
use lib.ListN.{length, take}
use Rattle.combinators.specs.Lists.{gather}
use Rattle.syntax.specs.Filled.{bytes_in}
use Rattle.extension.specs.Extension.{layer_table}
use Rattle.extension.proofs.put_list.Given as goal

abbrev pub invariant-loop-index : goal.invariant-loop-index
invariant-loop-index l =
    (l.index-index ≤ length l.list)
    × Laid l.initial.out l.initial.place (gather (λ x. bytes_in (layer_table x)) (take l.index-index l.list)) l.place l.out
