-- `put_extension` meets its contract: the head, the table and the list, one after the other.
-- Assumes nothing.
use Prim.Native.Nat.{ℕ}
use mathlib.Core.Path.{ap}
use mathlib.Core.List.{map}
use lib.ListN.{take}
use Rattle.buffers.proofs.Laws.{laid_then, laid_as}
use native.Mathlib.Omega.{arith}
use Rattle.combinators.specs.Lists.{gather}
use Rattle.syntax.specs.Filled.{bytes_in}
use Rattle.extension.specs.Extension.{layer_table}
use Rattle.extension.proofs.Widths.{extension_fit, layers_fit, count_small}
use Rattle.extension.proofs.put_extension.Goals as goal

pub overflow_add-extension : goal.overflow_add-extension
overflow_add-extension c = omega (arith, count_small c.args.extension c.args.embedded c.requires)

pub extension_payload-payload-requires : goal.extension_payload-payload-requires
extension_payload-payload-requires c = extension_fit c.args.extension c.args.embedded c.requires

pub put_list-requires : goal.put_list-requires
put_list-requires c = rw c.from-count.ensures (layers_fit c.args.extension c.args.embedded c.requires)

pub returns : goal.returns
returns c =
    laid_then
    (laid_then (laid_as c.descriptor_head-head.ensures c.put-place.ensures) (laid_as c.extension_payload-payload.ensures c.put-place-2.ensures))
    (laid_as (ap (λ (n : ℕ). gather bytes_in (map layer_table (take n c.args.embedded))) c.from-count.ensures) c.put_list.ensures)
