-- `put_hierarchy` meets its contract: the head and the table, one after the other.
-- Assumes nothing.
use Rattle.buffers.proofs.Laws.{laid_then, laid_as}
use Rattle.hierarchy.proofs.Widths.{hierarchy_fit}
use Rattle.hierarchy.proofs.put_hierarchy.Goals as goal

pub hierarchy_payload-payload-requires : goal.hierarchy_payload-payload-requires
hierarchy_payload-payload-requires c = hierarchy_fit c.args.hierarchy c.requires

pub returns : goal.returns
returns c =
    laid_then (laid_as c.descriptor_head-head.ensures c.put-next.ensures)
    (laid_as c.hierarchy_payload-payload.ensures c.put.ensures)
