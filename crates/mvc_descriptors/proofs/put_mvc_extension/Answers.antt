-- `put_mvc_extension` meets its contract: the head and the table, one after the other.
-- Assumes nothing.
use Rattle.buffers.proofs.Laws.{laid_then, laid_as}
use Rattle.syntax.proofs.Laws.{fits_fit}
use Rattle.mvc_extension.specs.MvcExtension.{mvc_extension_descriptor, mvc_extension_fields}
use Rattle.mvc_descriptors.proofs.put_mvc_extension.Goals as goal

pub mvc_extension_payload-payload-requires : goal.mvc_extension_payload-payload-requires
mvc_extension_payload-payload-requires c =
    let x = c.args.extension in
    fits_fit mvc_extension_descriptor (mvc_extension_fields x) c.requires

pub returns : goal.returns
returns c =
    laid_then (laid_as c.descriptor_head-head.ensures c.put-next.ensures)
    (laid_as c.mvc_extension_payload-payload.ensures c.put.ensures)
