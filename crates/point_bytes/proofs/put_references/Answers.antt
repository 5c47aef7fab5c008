-- `put_references` meets its contract. The invariant: the references passed are laid in, after the empty text at the start.
-- Assumes nothing.
use mathlib.Core.Path.{◌∙◌, ap}
use lib.ListN.{length}
use lib.Seq.{take_all}
use Rattle.combinators.specs.Lists.{any, gather, any_none}
use Rattle.buffers.proofs.Laws.{laid_as, laid_length}
use Rattle.buffers.proofs.Pieces.{pieces_start, pieces_next, pieces_end}
use Rattle.point_fields.specs.Fields.{reference_bytes, reference_too_wide}
use native.Mathlib.Omega.{arith}
use Rattle.point_bytes.proofs.put_references.Goals as goal

pub loop-reference-init : goal.loop-reference-init
loop-reference-init c = (omega arith, pieces_start c.args.references.now reference_bytes c.put-place.ensures)

pub reference_byte-byte-requires : goal.reference_byte-byte-requires
reference_byte-byte-requires c = let a = c.args in any_none a.references.now 0 reference_too_wide (length a.references.now) c.loop-reference.reference-index (omega arith) (omega arith) (ap (any reference_too_wide) (take_all (length a.references.now) a.references.now (omega arith)) ∙ c.requires)

pub loop-reference-preserved : goal.loop-reference-preserved
loop-reference-preserved c = (omega arith, pieces_next c.args.references.now reference_bytes c.loop-reference.reference-index 0 (omega arith) c.loop-reference.invariant.1 (laid_as c.reference_byte-byte.ensures c.put-place-in-loop-reference.ensures))

pub returns : goal.returns
returns c = let a = c.args in laid_as (ap (gather reference_bytes) (take_all (length a.references.now) a.references.now (omega arith))) (pieces_end a.references.now reference_bytes c.loop-reference.reference-index (length a.references.now) (omega arith) c.put-place.ensures c.loop-reference.invariant.1)

pub shape_of-out : goal.shape_of-out
shape_of-out c = laid_length (returns c)
