-- `put_references` meets its contract. The invariant: the references passed are laid in, after the empty text at the start.
-- Assumes nothing.
use Prim.Native.Nat.{◌≤◌}
use lib.ListN.{length, take}
use Rattle.combinators.specs.Lists.{gather}
use Rattle.buffers.specs.Buffers.{Laid}
use Rattle.point_fields.specs.Fields.{reference_bytes}
use Rattle.point_bytes.proofs.put_references.Given as goal

abbrev pub invariant-loop-reference : goal.invariant-loop-reference
invariant-loop-reference l = (l.reference-index ≤ length l.references) × Laid l.initial.out l.initial.place (gather reference_bytes (take l.reference-index l.references)) l.place l.out
