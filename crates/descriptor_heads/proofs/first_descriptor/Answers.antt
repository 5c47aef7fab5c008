-- `first_descriptor` meets its contract: at bytes, the head's two values are its two bytes.
-- Assumes nothing.
use native.Mathlib.Omega.{arith}
use Rattle.descriptor_heads.proofs.Heads.{framed_short, framed_none, framed_some}
use Rattle.descriptor_heads.proofs.first_descriptor.Goals as goal

pub returns-then-left-lt2 : goal.returns-then-left-lt2
returns-then-left-lt2 c = framed_short c.args.left.now (omega arith)

pub returns-then-left-length : goal.returns-then-left-length
returns-then-left-length c = framed_none c.args.left.now (λ i. omega (arith, c.shared_slice_known-1.given i)) (omega arith)

pub returns : goal.returns
returns c = rw c.from-length.ensures (framed_some c.args.left.now (λ i. omega (arith, c.shared_slice_known-2-1.given i)) (omega arith))
