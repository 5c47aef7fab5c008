-- `hierarchy_fits` meets its contract: a flag always fits, and each other value is tested.
-- Assumes nothing.
use mathlib.Core.Bool.{and-true, and_assoc}
use Rattle.descriptor_heads.proofs.Bits.{bit_fits}
use Rattle.hierarchy.proofs.hierarchy_fits.Goals as goal

pub returns : goal.returns
returns c = simp (bit_fits, and-true, and_assoc)
