-- `extension_fits` meets its contract: the flag and the 16 bits always fit, and each other value is tested.
-- Assumes nothing.
use Prim.Native.Nat.{◌<◌}
use mathlib.Core.Bool.{and-true, and_assoc}
use native.Mathlib.Omega.{arith}
use borrow.Author.Tests.{lt-ltb}
use Rattle.descriptor_heads.proofs.Bits.{bit_fits}
use Rattle.extension.proofs.extension_fits.Goals as goal

pub returns : goal.returns
returns c =
    let x = c.args.extension in
    let wide : x.dimension_bits < 65536 = omega arith in
    simp (lt-ltb x.dimension_bits 65536 wide, bit_fits, and-true, and_assoc)
