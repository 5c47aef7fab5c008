-- `mvc_extension_fits` meets its contract: a flag and a rate always fit, and each other value is tested.
-- Assumes nothing.
use Prim.Native.Nat.{◌<◌}
use mathlib.Core.Bool.{and-true, and_assoc}
use native.Mathlib.Omega.{arith}
use borrow.Author.Tests.{lt-ltb}
use Rattle.descriptor_heads.proofs.Bits.{bit_fits}
use Rattle.mvc_extension.proofs.mvc_extension_fits.Goals as goal

pub returns : goal.returns
returns c =
    let x = c.args.extension in
    let average : x.average_bit_rate < 65536 = omega arith in
    let maximum : x.maximum_bitrate < 65536 = omega arith in
    simp (lt-ltb x.average_bit_rate 65536 average, lt-ltb x.maximum_bitrate 65536 maximum, bit_fits, and-true, and_assoc)
