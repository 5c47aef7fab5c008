-- `pes_fields::before_extension` meets its contract: each flag is the part of the byte that the table has for it.
-- Assumes nothing.
use native.Mathlib.Omega.{arith}
use Prim.Native.Nat.{◌/◌, ◌%◌, ◌^◌}
use mathlib.Core.Path.{◌≡◌, ap}
use Rattle.stamps.specs.Stamps.{dts_flag}
use Rattle.stamps.proofs.StampLaws.{dts_at_most_once}
use Rattle.pes_fields.proofs.before_extension.Goals as goal

pub overflow_mul-result : goal.overflow_mul-result
overflow_mul-result c =
    let flags = c.args.flags in
    omega (arith, dts_at_most_once (flags / 64), c.dts_flag.ensures)

pub overflow_add-result : goal.overflow_add-result
overflow_add-result c =
    let flags = c.args.flags in
    omega (arith, dts_at_most_once (flags / 64), c.dts_flag.ensures)

pub overflow_add-result-2 : goal.overflow_add-result-2
overflow_add-result-2 c =
    let flags = c.args.flags in
    omega (arith, dts_at_most_once (flags / 64), c.dts_flag.ensures)

pub overflow_add-result-3 : goal.overflow_add-result-3
overflow_add-result-3 c =
    let flags = c.args.flags in
    omega (arith, dts_at_most_once (flags / 64), c.dts_flag.ensures)

pub overflow_add-result-4 : goal.overflow_add-result-4
overflow_add-result-4 c =
    let flags = c.args.flags in
    omega (arith, dts_at_most_once (flags / 64), c.dts_flag.ensures)

pub overflow_add-result-5 : goal.overflow_add-result-5
overflow_add-result-5 c =
    let flags = c.args.flags in
    omega (arith, dts_at_most_once (flags / 64), c.dts_flag.ensures)

pub overflow_add-result-6 : goal.overflow_add-result-6
overflow_add-result-6 c =
    let flags = c.args.flags in
    omega (arith, dts_at_most_once (flags / 64), c.dts_flag.ensures)

pub returns : goal.returns
returns c =
    let flags = c.args.flags in
    let two_bits : flags / 64 ≡ flags / 2 ^ 6 % 2 ^ 2 = omega arith in
    omega (arith, ap dts_flag two_bits, c.dts_flag.ensures)
