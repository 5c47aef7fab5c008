-- `mvc_extension_payload` meets its contract: the bytes of values that fit.
-- Assumes nothing.
use native.Mathlib.Omega.{arith}
use Rattle.syntax.proofs.Equations.{bounds}
use Rattle.descriptor_heads.proofs.Bits.{bit_is}
use Rattle.mvc_extension.proofs.Bytes.{mvc_extension_written}
use Rattle.mvc_extension.proofs.mvc_extension_payload.Goals as goal

pub overflow_cast-result-5 : goal.overflow_cast-result-5
overflow_cast-result-5 c = let b = bounds c.requires in omega (arith, bit_is c.args.extension.no_sei_nal_unit_present c.from-no_sei.ensures, bit_is c.args.extension.no_prefix_nal_unit_present c.from-no_prefix.ensures)

pub overflow_cast-result-6 : goal.overflow_cast-result-6
overflow_cast-result-6 c = let b = bounds c.requires in omega (arith, bit_is c.args.extension.no_sei_nal_unit_present c.from-no_sei.ensures, bit_is c.args.extension.no_prefix_nal_unit_present c.from-no_prefix.ensures)

pub overflow_mul-result-2 : goal.overflow_mul-result-2
overflow_mul-result-2 c = let b = bounds c.requires in omega (arith, bit_is c.args.extension.no_sei_nal_unit_present c.from-no_sei.ensures, bit_is c.args.extension.no_prefix_nal_unit_present c.from-no_prefix.ensures)

pub overflow_mul-result-3 : goal.overflow_mul-result-3
overflow_mul-result-3 c = let b = bounds c.requires in omega (arith, bit_is c.args.extension.no_sei_nal_unit_present c.from-no_sei.ensures, bit_is c.args.extension.no_prefix_nal_unit_present c.from-no_prefix.ensures)

pub overflow_add-result-3 : goal.overflow_add-result-3
overflow_add-result-3 c = let b = bounds c.requires in omega (arith, bit_is c.args.extension.no_sei_nal_unit_present c.from-no_sei.ensures, bit_is c.args.extension.no_prefix_nal_unit_present c.from-no_prefix.ensures)

pub overflow_mul-result-4 : goal.overflow_mul-result-4
overflow_mul-result-4 c = let b = bounds c.requires in omega (arith, bit_is c.args.extension.no_sei_nal_unit_present c.from-no_sei.ensures, bit_is c.args.extension.no_prefix_nal_unit_present c.from-no_prefix.ensures)

pub overflow_add-result-4 : goal.overflow_add-result-4
overflow_add-result-4 c = let b = bounds c.requires in omega (arith, bit_is c.args.extension.no_sei_nal_unit_present c.from-no_sei.ensures, bit_is c.args.extension.no_prefix_nal_unit_present c.from-no_prefix.ensures)

pub overflow_add-result-5 : goal.overflow_add-result-5
overflow_add-result-5 c = let b = bounds c.requires in omega (arith, bit_is c.args.extension.no_sei_nal_unit_present c.from-no_sei.ensures, bit_is c.args.extension.no_prefix_nal_unit_present c.from-no_prefix.ensures)

pub returns : goal.returns
returns c =
    rw (bit_is c.args.extension.no_sei_nal_unit_present c.from-no_sei.ensures, bit_is c.args.extension.no_prefix_nal_unit_present c.from-no_prefix.ensures) (mvc_extension_written c.args.extension c.requires)
