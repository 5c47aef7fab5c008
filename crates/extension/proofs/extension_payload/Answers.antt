-- `extension_payload` meets its contract: the bytes of values that fit.
-- Assumes nothing.
use native.Mathlib.Omega.{arith}
use Rattle.syntax.proofs.Equations.{bounds}
use Rattle.descriptor_heads.proofs.Bits.{bit_is}
use Rattle.extension.proofs.Payloads.{extension_written}
use Rattle.extension.proofs.extension_payload.Goals as goal

pub overflow_mul-result : goal.overflow_mul-result
overflow_mul-result c = let b = bounds c.requires in omega (arith, bit_is c.args.extension.tref_present_flag c.from-tref.ensures)

pub overflow_add-result : goal.overflow_add-result
overflow_add-result c = let b = bounds c.requires in omega (arith, bit_is c.args.extension.tref_present_flag c.from-tref.ensures)

pub overflow_mul-result-3 : goal.overflow_mul-result-3
overflow_mul-result-3 c = let b = bounds c.requires in omega (arith, bit_is c.args.extension.tref_present_flag c.from-tref.ensures)

pub overflow_add-result-2 : goal.overflow_add-result-2
overflow_add-result-2 c = let b = bounds c.requires in omega (arith, bit_is c.args.extension.tref_present_flag c.from-tref.ensures)

pub overflow_add-result-3 : goal.overflow_add-result-3
overflow_add-result-3 c = let b = bounds c.requires in omega (arith, bit_is c.args.extension.tref_present_flag c.from-tref.ensures)

pub overflow_add-result-4 : goal.overflow_add-result-4
overflow_add-result-4 c = let b = bounds c.requires in omega (arith, bit_is c.args.extension.tref_present_flag c.from-tref.ensures)

pub overflow_add-result-5 : goal.overflow_add-result-5
overflow_add-result-5 c = let b = bounds c.requires in omega (arith, bit_is c.args.extension.tref_present_flag c.from-tref.ensures)

pub returns : goal.returns
returns c = rw (bit_is c.args.extension.tref_present_flag c.from-tref.ensures) (extension_written c.args.extension c.requires)
