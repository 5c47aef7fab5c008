-- `hierarchy_payload` meets its contract: the bytes of values that fit.
-- Assumes nothing.
use native.Mathlib.Omega.{arith}
use Rattle.syntax.proofs.Equations.{bounds}
use Rattle.descriptor_heads.proofs.Bits.{bit_is}
use Rattle.hierarchy.proofs.Payloads.{hierarchy_written}
use Rattle.hierarchy.proofs.hierarchy_payload.Goals as goal

pub overflow_mul-result : goal.overflow_mul-result
overflow_mul-result c = let b = bounds c.requires in omega (arith, bit_is c.args.hierarchy.no_view c.from-no_view.ensures, bit_is c.args.hierarchy.no_temporal c.from-no_temporal.ensures, bit_is c.args.hierarchy.no_spatial c.from-no_spatial.ensures, bit_is c.args.hierarchy.no_quality c.from-no_quality.ensures, bit_is c.args.hierarchy.tref_present_flag c.from-tref.ensures)

pub overflow_mul-result-2 : goal.overflow_mul-result-2
overflow_mul-result-2 c = let b = bounds c.requires in omega (arith, bit_is c.args.hierarchy.no_view c.from-no_view.ensures, bit_is c.args.hierarchy.no_temporal c.from-no_temporal.ensures, bit_is c.args.hierarchy.no_spatial c.from-no_spatial.ensures, bit_is c.args.hierarchy.no_quality c.from-no_quality.ensures, bit_is c.args.hierarchy.tref_present_flag c.from-tref.ensures)

pub overflow_add-result : goal.overflow_add-result
overflow_add-result c = let b = bounds c.requires in omega (arith, bit_is c.args.hierarchy.no_view c.from-no_view.ensures, bit_is c.args.hierarchy.no_temporal c.from-no_temporal.ensures, bit_is c.args.hierarchy.no_spatial c.from-no_spatial.ensures, bit_is c.args.hierarchy.no_quality c.from-no_quality.ensures, bit_is c.args.hierarchy.tref_present_flag c.from-tref.ensures)

pub overflow_mul-result-3 : goal.overflow_mul-result-3
overflow_mul-result-3 c = let b = bounds c.requires in omega (arith, bit_is c.args.hierarchy.no_view c.from-no_view.ensures, bit_is c.args.hierarchy.no_temporal c.from-no_temporal.ensures, bit_is c.args.hierarchy.no_spatial c.from-no_spatial.ensures, bit_is c.args.hierarchy.no_quality c.from-no_quality.ensures, bit_is c.args.hierarchy.tref_present_flag c.from-tref.ensures)

pub overflow_add-result-2 : goal.overflow_add-result-2
overflow_add-result-2 c = let b = bounds c.requires in omega (arith, bit_is c.args.hierarchy.no_view c.from-no_view.ensures, bit_is c.args.hierarchy.no_temporal c.from-no_temporal.ensures, bit_is c.args.hierarchy.no_spatial c.from-no_spatial.ensures, bit_is c.args.hierarchy.no_quality c.from-no_quality.ensures, bit_is c.args.hierarchy.tref_present_flag c.from-tref.ensures)

pub overflow_mul-result-4 : goal.overflow_mul-result-4
overflow_mul-result-4 c = let b = bounds c.requires in omega (arith, bit_is c.args.hierarchy.no_view c.from-no_view.ensures, bit_is c.args.hierarchy.no_temporal c.from-no_temporal.ensures, bit_is c.args.hierarchy.no_spatial c.from-no_spatial.ensures, bit_is c.args.hierarchy.no_quality c.from-no_quality.ensures, bit_is c.args.hierarchy.tref_present_flag c.from-tref.ensures)

pub overflow_add-result-3 : goal.overflow_add-result-3
overflow_add-result-3 c = let b = bounds c.requires in omega (arith, bit_is c.args.hierarchy.no_view c.from-no_view.ensures, bit_is c.args.hierarchy.no_temporal c.from-no_temporal.ensures, bit_is c.args.hierarchy.no_spatial c.from-no_spatial.ensures, bit_is c.args.hierarchy.no_quality c.from-no_quality.ensures, bit_is c.args.hierarchy.tref_present_flag c.from-tref.ensures)

pub overflow_add-result-4 : goal.overflow_add-result-4
overflow_add-result-4 c = let b = bounds c.requires in omega (arith, bit_is c.args.hierarchy.no_view c.from-no_view.ensures, bit_is c.args.hierarchy.no_temporal c.from-no_temporal.ensures, bit_is c.args.hierarchy.no_spatial c.from-no_spatial.ensures, bit_is c.args.hierarchy.no_quality c.from-no_quality.ensures, bit_is c.args.hierarchy.tref_present_flag c.from-tref.ensures)

pub overflow_add-result-5 : goal.overflow_add-result-5
overflow_add-result-5 c = let b = bounds c.requires in omega (arith, bit_is c.args.hierarchy.no_view c.from-no_view.ensures, bit_is c.args.hierarchy.no_temporal c.from-no_temporal.ensures, bit_is c.args.hierarchy.no_spatial c.from-no_spatial.ensures, bit_is c.args.hierarchy.no_quality c.from-no_quality.ensures, bit_is c.args.hierarchy.tref_present_flag c.from-tref.ensures)

pub overflow_mul-result-5 : goal.overflow_mul-result-5
overflow_mul-result-5 c = let b = bounds c.requires in omega (arith, bit_is c.args.hierarchy.no_view c.from-no_view.ensures, bit_is c.args.hierarchy.no_temporal c.from-no_temporal.ensures, bit_is c.args.hierarchy.no_spatial c.from-no_spatial.ensures, bit_is c.args.hierarchy.no_quality c.from-no_quality.ensures, bit_is c.args.hierarchy.tref_present_flag c.from-tref.ensures)

pub overflow_add-result-6 : goal.overflow_add-result-6
overflow_add-result-6 c = let b = bounds c.requires in omega (arith, bit_is c.args.hierarchy.no_view c.from-no_view.ensures, bit_is c.args.hierarchy.no_temporal c.from-no_temporal.ensures, bit_is c.args.hierarchy.no_spatial c.from-no_spatial.ensures, bit_is c.args.hierarchy.no_quality c.from-no_quality.ensures, bit_is c.args.hierarchy.tref_present_flag c.from-tref.ensures)

pub overflow_add-result-7 : goal.overflow_add-result-7
overflow_add-result-7 c = let b = bounds c.requires in omega (arith, bit_is c.args.hierarchy.no_view c.from-no_view.ensures, bit_is c.args.hierarchy.no_temporal c.from-no_temporal.ensures, bit_is c.args.hierarchy.no_spatial c.from-no_spatial.ensures, bit_is c.args.hierarchy.no_quality c.from-no_quality.ensures, bit_is c.args.hierarchy.tref_present_flag c.from-tref.ensures)

pub overflow_add-result-8 : goal.overflow_add-result-8
overflow_add-result-8 c = let b = bounds c.requires in omega (arith, bit_is c.args.hierarchy.no_view c.from-no_view.ensures, bit_is c.args.hierarchy.no_temporal c.from-no_temporal.ensures, bit_is c.args.hierarchy.no_spatial c.from-no_spatial.ensures, bit_is c.args.hierarchy.no_quality c.from-no_quality.ensures, bit_is c.args.hierarchy.tref_present_flag c.from-tref.ensures)

pub returns : goal.returns
returns c =
    let h = c.args.hierarchy in
    rw (bit_is c.args.hierarchy.no_view c.from-no_view.ensures, bit_is c.args.hierarchy.no_temporal c.from-no_temporal.ensures, bit_is c.args.hierarchy.no_spatial c.from-no_spatial.ensures, bit_is c.args.hierarchy.no_quality c.from-no_quality.ensures, bit_is c.args.hierarchy.tref_present_flag c.from-tref.ensures) (hierarchy_written h c.requires)
