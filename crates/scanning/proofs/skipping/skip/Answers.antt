-- `scanning::skipping::skip` meets its contract. The invariant: all packets so far are passed over. The measure is the number of packets left.
-- Assumes nothing.
use native.Mathlib.Omega.{arith}
use Rattle.scanning.proofs.Looking.{passes_none, passes_then}
use Rattle.scanning.proofs.skipping.skip.Goals as goal

pub loop-number-init : goal.loop-number-init
loop-number-init c =
    let a = c.args in
    passes_none a.table.now a.kept.now a.bytes.now a.ends.now a.from a.packets c.requires.2 c.requires.0

pub min-until-requires : goal.min-until-requires
min-until-requires c = tt

pub pass_each-next-requires : goal.pass_each-next-requires
pass_each-next-requires c = (omega (arith, c.min-until.ensures), omega (arith, c.min-until.ensures, c.requires.1), c.loop-number.invariant.within)

pub returns-then-next-until : goal.returns-then-next-until
returns-then-next-until c =
    let a = c.args in
    passes_then a.table.now a.kept.now a.bytes.now a.ends.now a.from a.packets c.loop-number.invariant c.pass_each-next.ensures (omega (arith, c.min-until.ensures))

pub pass_run-number-requires : goal.pass_run-number-requires
pass_run-number-requires c =
    (omega (arith, c.min-until.ensures, c.pass_each-next.ensures.onward), omega (arith, c.min-until.ensures, c.pass_each-next.ensures.inside), c.requires.1, c.pass_each-next.ensures.within)

pub loop-number-smaller : goal.loop-number-smaller
loop-number-smaller c = omega (arith, c.min-until.ensures, c.pass_each-next.ensures.onward, c.pass_run-number.ensures.onward)

pub loop-number-preserved : goal.loop-number-preserved
loop-number-preserved c =
    let a = c.args in
    passes_then a.table.now a.kept.now a.bytes.now a.ends.now a.from a.packets (passes_then a.table.now a.kept.now a.bytes.now a.ends.now a.from a.packets c.loop-number.invariant c.pass_each-next.ensures (omega (arith, c.min-until.ensures))) c.pass_run-number.ensures (omega arith)

pub returns : goal.returns
returns c = c.loop-number.invariant
