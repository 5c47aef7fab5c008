-- `scanning::skipping::pass_each` meets its contract. The invariant: all packets so far are passed over.
-- Assumes nothing.
use native.Mathlib.Omega.{arith}
use Prim.Native.Nat.{ℕ}
use mathlib.Core.Bool.{true, false}
use mathlib.Core.Path.{◌≡◌, subst}
use Rattle.scanning.specs.Events.{Passes}
use Rattle.scanning.proofs.Looking.{passes_none, passes_by}
use Rattle.scanning.proofs.skipping.pass_each.Goals as goal

pub loop-number-init : goal.loop-number-init
loop-number-init c =
    let a = c.args in
    passes_none a.table.now a.kept.now a.bytes.now a.ends.now a.from a.packets c.requires.2 c.requires.0

pub pass_one-requires : goal.pass_one-requires
pass_one-requires c = (omega arith, c.loop-number.invariant.within)

pub returns-then-not-pass_one : goal.returns-then-not-pass_one
returns-then-not-pass_one c =
    let a = c.args in
    passes_by a.table.now a.kept.now a.bytes.now a.ends.now a.from a.packets c.loop-number.invariant (omega arith) false (c.if-not-pass_one.true) c.pass_one.ensures

pub loop-number-preserved : goal.loop-number-preserved
loop-number-preserved c =
    let a = c.args in
    passes_by a.table.now a.kept.now a.bytes.now a.ends.now a.from a.packets c.loop-number.invariant (omega arith) true (c.if-not-pass_one.false) c.pass_one.ensures

pub returns : goal.returns
returns c =
    let a = c.args in
    let all : c.loop-number.number ≡ a.packets = omega (arith, c.loop-number.invariant.inside) in
    subst (λ (n : ℕ). Passes a.table.now a.kept.now a.bytes.now a.ends.now a.from a.packets n c.loop-number.ends) all c.loop-number.invariant
