-- `closure::rested_on` meets its contract. The invariant: what is left of the scan, from the set as it is, gives what the target rests on.
-- Each turn is a step of the definition (Scan). The measure is the number of indices left. Assumes nothing.
use Prim.Native.Nat.{◌<◌}
use mathlib.Core.Path.{sym, ◌∙◌}
use native.Mathlib.Omega.{arith}
use Rattle.closure.proofs.Scan.{start, end, at_member, at_other}
use Rattle.closure.proofs.rested_on.Goals as goal

pub loop-left-init : goal.loop-left-init
loop-left-init c = (omega arith, start c.args.layers c.args.target c.requires)

pub loop-left-preserved-then-member : goal.loop-left-preserved-then-member
loop-left-preserved-then-member c =
    let at = c.loop-left in
    let some_left : 0 < at.left = omega arith in (
      omega arith,
      at_member _ at.set at.left some_left _ (omega arith)
          (sym c.member.ensures ∙ c.if-member.true)
          c.named-set.ensures
          ∙ at.invariant.1,
    )

pub loop-left-preserved : goal.loop-left-preserved
loop-left-preserved c =
    let at = c.loop-left in
    let some_left : 0 < at.left = omega arith in
    (omega arith, at_other _ at.set at.left some_left (sym c.member.ensures ∙ c.if-member.false) ∙ at.invariant.1)

pub returns : goal.returns
returns c = sym (end _ _ _ c.loop-left-test.false) ∙ c.loop-left.invariant.1
