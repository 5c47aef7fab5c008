-- `stream_lists::closed` meets its contract (Closing has the turns). The measure is the number of members left. Assumes nothing.
use Prim.Native.Nat.{ℕ, ◌<◌}
use mathlib.Core.Path.{sym, ◌∙◌, subst}
use native.Mathlib.Omega.{arith}
use lib.ListN.{length}
use Rattle.sets.specs.Sets.{members_of}
use Rattle.stream_lists.proofs.Closing.{Looking, looking_start, looking_less, looking_more, looking_escaped, looking_end}
use Rattle.stream_lists.proofs.closed.Goals as goal

pub loop-left-init : goal.loop-left-init
loop-left-init c = looking_start _ _ (omega arith)

pub lowest-index-requires : goal.lowest-index-requires
lowest-index-requires c = tt

pub escapes-requires : goal.escapes-requires
escapes-requires c = tt

pub returns-then-escapes : goal.returns-then-escapes
returns-then-escapes c =
    let a = c.args in
    looking_escaped a.layers a.present _ c.loop-left.invariant c.loop-left-test.true _
    c.lowest-index.ensures (sym c.escapes.ensures ∙ c.if-escapes.true)

pub rest-left-requires : goal.rest-left-requires
rest-left-requires c = tt

pub loop-left-smaller : goal.loop-left-smaller
loop-left-smaller c =
    let a = c.args in
    let at = c.loop-left in
    subst (λ (n : ℕ). length (members_of n) < length (members_of at.left)) (sym c.rest-left.ensures)
    (looking_less a.layers a.present at.left at.invariant c.loop-left-test.true _ c.lowest-index.ensures)

pub loop-left-preserved : goal.loop-left-preserved
loop-left-preserved c =
    let a = c.args in
    let at = c.loop-left in
    subst (Looking a.layers a.present) (sym c.rest-left.ensures)
    (looking_more a.layers a.present at.left at.invariant c.loop-left-test.true _ c.lowest-index.ensures
    (sym c.escapes.ensures ∙ c.if-escapes.false))

pub returns : goal.returns
returns c =
    let a = c.args in
    looking_end a.layers a.present c.loop-left.left c.loop-left.invariant c.loop-left-test.false
