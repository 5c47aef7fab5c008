-- `packet_states::ends_past_one` meets its contract. The invariant: none of the numbers passed is past 1.
-- Assumes nothing.
use Prim.Native.Nat.{ℕ}
use mathlib.Core.Bool.{false, ◌||◌}
use mathlib.Core.List.{List}
use mathlib.Core.Path.{◌≡◌, refl, sym, ap, subst, ◌∙◌, ap₂}
use lib.ListN.{length, take}
use lib.Seq.{length-take-le, take_all}
use Rattle.combinators.specs.Lists.{any, any_next, any_found}
use Rattle.packet_states.specs.States.{past_one}
use borrow.Author.Tests.{lt-ltb, le-ltb}
use native.Mathlib.Omega.{arith}
use Rattle.packet_states.proofs.ends_past_one.Goals as goal

pub loop-count-init : goal.loop-count-init
loop-count-init c = (omega arith, refl)

pub returns-then-count-gt1 : goal.returns-then-count-gt1
returns-then-count-gt1 c =
    let front = take 64 c.args.counts.now in
    let size : length front ≡ 64 = length-take-le 64 c.args.counts.now c.requires in
    let i = c.loop-count.count-index in
    sym (ap (any past_one) (sym (take_all 64 front (omega arith))) ∙ any_found front 0 past_one 64 i (omega arith) (omega arith) (lt-ltb 1 _ c.if-count-gt1.true))

pub loop-count-preserved : goal.loop-count-preserved
loop-count-preserved c =
    let front = take 64 c.args.counts.now in
    let size : length front ≡ 64 = length-take-le 64 c.args.counts.now c.requires in
    let loop = c.loop-count in
    (omega arith, any_next front 0 past_one loop.count-index (omega arith) ∙ ap₂ ◌||◌ loop.invariant.1 (le-ltb 1 _ c.if-count-gt1.false))

pub returns : goal.returns
returns c =
    let front = take 64 c.args.counts.now in
    let size : length front ≡ 64 = length-take-le 64 c.args.counts.now c.requires in
    let loop = c.loop-count in
    sym (ap (any past_one) (sym (take_all loop.count-index front (omega arith))) ∙ loop.invariant.1)
