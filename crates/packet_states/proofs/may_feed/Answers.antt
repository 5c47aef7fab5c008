-- `packet_states::may_feed` meets its contract: the lists are a state, and have room for so many packets. Assumes nothing.
use Prim.Native.Nat.{◌-◌}
use mathlib.Core.Path.{◌≡◌, sym, ap, ◌∙◌}
use mathlib.Core.Bool.{Bool, true, ◌&&◌}
use native.Mathlib.Omega.{arith}
use lib.Dec.{leb}
use lib.ListN.{get_or}
use Rattle.packet_states.specs.States.{is_state, most_packets}
use Rattle.packet_states.proofs.Judged.{stated}
use Rattle.packet_states.proofs.may_feed.Goals as goal

pub returns-then-not-is_state : goal.returns-then-not-is_state
returns-then-not-is_state c =
    let a = c.args in
    sym (ap (λ (t : Bool). t && leb a.size (most_packets - get_or a.counts.now 65 0)) (sym c.is_state.ensures ∙ c.if-not-is_state.true))

pub bounds-counts-65 : goal.bounds-counts-65
bounds-counts-65 c =
    let a = c.args in
    let is : is_state a.state.now a.counts.now ≡ true = sym c.is_state.ensures ∙ c.if-not-is_state.false in
    omega (arith, (stated a.state.now a.counts.now is).numbers)

pub overflow_sub-result : goal.overflow_sub-result
overflow_sub-result c =
    let a = c.args in
    let is : is_state a.state.now a.counts.now ≡ true = sym c.is_state.ensures ∙ c.if-not-is_state.false in
    (stated a.state.now a.counts.now is).countable

pub returns : goal.returns
returns c =
    let a = c.args in
    let is : is_state a.state.now a.counts.now ≡ true = sym c.is_state.ensures ∙ c.if-not-is_state.false in
    sym (ap (λ (t : Bool). t && leb a.size (most_packets - get_or a.counts.now 65 0)) is)
