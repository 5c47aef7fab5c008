-- `packet_states::ends_in` meets its contract. The invariant: the array holds the numbers passed, and 0 after them.
-- Assumes nothing.
use mathlib.Core.Path.{◌≡◌, refl, ap, ◌∙◌}
use Prim.Native.Nat.{ℕ}
use lib.ListN.{length, take}
use lib.Seq.{length-take-le, take_all}
use Rattle.combinators.specs.Padding.{pad_to}
use native.Mathlib.Omega.{arith}
use Rattle.packet_states.proofs.Copies.{filled_next, filled}
use Rattle.packet_states.proofs.ends_in.Goals as goal

pub loop-i-init : goal.loop-i-init
loop-i-init c = (omega arith, refl)

pub bounds-ends-i : goal.bounds-ends-i
bounds-ends-i c = omega (arith, length-take-le 64 c.args.counts.now c.requires)

pub loop-i-preserved : goal.loop-i-preserved
loop-i-preserved c =
    let front = take 64 c.args.counts.now in
    let size : length front ≡ 64 = length-take-le 64 c.args.counts.now c.requires in
    let loop = c.loop-i in
    (omega arith, rw loop.invariant.1 (filled_next 64 front loop.i (omega arith) (omega arith)))

pub returns : goal.returns
returns c =
    let front = take 64 c.args.counts.now in
    let size : length front ≡ 64 = length-take-le 64 c.args.counts.now c.requires in
    let loop = c.loop-i in
    let all : loop.i ≡ 64 = omega arith in
    loop.invariant.1 ∙ ap (λ (n : ℕ). pad_to 64 0 (take n front)) all ∙ filled 64 front (omega arith) ∙ take_all 64 front (omega arith)
