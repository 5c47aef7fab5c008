-- `packet_states::put_ends` meets its contract. The invariant: the first i numbers are stored. Assumes nothing.
use Prim.Native.Nat.{ℕ, ◌<◌}
use mathlib.Core.List.{List}
use mathlib.Core.Path.{refl, ap, ◌∙◌}
use native.Mathlib.Omega.{arith}
use lib.ListN.{length, set, get_or, length-set}
use Rattle.packet_states.proofs.Copies.{front_next, front_all}
use Rattle.packet_states.proofs.put_ends.Goals as goal

pub loop-i-init : goal.loop-i-init
loop-i-init c = (omega arith, omega arith, refl)

pub loop-i-preserved : goal.loop-i-preserved
loop-i-preserved c =
    let a = c.args in
    let here = c.loop-i in
    let left : here.i < length a.ends.now = omega arith in (
      omega arith,
      simp length-set (omega arith),
      ap (λ (l : List ℕ). set l here.i (get_or a.ends.now here.i 0)) here.invariant.2 ∙ front_next a.counts.now a.ends.now here.i left,
    )

pub returns : goal.returns
returns c =
    let a = c.args in
    let here = c.loop-i in
    here.invariant.2 ∙ front_all a.counts.now a.ends.now here.i (omega arith)
