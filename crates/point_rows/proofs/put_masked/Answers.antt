-- `put_masked` meets its contract. The invariant: the first i of them are laid in. Assumes nothing.
use Prim.Native.Nat.{ℕ, ◌+◌, ◌%◌, ◌<◌}
use mathlib.Core.List.{List}
use mathlib.Core.Path.{refl, ap, ◌∙◌}
use native.Mathlib.Omega.{arith}
use lib.ListN.{length, set, get_or, length-set}
use Rattle.point_rows.proofs.Laying.{masked_more, masked_whole}
use Rattle.point_rows.proofs.put_masked.Goals as goal

pub loop-i-init : goal.loop-i-init
loop-i-init c = (omega arith, omega arith, refl)

pub loop-i-preserved : goal.loop-i-preserved
loop-i-preserved c =
    let a = c.args in
    let here = c.loop-i in
    let left : here.i < length a.bytes.now = omega arith in (
      omega arith,
      simp length-set (omega arith),
      ap (λ (l : List ℕ). set l (a.at + here.i) (get_or a.bytes.now here.i 0 % 128)) here.invariant.2
          ∙ masked_more a.out.now a.at a.bytes.now here.i left,
    )

pub returns : goal.returns
returns c =
    let a = c.args in
    let here = c.loop-i in
    masked_whole a.out.now a.at a.bytes.now here.out here.i (omega arith) (omega arith) here.invariant.2
