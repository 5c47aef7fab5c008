-- `put_whole` meets its contract. The invariant: the first i elements are laid in. Assumes nothing.
use Prim.Native.Nat.{◌+◌}
use mathlib.Core.List.{List}
use mathlib.Core.Path.{ap₂, ◌∙◌}
use lib.ListN.{set}
use native.Mathlib.Omega.{arith}
use Rattle.buffers.proofs.Laws.{one_more, laid_whole}
use Rattle.one_by_one.proofs.put_whole.Goals as goal

pub loop-i-preserved : goal.loop-i-preserved
loop-i-preserved g c =
    let a = c.args in
    let here = c.loop-i in
    ap₂ (λ (l : List g.row.T.Denot) (x : g.row.T.Denot). set l (a.at + here.i) x) here.invariant c.index-list-i.is
    ∙ one_more a.out.now a.at a.list.now here.i c.index-list-i.result c.loop-i-test.true

pub returns : goal.returns
returns g c =
    let a = c.args in
    let here = c.loop-i in
    laid_whole a.out.now a.at a.list.now here.out here.i (omega arith) (omega arith) (omega arith) here.invariant
