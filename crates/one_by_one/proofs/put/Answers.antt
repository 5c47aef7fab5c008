-- `put` meets its contract: as much of the list as there is room for is laid in whole. Assumes nothing.
use mathlib.Core.Path.{sym}
use lib.Seq.{length-take-le}
use native.Mathlib.Omega.{arith}
use Rattle.buffers.proofs.Laws.{laid_cut, laid_past}
use Rattle.one_by_one.proofs.put.Goals as goal

pub returns-then-out-at : goal.returns-then-out-at
returns-then-out-at c = laid_past _ _ _ c.if-out-at.true

pub slice_bounds-put_whole-end : goal.slice_bounds-put_whole-end
slice_bounds-put_whole-end c = sym (length-take-le _ c.args.bytes.now (omega arith))

pub put_whole-requires : goal.put_whole-requires
put_whole-requires c =
    omega (arith, length-take-le c.min-count.result c.args.bytes.now (omega arith))

pub returns : goal.returns
returns c = laid_cut (omega arith) c.min-count.ensures c.put_whole.ensures
