-- `records::names_in` meets its contract. The loop's invariant: the set is that of the indices passed.
-- Assumes nothing.
use mathlib.Core.Path.{◌≡◌, ◌∙◌, ap, refl}
use mathlib.Core.List.{List, map}
use native.Mathlib.Omega.{arith}
use lib.Seq.{take_all}
use Rattle.vocabulary.specs.declared.LayerIndex.{LayerIndex}
use Rattle.records.specs.Records.{plain, with_indices}
use Rattle.records.proofs.Naming.{named_step}
use Rattle.records.proofs.names_in.Goals as goal

pub loop-index-init : goal.loop-index-init
loop-index-init c = (omega arith, refl)

pub loop-index-preserved : goal.loop-index-preserved
loop-index-preserved c =
    let loop = c.loop-index in
    (omega arith, c.with_index-set.ensures ∙ named_step c.args.list.now loop.set loop.index-index (omega arith) loop.invariant.1)

pub returns : goal.returns
returns c =
    let list = c.args.list.now in
    let loop = c.loop-index in
    loop.invariant.1 ∙ ap (λ (l : List LayerIndex). with_indices 0 (map plain l)) (take_all loop.index-index list (omega arith))
