-- `stream_lists::insertion::insert` meets its contract (Opened has the turns). The measure is the place reached. Assumes nothing.
use Prim.Native.Nat.{ℕ}
use mathlib.Core.List.{List, [], ◌∷◌}
use mathlib.Core.Path.{◌≡◌, ap, ◌∙◌}
use native.Mathlib.Omega.{arith}
use lib.ListN.{get_or, set}
use Rattle.stream_lists.specs.Insertion.{opened}
use Rattle.stream_lists.proofs.Opened.{opened_start, opened_turn, opened_end}
use Rattle.stream_lists.proofs.insertion.insert.Goals as goal

pub loop-at-init : goal.loop-at-init
loop-at-init c = (c.requires.0, omega arith, opened_start c.args.members.now c.args.count (omega arith))

pub loop-at-preserved : goal.loop-at-preserved
loop-at-preserved c =
    let a = c.args in
    let at = c.loop-at in (
      omega arith,
      omega arith,
      opened_turn a.members.now a.count at.at at.members (omega arith) (omega arith) (omega arith) at.invariant.2,
    )

pub returns : goal.returns
returns c =
    let a = c.args in
    let at = c.loop-at in
    let same : at.at ≡ a.place = omega arith in
    ap (λ (l : List ℕ). set l a.place a.index)
    (at.invariant.2 ∙ ap (λ (n : ℕ). opened a.members.now a.count n (get_or a.members.now n 0 ∷ [])) same)
    ∙ opened_end a.members.now a.count a.place a.index (get_or a.members.now a.place 0) (omega arith)
