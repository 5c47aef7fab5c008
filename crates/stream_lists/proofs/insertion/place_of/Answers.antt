-- `stream_lists::insertion::place_of` meets its contract (Placed has the turns). Assumes nothing.
use mathlib.Core.Path.{◌≡◌, sym, ◌∙◌}
use native.Mathlib.Nat.{zero-add}
use native.Mathlib.Omega.{arith}
use lib.ListN.{length, take}
use lib.Seq.{length-take-le, get_or-take}
use Rattle.stream_lists.specs.Insertion.{place_of}
use Rattle.stream_lists.proofs.Placed.{place_next, place_here, place_none}
use Rattle.stream_lists.proofs.insertion.place_of.Goals as goal

pub loop-at-init : goal.loop-at-init
loop-at-init c = (omega arith, sym (zero-add (place_of c.args.index (take c.args.count c.args.members.now))))

pub returns-then-members-at : goal.returns-then-members-at
returns-then-members-at c =
    let a = c.args in
    let at = c.loop-at in
    let long : length (take a.count a.members.now) ≡ a.count = length-take-le a.count a.members.now (omega arith) in
    place_here a.index at.at (take a.count a.members.now) (omega arith) at.invariant.1
    (get_or-take a.count a.members.now at.at 0 (omega arith) ∙ c.if-members-at.true)

pub loop-at-preserved : goal.loop-at-preserved
loop-at-preserved c =
    let a = c.args in
    let at = c.loop-at in
    let long : length (take a.count a.members.now) ≡ a.count = length-take-le a.count a.members.now (omega arith) in (
      omega arith,
      place_next a.index at.at (take a.count a.members.now) (omega arith) at.invariant.1
          (λ e. c.if-members-at.false (sym (get_or-take a.count a.members.now at.at 0 (omega arith)) ∙ e)),
    )

pub returns : goal.returns
returns c =
    let a = c.args in
    let at = c.loop-at in
    let long : length (take a.count a.members.now) ≡ a.count = length-take-le a.count a.members.now (omega arith) in
    let all : a.count ≡ at.at = omega arith in
    all ∙ place_none a.index at.at (take a.count a.members.now) (omega arith) at.invariant.1
