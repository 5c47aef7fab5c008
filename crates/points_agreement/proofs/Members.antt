-- Each member of a closed list is such a target: `member_complete`.
-- Assumes nothing.
use Prim.Native.Nat.{ℕ}
use mathlib.Core.Bool.{true}
use mathlib.Core.List.{List}
use mathlib.Core.Path.{◌≡◌}
use Rattle.combinators.specs.Lists.{Nth}
use Rattle.combinators.specs.Members.{member}
use Rattle.sets.proofs.Members.{member_holds, holds_member}
use Rattle.closure.specs.declared.Layers.{Layers}
use Rattle.closure.specs.Meaning.{itself, complete}
use Rattle.loop_layers.specs.Meaning as LoopClosure
use Rattle.points_meaning.specs.Telling.{PointTold, ProgramTold, told}
use Rattle.points_meaning.specs.Meaning.{InLayers, Answers}
use Rattle.points_meaning.proofs.Closed.{closed_point}
use Rattle.points_agreement.specs.Members.{CompleteTarget}

pub member_complete : {program bytes : List ℕ} {layers : Layers} {t : ProgramTold} → InLayers bytes layers → Answers program bytes (told t)
    → {k : ℕ} {point : PointTold} → Nth t.points k point → point.closed ≡ true → (i : ℕ) → member i point.streams ≡ true → CompleteTarget bytes point i
member_complete l a {point = point} n closed i m =
    let gives = closed_point l a n in
    let joined = gives.union.0 closed in
    let whole = joined.complete i m in
    record {
      set = whole.0;
      answer = LoopClosure.loop_accepted l.streams l.accepts l.layers_are (complete (whole.1.in_loop i itself) whole.1);
      inside = λ j h.
          member_holds gives.ordered gives.is_ordered j
          (holds_member gives.ordered joined.union j (record { index = i; listed = m; rested_on = (whole.1.members j).0 h }));
    }
