-- 17 for a summary without room: how much room the three lists have makes no difference then.
-- Assumes nothing.
use Rattle.std.specs.Prelude.{Err, Ok}
use Rattle.join_answers.specs.Answer.{joined_units, Joined}
use Prim.Native.Nat.{ℕ, ◌≤◌, ◌<◌}
use mathlib.Core.Path.{◌≡◌, refl, sym, ◌∙◌}
use mathlib.Core.Bool.{Bool, true, false, cond}
use mathlib.Core.List.{List}
use borrow.Author.Tests.{lt-ltb, le-ltb}
use lib.Dec.{ltb}
use Rattle.vocabulary.specs.declared.refusal.Refusal.TheVariants.{Unpaired, UsedTwice, SpanTooWide, NoRoom}
use Rattle.closure.specs.declared.Layers.{Layers}
use Rattle.closure.specs.Answer.{Closure}
use Rattle.closure.specs.Closures.{closure_of}
use Rattle.rows.specs.Verdicts.{Verdict, verdict_of}
use Rattle.rows.specs.Table.{Table, rows_in}
use Rattle.spans.specs.Spans.{wide_span}
use Rattle.heads.specs.Units.{Frame, first_unpaired, first_shared, units_in}
use Rattle.unit_lists.specs.Sequence.{Lists}
use Rattle.join_answers.specs.Joining.{frame_of, closure_rows, Room, too_small, units_joined, joined_by, joined_in, joined_of, lists_after}
use Rattle.thoquenry_joins.specs.Joins.{with_summary, summary_after}

-- what is left of an answer without room for the summary
abbrev pub barred : Joined → Joined
barred joined = with_summary 0 joined

pub short_summary : (room : ℕ) (joined : Joined) → room < 2 → with_summary room joined ≡ barred joined
short_summary room (Ok joined) h = rw (lt-ltb room 2 h)
short_summary room (Err refusal) h = refl

pub whole_summary : (room : ℕ) (joined : Joined) → 2 ≤ room → with_summary room joined ≡ joined
whole_summary room (Ok joined) h = rw (le-ltb room 2 h)
whole_summary room (Err refusal) h = refl

-- it is a refusal, so that the lists are as they were
pub barred_lists : (layers : Layers) (t : Table) (joined : Joined) (before : Lists) → lists_after layers t (barred joined) before ≡ before
barred_lists layers t (Ok joined) before = refl
barred_lists layers t (Err refusal) before = refl

pub barred_summary : (joined : Joined) (before : List ℕ) → summary_after (barred joined) before ≡ before
barred_summary (Ok joined) before = refl
barred_summary (Err refusal) before = refl

-- the same whatever the room of the three
alike_cond : (test : Bool) (first a b : Joined) → barred a ≡ barred b → barred (cond test first a) ≡ barred (cond test first b)
alike_cond true first a b e = refl
alike_cond false first a b e = e

no_room_either : (small : Bool) (closure units rows : ℕ) → barred (cond small (Err NoRoom) (joined_units closure units rows)) ≡ Err NoRoom
no_room_either true closure units rows = refl
no_room_either false closure units rows = refl

module _ (most : ℕ) (layers : Layers) (target : ℕ) (t : Table) (room other : Room) where
  alike_units : (f : Frame) → barred (units_joined t f room) ≡ barred (units_joined t f other)
  alike_units f =
      let rows = closure_rows t f.closure in
      alike_cond (ltb (first_unpaired t f) (rows_in t)) (Err (Unpaired (first_unpaired t f))) _ _
      (alike_cond (ltb (first_shared t f) (rows_in t)) (Err (UsedTwice (first_shared t f))) _ _
      (alike_cond (wide_span t f.closure) (Err SpanTooWide) _ _
      (no_room_either (too_small room rows) f.closure (units_in t f) rows ∙ sym (no_room_either (too_small other rows) f.closure (units_in t f) rows))))

  alike_in : (c : Closure) → barred (joined_in most layers t room c) ≡ barred (joined_in most layers t other c)
  alike_in (Ok closure) = by_verdict (verdict_of most t closure)
    where
      f : Frame
      f = frame_of layers closure t

      by_verdict : (v : Verdict) → barred (joined_by (units_joined t f room) v) ≡ barred (joined_by (units_joined t f other) v)
      by_verdict (Ok in_order) = alike_units f
      by_verdict (Err refusal) = refl
  alike_in (Err refusal) = refl

  pub alike_joined : barred (joined_of most layers target t room) ≡ barred (joined_of most layers target t other)
  alike_joined = alike_in (closure_of layers target)
