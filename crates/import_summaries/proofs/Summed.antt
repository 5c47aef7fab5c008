-- What an import leaves, answer, lists and summary together: with room for the summary, and without, where how much room the three lists have makes no difference.
-- Assumes nothing.
use Rattle.std.specs.Prelude.{Err, Ok}
use Prim.Native.Nat.{ℕ, ◌≤◌, ◌<◌}
use mathlib.Core.Path.{◌≡◌, refl, sym, ◌∙◌, ap}
use mathlib.Core.List.{List}
use borrow.Author.Tests.{lt-ltb, le-ltb}
use lib.ListN.{length}
use Rattle.closure.specs.declared.Layers.{Layers}
use Rattle.rows.specs.Table.{Table}
use Rattle.unit_lists.specs.Sequence.{Lists}
use Rattle.join_answers.specs.Answer.{Joined}
use Rattle.join_answers.specs.Joining.{Room, joined_of}
use Rattle.thoquenry_joins.proofs.Rooms.{barred as barredJoined, alike_joined}
use Rattle.recording_imports.specs.Answer.{RowsRead, Imported}
use Rattle.recording_imports.specs.declared.Unread.TheVariants.{Refused, NotRead}
use Rattle.recording_imports.specs.Imports.{imported_of, imported_by, lists_with}
use Rattle.packet_answers.specs.Answers.{imported_answer}
use Rattle.import_summaries.specs.Summaries.{with_summary, summary_after, ImportReply, import_reply}

-- what is left of an answer without room for the summary
abbrev pub barred : Imported → Imported
barred imported = with_summary 0 imported

short_summary : (room : ℕ) (imported : Imported) → room < 2 → with_summary room imported ≡ barred imported
short_summary room (Ok joined) h = rw (lt-ltb room 2 h)
short_summary room (Err (Refused refusal)) h = refl
short_summary room (Err (NotRead refusal packet)) h = refl

whole_summary : (room : ℕ) (imported : Imported) → 2 ≤ room → with_summary room imported ≡ imported
whole_summary room (Ok joined) h = rw (le-ltb room 2 h)
whole_summary room (Err (Refused refusal)) h = refl
whole_summary room (Err (NotRead refusal packet)) h = refl

barred_lists : (layers : Layers) (t : Table) (imported : Imported) (before : Lists) → lists_with layers t (barred imported) before ≡ before
barred_lists layers t (Ok joined) before = refl
barred_lists layers t (Err (Refused refusal)) before = refl
barred_lists layers t (Err (NotRead refusal packet)) before = refl

barred_summary : (imported : Imported) (before : List ℕ) → summary_after (barred imported) before ≡ before
barred_summary (Ok joined) before = refl
barred_summary (Err (Refused refusal)) before = refl
barred_summary (Err (NotRead refusal packet)) before = refl

-- the same whatever the room of the three
barred_of : (joined : Joined) → barred (imported_of joined) ≡ imported_of (barredJoined joined)
barred_of (Ok joined) = refl
barred_of (Err refusal) = refl

pub alike_imported : (rows : RowsRead) (most : ℕ) (layers : Layers) (target : ℕ) (t : Table) (room other : Room)
    → barred (imported_by rows (joined_of most layers target t room)) ≡ barred (imported_by rows (joined_of most layers target t other))
alike_imported (Ok count) most layers target t room other =
    barred_of (joined_of most layers target t room)
    ∙ ap imported_of (alike_joined most layers target t room other)
    ∙ sym (barred_of (joined_of most layers target t other))
alike_imported (Err (Refused refusal)) most layers target t room other = refl
alike_imported (Err (NotRead refusal packet)) most layers target t room other = refl

-- an answer, lists and a summary are those of a reply
abbrev pub Left : ℕ → Lists → List ℕ → ImportReply → Type 0
Left r l s reply = (r ≡ reply.answer) × ((l ≡ reply.after) × (s ≡ reply.summary))

module _ (layers : Layers) (t : Table) (before : Lists) (summary : List ℕ) (imported : Imported) where
  abbrev whole : ImportReply
  whole = import_reply layers t (with_summary (length summary) imported) before summary

  -- without room: another import of the same rows, in whatever room, has the same refusal, and the lists are not touched
  pub left_short : (other : Imported) {r : ℕ} → length summary < 2 → barred imported ≡ barred other → r ≡ imported_answer (barred other) → Left r before summary whole
  left_short other h e a =
      let same : barred other ≡ with_summary (length summary) imported = sym e ∙ sym (short_summary (length summary) imported h) in (
        a ∙ ap imported_answer same,
        (
          sym (barred_lists layers t other before) ∙ ap (λ (j : Imported). lists_with layers t j before) same,
          sym (barred_summary other summary) ∙ ap (λ (j : Imported). summary_after j summary) same,
        ),
      )

  -- with room: the import itself
  pub left_whole : (other : Imported) {r : ℕ} {l : Lists} {s : List ℕ} → 2 ≤ length summary → other ≡ imported → r ≡ imported_answer other
      → l ≡ lists_with layers t other before → s ≡ summary_after other summary → Left r l s whole
  left_whole other h e a p u =
      let same : other ≡ with_summary (length summary) imported = e ∙ sym (whole_summary (length summary) imported h) in (
        a ∙ ap imported_answer same,
        (p ∙ ap (λ (j : Imported). lists_with layers t j before) same, u ∙ ap (λ (j : Imported). summary_after j summary) same),
      )
