-- What joining leaves, answer, lists and summary together: with room for the summary, and without.
-- Assumes nothing.
use Prim.Native.Nat.{ℕ, ◌≤◌, ◌<◌}
use mathlib.Core.Path.{◌≡◌, sym, ◌∙◌, ap}
use mathlib.Core.List.{List}
use lib.ListN.{length}
use Rattle.closure.specs.declared.Layers.{Layers}
use Rattle.rows.specs.Table.{Table}
use Rattle.unit_lists.specs.Sequence.{Lists}
use Rattle.join_answers.specs.Answer.{Joined}
use Rattle.join_answers.specs.Joining.{lists_after}
use Rattle.thoquenry_joins.specs.Joins.{with_summary, joined_answer, summary_after, JoinReply, join_reply}
use Rattle.thoquenry_joins.proofs.Rooms.{barred, short_summary, whole_summary, barred_lists, barred_summary}

-- an answer, lists and a summary are those of a reply
abbrev pub Left : ℕ → Lists → List ℕ → JoinReply → Type 0
Left r l s reply = (r ≡ reply.answer) × ((l ≡ reply.after) × (s ≡ reply.summary))

module _ (layers : Layers) (t : Table) (before : Lists) (summary : List ℕ) (joined : Joined) where
  abbrev whole : JoinReply
  whole = join_reply layers t (with_summary (length summary) joined) before summary

  -- without room: another joining of the same rows, in whatever room, has the same refusal, and the lists are not touched
  pub left_short : (other : Joined) (r : ℕ) → length summary < 2 → barred joined ≡ barred other → r ≡ joined_answer (barred other)
      → Left r before summary whole
  left_short other r h e a =
      let same : barred other ≡ with_summary (length summary) joined = sym e ∙ sym (short_summary (length summary) joined h) in (
        a ∙ ap joined_answer same,
        (
          sym (barred_lists layers t other before) ∙ ap (λ (j : Joined). lists_after layers t j before) same,
          sym (barred_summary other summary) ∙ ap (λ (j : Joined). summary_after j summary) same,
        ),
      )

  -- with room: the joining itself
  pub left_whole : (other : Joined) (r : ℕ) (l : Lists) (s : List ℕ) → 2 ≤ length summary → other ≡ joined → r ≡ joined_answer other
      → l ≡ lists_after layers t other before → s ≡ summary_after other summary → Left r l s whole
  left_whole other r l s h e a p u =
      let same : other ≡ with_summary (length summary) joined = e ∙ sym (whole_summary (length summary) joined h) in (
        a ∙ ap joined_answer same,
        (p ∙ ap (λ (j : Joined). lists_after layers t j before) same, u ∙ ap (λ (j : Joined). summary_after j summary) same),
      )

-- the same reply, otherwise written
pub left_as : {r : ℕ} {l : Lists} {s : List ℕ} {x y : JoinReply} → x ≡ y → Left r l s x → Left r l s y
left_as e h =
    (h.0 ∙ ap (λ (z : JoinReply). z.answer) e, (h.1.0 ∙ ap (λ (z : JoinReply). z.after) e, h.1.1 ∙ ap (λ (z : JoinReply). z.summary) e))
