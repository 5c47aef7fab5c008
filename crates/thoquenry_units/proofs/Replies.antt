-- What the call leaves: the reply of a recording with its answer, or no call and everything as it was.
-- Assumes nothing.
use Prim.Native.Nat.{ℕ, ◌≤◌, ◌<◌}
use mathlib.Core.Path.{◌≡◌, refl, sym, ap, ◌∙◌}
use mathlib.Core.Bool.{Bool, true, false, cond}
use mathlib.Core.List.{List}
use lib.ListN.{length}
use Rattle.rows.specs.Table.{Table}
use Rattle.unit_lists.specs.Sequence.{Lists}
use Rattle.join_answers.specs.Joining.{Room, room_of}
use Rattle.recordings.specs.Answer.{Recording}
use Rattle.recording_imports.specs.Answer.{Imported}
use Rattle.recording_imports.specs.Imports.{layers_of_loop, first_rows, count_of, rows_to_join, import_told, lists_told}
use Rattle.packet_answers.specs.Answers.{imported_answer}
use Rattle.import_summaries.specs.Summaries.{with_summary, summary_after, ImportReply}
use Rattle.import_summaries.proofs.Summed.{barred, alike_imported, Left, left_short, left_whole}
use Rattle.packet_states.specs.States.{is_state}
use Rattle.c_answers.specs.Answers.{not_a_call}
use Rattle.thoquenry_pieces.specs.Calls.{told_by}
use Rattle.thoquenry_units.specs.Units.{units_told, units_call}

-- the same reply, otherwise written
left_as : {r : ℕ} {l : Lists} {s : List ℕ} {x y : ImportReply} → x ≡ y → Left r l s x → Left r l s y
left_as e h =
    (h.0 ∙ ap (λ (z : ImportReply). z.answer) e, (h.1.0 ∙ ap (λ (z : ImportReply). z.after) e, h.1.1 ∙ ap (λ (z : ImportReply). z.summary) e))

module _ (most : ℕ) (bytes : List ℕ) (target : ℕ) (recording : Recording) (t : Table) (before : Lists) (summary : List ℕ) where
  -- without room for the summary, in whatever room for the lists
  pub told_short : (own : Room) {other : Imported} {r : ℕ} → length summary < 2 → other ≡ import_told most bytes target recording t own
      → r ≡ imported_answer (with_summary 0 other) → Left r before summary (units_told most bytes target recording t before summary)
  told_short own {other} h e a =
      left_short (layers_of_loop bytes) (first_rows (count_of (rows_to_join most bytes target recording t)) t) before summary (import_told most bytes target recording t (room_of before))
      other h
      (alike_imported (rows_to_join most bytes target recording t) most (layers_of_loop bytes) target (first_rows (count_of (rows_to_join most bytes target recording t)) t) (room_of before) own
      ∙ sym (ap barred e))
      a

  pub told_whole : {other : Imported} {r : ℕ} {l : Lists} {s : List ℕ} → 2 ≤ length summary → other ≡ import_told most bytes target recording t (room_of before)
      → r ≡ imported_answer other → l ≡ lists_told most bytes target recording t other before → s ≡ summary_after other summary
      → Left r l s (units_told most bytes target recording t before summary)
  told_whole {other} h e a p u =
      left_whole (layers_of_loop bytes) (first_rows (count_of (rows_to_join most bytes target recording t)) t) before summary (import_told most bytes target recording t (room_of before))
      other h e a p u

module _ (most : ℕ) (bytes : List ℕ) (target : ℕ) (state counts : List ℕ) (t : Table) (before : Lists) (summary : List ℕ) where
  abbrev by_test : Bool → ImportReply
  by_test is = cond is (units_told most bytes target (told_by counts) t before summary) (record { answer = not_a_call; after = before; summary = summary })

  pub no_state : {r : ℕ} → is_state state counts ≡ false → r ≡ not_a_call → Left r before summary (units_call most bytes target state counts t before summary)
  no_state e a = left_as (sym (ap by_test e)) (a, (refl, refl))

  pub of_state : {recording : Recording} {r : ℕ} {l : Lists} {s : List ℕ} → is_state state counts ≡ true → recording ≡ told_by counts
      → Left r l s (units_told most bytes target recording t before summary) → Left r l s (units_call most bytes target state counts t before summary)
  of_state e told h = left_as (ap (λ (x : Recording). units_told most bytes target x t before summary) told ∙ sym (ap by_test e)) h
