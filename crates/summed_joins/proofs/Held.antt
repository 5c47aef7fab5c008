-- What joining the rows that were read leaves for C: with room for the summary, and without.
-- Assumes nothing.
use Prim.Native.Nat.{ℕ, ◌≤◌, ◌<◌}
use mathlib.Core.List.{List}
use mathlib.Core.Path.{◌≡◌, ap, sym, ◌∙◌}
use lib.ListN.{length}
use Rattle.closure.specs.declared.Layers.{Layers}
use Rattle.rows.specs.Table.{Table}
use Rattle.unit_lists.specs.Sequence.{Lists}
use Rattle.join_answers.specs.Joining.{Room, room_of}
use Rattle.recording_imports.specs.Answer.{RowsRead, Imported}
use Rattle.recording_imports.specs.Imports.{count_of, first_rows, rows_held, join_held, lists_held}
use Rattle.packet_answers.specs.Answers.{imported_answer}
use Rattle.import_summaries.specs.Summaries.{with_summary, summary_after}
use Rattle.import_summaries.proofs.Summed.{barred, alike_imported, Left, left_short, left_whole}
use Rattle.summed_joins.specs.Replies.{held_reply}

module _ (most : ℕ) (layers : Layers) (target : ℕ) (t : Table) (rows : RowsRead) (before : Lists) (summary : List ℕ) where
  abbrev held : RowsRead
  held = rows_held most t rows

  abbrev front : Table
  front = first_rows (count_of held) t

  pub held_whole : (other : Imported) {r : ℕ} {l : Lists} {s : List ℕ} → 2 ≤ length summary → other ≡ join_held most layers target t (room_of before) held
      → r ≡ imported_answer other → l ≡ lists_held layers t held other before → s ≡ summary_after other summary
      → Left r l s (held_reply most layers target t rows before summary)
  held_whole other h e a l s = left_whole layers front before summary (join_held most layers target t (room_of before) held) other h e a l s

  pub held_short : (room : Room) (other : Imported) {r : ℕ} → length summary < 2 → other ≡ join_held most layers target t room held
      → r ≡ imported_answer (with_summary 0 other) → Left r before summary (held_reply most layers target t rows before summary)
  held_short room other h e a =
      left_short layers front before summary (join_held most layers target t (room_of before) held) other h
      (alike_imported held most layers target front (room_of before) room ∙ sym (ap barred e)) a
