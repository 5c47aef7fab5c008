-- WHAT WRITING A LOOP ANSWERS, and what the buffer holds after it.
-- Assumes nothing.
use Rattle.std.specs.Prelude.{ℕ, cond, ◌||◌, List, ◌++◌, ltb, length, take, drop, Err, Ok}
use Rattle.combinators.specs.Lists.{any}
use Rattle.combinators.specs.Lowest.{lowest_number, earliest_place}
use Rattle.vocabulary.specs.declared.refusal.Refusal.TheVariants.{LoopTooLong, NoRoom, TooWide}
use Rattle.loop_entries.specs.declared.Entry.{Entry}
use Rattle.loop_faults.specs.Conditions.{refusal_of}
use Rattle.loop_writer.specs.Layout.{loop_bytes, too_wide}
use Rattle.loop_writer.specs.Verdict.{applies_to}
use Rattle.loop_writer.specs.Answer.{Written}

-- 17, or the number of bytes
abbrev pub in_room : ℕ → ℕ → Written
in_room room size = cond (ltb room size) (Err NoRoom) (Ok size)

-- The lowest of 3 and 6 to 9 that applies, at its earliest place, then 17.
abbrev pub judged_in : ℕ → List Entry → Written
judged_in room entries =
    let number : ℕ = lowest_number (applies_to entries) 10 (length entries) in
    cond (ltb number 10) (Err (refusal_of number (earliest_place (applies_to entries) number (length entries))))
    (in_room room (length (loop_bytes entries)))

-- The entries are the first `count` of the array. Its 201 places are as many entries as 1,008 bytes can hold, so a greater count is of a loop
-- that would be longer than that. 'Writers test 25 before all else'; then 1 is the lowest number.
abbrev pub answer : ℕ → ℕ → List Entry → Written
answer room count array =
    cond (any too_wide (take count array)) (Err TooWide)
    (cond (ltb 201 count || ltb 1008 (length (loop_bytes (take count array)))) (Err LoopTooLong)
    (judged_in room (take count array)))

-- 'every output buffer is untouched. On acceptance the room beyond what was written is untouched too.'
abbrev pub content_after : Written → List ℕ → List ℕ → List ℕ
content_after (Ok n) bytes old = bytes ++ drop n old
content_after (Err r) bytes old = old

abbrev pub content : ℕ → List Entry → List ℕ → List ℕ
content count array old = content_after (answer (length old) count array) (loop_bytes (take count array)) old
