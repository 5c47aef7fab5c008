-- WHAT WRITING AN OPERATION POINT DESCRIPTOR ANSWERS, and what the buffer holds after it.
-- Assumes nothing.
use Rattle.std.specs.Prelude.{ℕ, cond, List, ltb, length, Err, Ok}
use Rattle.buffers.specs.Buffers.{over}
use Rattle.vocabulary.specs.declared.refusal.Refusal.TheVariants.{NoRoom}
use Rattle.point_weights.specs.Answer.{Written}
use Rattle.point_weights.specs.Rows.{judged}
use Rattle.point_writer.specs.Layout.{descriptor_bytes}

-- 17 last
abbrev pub in_room : ℕ → Written → Written
in_room room (Ok size) = cond (ltb room size) (Err NoRoom) (Ok size)
in_room room (Err refusal) = Err refusal

-- '25 for given values and counts, then 41 for 255 references, then 25 for a length above 255, then 17'
abbrev pub answer : ℕ → List ℕ → List ℕ → List ℕ → List ℕ → Written
answer room profiles points references layers = in_room room (judged (length profiles) points references (length layers))

-- '`out` keeps what it held on refusal and beyond what is written'
abbrev pub content_after : Written → List ℕ → List ℕ → List ℕ
content_after (Ok n) bytes old = over bytes old
content_after (Err refusal) bytes old = old

abbrev pub content : List ℕ → List ℕ → List ℕ → List ℕ → List ℕ → List ℕ
content profiles points references layers old =
    content_after (answer (length old) profiles points references layers) (descriptor_bytes profiles points references layers) old
