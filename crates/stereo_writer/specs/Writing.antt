-- WHAT WRITING A STEREO SET ANSWERS, and what the buffer holds after it.
-- Assumes nothing.
use Rattle.std.specs.Prelude.{ℕ, ◌+◌, ◌≡◌, cond, ◌||◌, List, map, ltb, length, Err, Ok}
use Rattle.vocabulary.specs.declared.refusal.Refusal.TheVariants.{LoopTooLong}
use Rattle.loop_entries.specs.declared.Entry.{Entry}
use Rattle.es_loop.specs.Answer.{Outcome}
use Rattle.loop_writer.specs.Answer.{Written}
use Rattle.loop_writer.specs.Layout.{loop_bytes}
use Rattle.loop_writer.specs.Writing.{in_room, judged_in, content_after}
use Rattle.mvc_extension.specs.declared.MvcExtension.{MvcExtension}
use Rattle.stereo_set.specs.declared.set.StereoRead.{StereoRead}
use Rattle.stereo_set.specs.Views.{layers_among}
use Rattle.stereo_set.specs.Set.{set_of}
use Rattle.stereo_writer.specs.Layout.{view_for, stereo_bytes}

-- the entries judged as a set, with the descriptors that they are given
abbrev pub set_for : MvcExtension → MvcExtension → List Entry → StereoRead
set_for x y entries = set_of (layers_among (map (view_for x y) entries))

-- 44, 46, then what follows
abbrev pub after_set : Outcome → Written → Written
after_set (Ok tt) written = written
after_set (Err refusal) written = Err refusal

-- 17 last, or the number of bytes
abbrev pub set_answer : ℕ → MvcExtension → MvcExtension → List Entry → Written
set_answer room x y entries = after_set (set_for x y entries).outcome (in_room room (length (stereo_bytes x y entries)))

abbrev pub set_content : MvcExtension → MvcExtension → List Entry → List ℕ → List ℕ
set_content x y entries old = content_after (set_answer (length old) x y entries) (stereo_bytes x y entries) old

-- what a set of these entries takes
abbrev pub AsLong : ℕ → MvcExtension → MvcExtension → List Entry → Type 0
AsLong size x y entries = (set_for x y entries).outcome ≡ Ok tt → size ≡ length (stereo_bytes x y entries)

-- the loop writer's numbers, then what follows
abbrev pub after_loop : Written → Written → Written
after_loop (Ok n) written = written
after_loop (Err refusal) written = Err refusal

-- 'the loop writer's numbers', 1 among them 'with the two descriptors, 20 bytes more', 'then 44, 46, with 17 last'. No loop that is not too long lacks room in 1,008 bytes.
abbrev pub stereo_answer : ℕ → MvcExtension → MvcExtension → List Entry → Written
stereo_answer room x y entries =
    cond (ltb 201 (length entries) || ltb 1008 (length (loop_bytes entries) + 20)) (Err LoopTooLong)
    (after_loop (judged_in 1008 entries) (set_answer room x y entries))

abbrev pub stereo_content : MvcExtension → MvcExtension → List Entry → List ℕ → List ℕ
stereo_content x y entries old = content_after (stereo_answer (length old) x y entries) (stereo_bytes x y entries) old
