-- THE TIMES OF A PES HEADER, and whether a TREF stands in it, read and written: thq_read_times and thq_write_times.
-- Assumes nothing.
use Rattle.std.specs.Prelude.{ℕ, Bool, cond, List, [], ◌∷◌, eqb, ltb, length, Err, Ok}
use Rattle.vocabulary.specs.declared.refusal.Refusal.TheVariants.{NoRoom, TooWide}
use Rattle.buffers.specs.Buffers.{over}
use Rattle.pes_reader.specs.Answer.{Answer}
use Rattle.stamps.specs.declared.Times.{Times}
use Rattle.pes_writer.specs.Answer.{Written}
use Rattle.pes_reader.specs.Reading.{read_of}
use Rattle.pes_writer.specs.Writing.{header_of, write_of, buffer_of}
use Rattle.c_answers.specs.Answers.{accepted, refused, Reply, reply, unchanged}

-- '`times` receives five numbers: PTS, decoding time and match time; 1 where a TREF stood in the header, and else 0; and the offset at which the
-- header ends. Counts them, 5.'
abbrev pub bit_of : Bool → ℕ
bit_of flag = cond flag 1 0

abbrev pub times_read : Answer → List ℕ → Reply
times_read (Ok header) times =
    reply (accepted 5)
    (over (header.times.pts ∷ header.times.decoding ∷ header.times.matching ∷ bit_of header.tref_sent ∷ header.end ∷ []) times)
times_read (Err refusal) times = unchanged refusal times

-- 'Refusals: 17 where `times_length` is below 5; then 20 to 24.'
abbrev pub read_times : List ℕ → List ℕ → Reply
read_times bytes times = cond (ltb (length times) 5) (unchanged NoRoom times) (times_read (read_of bytes) times)

-- 'Counts the bytes written to `out`.'
abbrev pub bytes_written : Written → ℕ
bytes_written (Ok count) = accepted count
bytes_written (Err refusal) = refused refusal

abbrev pub times_written : Times → Bool → List ℕ → Reply
times_written times with_tref out =
    reply (bytes_written (write_of times with_tref (length out))) (buffer_of (write_of times with_tref (length out)) (header_of times with_tref) out)

-- 'Refusals: 25 where a time is 2^33 or more, where `with_tref` is above 1, and where it is 0 although the match time is not the decoding time; then
-- 17, 24.'
abbrev pub write_times : ℕ → ℕ → ℕ → ℕ → List ℕ → Reply
write_times pts decoding matching with_tref out =
    cond (ltb 1 with_tref) (unchanged TooWide out)
    (times_written (record { pts = pts; decoding = decoding; matching = matching }) (eqb with_tref 1) out)
