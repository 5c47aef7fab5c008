-- What reading a loop answers: the verdict first, and where it accepts every entry.
-- Assumes nothing.
use Rattle.es_loop.specs.Answer.{entries_judged, Verdict}
use Rattle.std.specs.Prelude.{ℕ, Bool, cond, List, [], ltb, length, Err, Ok}
use Rattle.combinators.specs.Lowest.{lowest_number, earliest_place}
use Rattle.vocabulary.specs.declared.stream_types.Reading.{Reading}
use Rattle.vocabulary.specs.declared.refusal.Refusal.{Refusal}
use Rattle.vocabulary.specs.declared.refusal.Refusal.TheVariants.{LoopTooLong}
use Rattle.loop_entries.specs.declared.Stream.{Stream}
use Rattle.es_loop.specs.declared.reader.LoopRead.{LoopRead}
use Rattle.loop_entries.specs.Entries.{pair_of, streams_of, entries_of}
use Rattle.loop_faults.specs.Conditions.{applies, refusal_of}

-- THE VERDICT for the lowest number and its place, or past all numbers: then so many entries are accepted, and among them the two views without a hierarchy
-- descriptor or not
abbrev pub verdict_at : ℕ → Bool → ℕ → ℕ → Verdict
verdict_at count pair number place = cond (ltb number 10) (Err (refusal_of number place)) (entries_judged count pair)

-- 'Several at once: the lowest number that applies, at the earliest place.'
abbrev pub judged : List Stream → Verdict
judged streams =
    let number : ℕ = lowest_number (applies streams) 10 (length streams) in
    verdict_at (length streams) (pair_of streams) number (earliest_place (applies streams) number (length streams))

-- 'loop longer than 1,008 bytes' ends the reading.
abbrev pub verdict_of : Reading → List ℕ → Verdict
verdict_of reading bytes = cond (ltb 1008 (length bytes)) (Err LoopTooLong) (judged (streams_of reading bytes))

-- THE ANSWER. 'A refusal returns number and place and no other content.'
abbrev pub refused_with : Refusal → LoopRead
refused_with r = record { outcome = Err r; count = 0; entries = entries_of [] }

-- every entry in loop order
abbrev pub accepted : List Stream → LoopRead
accepted streams = record { outcome = Ok tt; count = length streams; entries = entries_of streams }

abbrev pub answer_by : List Stream → Verdict → LoopRead
answer_by streams (Err r) = refused_with r
answer_by streams (Ok judged) = accepted streams

abbrev pub loop_read : Reading → List ℕ → LoopRead
loop_read reading bytes = answer_by (streams_of reading bytes) (verdict_of reading bytes)
