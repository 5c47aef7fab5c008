-- HOW LARGE A VALUE CAN BE. No place of a refusal is above 1,008, the bytes of the longest loop, and there are at most 64 layers.
-- So every value that a call answers is far below 2^56, and a caller's THQ_VALUE gives back the whole of it.
-- Assumes nothing.
use Rattle.es_loop.specs.Answer.{entries_judged, Outcome, Verdict as LoopVerdict}
use Rattle.std.specs.Prelude.{ℕ, zero, suc, ◌+◌, ◌≤◌, ◌≡◌, refl, Bool, true, false, cond, ◌&&◌, ◌||◌, List, [], ◌∷◌, ◌++◌, eqb, leb, ltb, length, take, drop, Err, Ok}
use Rattle.std.proofs.Common.{arith, ltb-false, length-take, length-append}
use Rattle.std.proofs.lemmas.List.{length-map}
use Rattle.combinators.specs.Below.{some, seek, count_short}
use Rattle.combinators.proofs.Seeking.{seek_first}
use Rattle.combinators.specs.Bools.{neither_left, neither_right, either_way, or_else}
use Rattle.combinators.specs.Lists.{any}
use Rattle.combinators.specs.Lowest.{lowest_number, earliest_place}
use Rattle.syntax.specs.Table.{number}
use Rattle.syntax.specs.Named.{named}
use Rattle.framing.specs.Pieces.{Item, broken, cut_within, cut}
use Rattle.sets.specs.Sets.{has, size}
use Rattle.clock.specs.Clock.{is_before}
use Rattle.vocabulary.specs.declared.stream_types.Reading.{Reading}
use Rattle.vocabulary.specs.declared.refusal.Refusal.{Refusal}
use Rattle.vocabulary.specs.declared.refusal.Refusal.TheVariants.{LoopTooLong, EmbeddedLayerAbsent, NoRoom, NotVideoHeader, NoPts, WrongMarker, PtsBeforeDts, TooWide}
use Rattle.vocabulary.specs.Refusals.{place_of}
use Rattle.stamps.specs.declared.Stamps.{Stamps}
use Rattle.stamps.specs.declared.Times.{Times}
use Rattle.pes_fields.specs.declared.Extension.{Extension}
use Rattle.pes_fields.specs.declared.Extension.TheVariants.{DoesNotFit as DataDoNotFit, WithoutTref, WithTref}
use Rattle.pes_reader.specs.Answer.{Answer}
use Rattle.pes_reader.specs.declared.Header.{Header}
use Rattle.pes_writer.specs.Answer.{Written as HeaderWritten}
use Rattle.stamps.specs.Tables.{pts_alone, pts_before_dts, dts, tref}
use Rattle.pes_fields.specs.Tables.{head as packetHead}
use Rattle.stamps.specs.Stamps.{stamps_of, time_field}
use Rattle.pes_fields.specs.HeaderData.{flags_of, header_data_of}
use Rattle.pes_reader.specs.Reading.{is_video_header, data_of, end_of, judged as headerJudged, header_of as headerRead, said_by, fields_of, video_header_of, read_of}
use Rattle.pes_writer.specs.Writing.{time_fields, tref_head, tref_fields, data_fields, head_of, header_of, too_wide as timesTooWide, write_of}
use Rattle.closure.specs.declared.Layers.{Layers}
use Rattle.closure.specs.Answer.{Closure}
use Rattle.closure.specs.Closures.{is_layer, lacks, rested_on, answer_for, closure_of}
use Rattle.loop_entries.specs.declared.Entry.{Entry}
use Rattle.loop_entries.specs.declared.Stream.{Stream}
use Rattle.es_loop.specs.declared.reader.LoopRead.{LoopRead}
use Rattle.loop_entries.specs.Entries.{es_info_length, stream_of, pair_of, marked_stream, streams_alone, streams_of}
use Rattle.loop_faults.specs.Conditions.{applies, refusal_of}
use Rattle.es_loop.specs.Reading.{judged, answer_by, loop_read}
use Rattle.loop_writer.specs.Answer.{Written}
use Rattle.loop_writer.specs.Layout.{loop_bytes, too_wide}
use Rattle.loop_writer.specs.Verdict.{applies_to}
use Rattle.loop_writer.specs.Writing.{in_room, judged_in, answer}
use Rattle.loop_layers.specs.Layers.{layers_of}
use Rattle.loop_layers.specs.Closures.{entries_read, closure_for, loop_closure}

-- a place, or what a loop's bytes bound
abbrev pub Placed : Refusal → Type 0
Placed refusal = place_of refusal ≤ 1008

-- ---- times: every place is 0

abbrev pub SmallTimes : Answer → Type 0
SmallTimes (Ok header) = Unit {0}
SmallTimes (Err refusal) = Placed refusal

small_judged : (marked : Bool) (header : Header) → SmallTimes (headerJudged marked header)
small_judged marked header =
    let before : Bool = is_before header.times.pts header.times.decoding in
    either_way SmallTimes marked (cond before (Err PtsBeforeDts) (Ok header)) (Err WrongMarker)
    (either_way SmallTimes before (Err PtsBeforeDts) (Ok header) (omega arith) tt) (omega arith)

small_times : (end : ℕ) (stamps : Stamps) (extension : Extension) → SmallTimes (said_by end stamps extension)
small_times end stamps DataDoNotFit = omega arith
small_times end stamps (WithoutTref marked) = small_judged (stamps.marked && marked) (headerRead stamps stamps.decoding false end)
small_times end stamps (WithTref tref) = small_judged (stamps.marked && tref.marked) (headerRead stamps tref.time true end)

pub small_read : (bytes : List ℕ) → SmallTimes (read_of bytes)
small_read bytes =
    either_way SmallTimes (is_video_header bytes) (video_header_of bytes) (Err NotVideoHeader)
    (either_way SmallTimes (leb 0b10 (named "PTS_DTS_flags" packetHead (number 9 bytes))) (fields_of (end_of bytes) (flags_of packetHead (number 9 bytes)) (data_of bytes)) (Err NoPts)
    (small_times (end_of bytes) (stamps_of (flags_of packetHead (number 9 bytes)).pts_dts (data_of bytes)) (header_data_of (flags_of packetHead (number 9 bytes)) (data_of bytes))) (omega arith))
    (omega arith)

abbrev pub SmallHeader : HeaderWritten → Type 0
SmallHeader (Ok count) = count ≤ 32768
SmallHeader (Err refusal) = Placed refusal

header_short : (times : Times) (with_tref : Bool) → length (header_of times with_tref) ≤ 32768
header_short times with_tref =
    let pts : ℕ = times.pts in
    let decoding : ℕ = times.decoding in
    let first_two : length (time_fields pts decoding) ≤ 10 =
    either_way (λ (l : List ℕ). length l ≤ 10) (eqb pts decoding) (time_field pts_alone pts) (time_field pts_before_dts pts ++ time_field dts decoding) (omega arith) (omega arith) in
    let last : length (tref_fields with_tref times.matching) ≤ 8 =
    either_way (λ (l : List ℕ). length l ≤ 8) with_tref (tref_head ++ time_field tref times.matching) [] (omega arith) (omega arith) in
    let first : length (head_of times with_tref) ≡ 9 = refl in
    omega (arith, length-append (head_of times with_tref) (data_fields times with_tref), length-append (time_fields pts decoding) (tref_fields with_tref times.matching))

pub small_header : (times : Times) (with_tref : Bool) (room : ℕ) → SmallHeader (write_of times with_tref room)
small_header times with_tref room =
    either_way SmallHeader (timesTooWide times with_tref) (Err TooWide) _ (omega arith)
    (either_way SmallHeader (leb (length (header_of times with_tref)) room) _ (Err NoRoom)
    (either_way SmallHeader (is_before times.pts times.decoding) (Err PtsBeforeDts) (Ok (length (header_of times with_tref))) (omega arith) (header_short times with_tref))
    (omega arith))

-- ---- loops

few_pieces : (most : ℕ) (l : List ℕ) → length (cut_within 5 es_info_length most l) ≤ most
few_pieces zero l = omega arith
few_pieces (suc most) [] = omega arith
few_pieces (suc most) (b ∷ bs) =
    let later = few_pieces most (drop (5 + es_info_length (b ∷ bs)) (b ∷ bs)) in
    either_way (λ (l : List Item). length l ≤ suc most) (leb (5 + es_info_length (b ∷ bs)) (length (b ∷ bs))) _ (broken ∷ []) (omega arith) (omega arith)

pub few_streams : (reading : Reading) (bytes : List ℕ) → length (streams_of reading bytes) ≤ length bytes
few_streams reading bytes =
    omega
    (arith, length-map (streams_alone reading bytes) (marked_stream (pair_of (streams_alone reading bytes))), length-map (cut 5 es_info_length bytes) (stream_of reading), few_pieces (length bytes) bytes)

refusal_place : (number place : ℕ) → place_of (refusal_of number place) ≤ place
refusal_place zero place = omega arith
refusal_place (suc zero) place = omega arith
refusal_place (suc (suc zero)) place = omega arith
refusal_place (suc (suc (suc zero))) place = omega arith
refusal_place (suc (suc (suc (suc zero)))) place = omega arith
refusal_place (suc (suc (suc (suc (suc zero))))) place = omega arith
refusal_place (suc (suc (suc (suc (suc (suc zero)))))) place = omega arith
refusal_place (suc (suc (suc (suc (suc (suc (suc zero))))))) place = omega arith
refusal_place (suc (suc (suc (suc (suc (suc (suc (suc zero)))))))) place = omega arith
refusal_place (suc (suc (suc (suc (suc (suc (suc (suc (suc zero))))))))) place = omega arith
refusal_place (suc (suc (suc (suc (suc (suc (suc (suc (suc (suc zero)))))))))) place = omega arith
refusal_place (suc (suc (suc (suc (suc (suc (suc (suc (suc (suc (suc n))))))))))) place = omega arith

abbrev pub SmallOutcome : Outcome → Type 0
SmallOutcome (Ok tt) = Unit {0}
SmallOutcome (Err refusal) = Placed refusal

abbrev pub SmallLoop : LoopRead → Type 0
SmallLoop read = SmallOutcome read.outcome × (read.count ≤ 32768)

-- of a verdict, once its answer is made
abbrev SmallBy : List Stream → LoopVerdict → Type 0
SmallBy streams verdict = SmallLoop (answer_by streams verdict)

small_entries : (streams : List Stream) → length streams ≤ 1008 → SmallBy streams (judged streams)
small_entries streams h =
    let lowest : ℕ = lowest_number (applies streams) 10 (length streams) in
    let place : ℕ = earliest_place (applies streams) lowest (length streams) in
    let within = (seek_first (applies streams lowest) (length streams)).within in
    let at = refusal_place lowest place in
    either_way (SmallBy streams) (ltb lowest 10) (Err (refusal_of lowest place)) (entries_judged (length streams) (pair_of streams)) (omega arith, omega arith) (tt, omega arith)

pub small_loop : (reading : Reading) (bytes : List ℕ) → SmallLoop (loop_read reading bytes)
small_loop reading bytes =
    or_else (SmallBy (streams_of reading bytes)) (ltb 1008 (length bytes)) (Err LoopTooLong) (judged (streams_of reading bytes)) (omega arith, omega arith)
    (λ e. small_entries (streams_of reading bytes) (omega (arith, few_streams reading bytes, ltb-false 1008 (length bytes) e)))

abbrev pub SmallWritten : Written → Type 0
SmallWritten (Ok count) = count ≤ 32768
SmallWritten (Err refusal) = Placed refusal

pub small_written : (room count : ℕ) (array : List Entry) → SmallWritten (answer room count array)
small_written room count array =
    let entries : List Entry = take count array in
    let lowest : ℕ = lowest_number (applies_to entries) 10 (length entries) in
    let place : ℕ = earliest_place (applies_to entries) lowest (length entries) in
    let within = (seek_first (applies_to entries lowest) (length entries)).within in
    let at = refusal_place lowest place in
    or_else SmallWritten (any too_wide entries) (Err TooWide) _ (omega arith) (λ fine.
    or_else SmallWritten (ltb 201 count || ltb 1008 (length (loop_bytes entries))) (Err LoopTooLong) (judged_in room entries) (omega arith) (λ short.
    either_way SmallWritten (ltb lowest 10) (Err (refusal_of lowest place)) (in_room room (length (loop_bytes entries)))
    (omega (arith, length-take count array, ltb-false 201 count (neither_left (ltb 201 count) (ltb 1008 (length (loop_bytes entries))) short)))
    (either_way SmallWritten (ltb room (length (loop_bytes entries))) (Err NoRoom) (Ok (length (loop_bytes entries))) (omega arith)
    (omega (arith, ltb-false 1008 (length (loop_bytes entries)) (neither_right (ltb 201 count) (ltb 1008 (length (loop_bytes entries))) short))))))

-- ---- closures

abbrev pub SmallClosure : Closure → Type 0
SmallClosure (Ok members) = Unit {0}
SmallClosure (Err refusal) = Placed refusal

small_answer : (layers : Layers) (there : Bool) (set : ℕ) → SmallClosure (answer_for layers there set)
small_answer layers false set = omega arith
small_answer layers true set =
    let within = (seek_first (lacks layers set) 64).within in
    either_way SmallClosure (some (lacks layers set) 64) (Err (EmbeddedLayerAbsent (record { 0 = seek (lacks layers set) 64 }))) (Ok set) (omega arith) tt

pub small_closure_of : (layers : Layers) (target : ℕ) → SmallClosure (closure_of layers target)
small_closure_of layers target = small_answer layers (is_layer layers target) (rested_on layers target)

small_closure_for : (o : Outcome) (layers : Layers) (target : ℕ) → SmallOutcome o → SmallClosure (closure_for o layers target)
small_closure_for (Ok tt) layers target h = small_closure_of layers target
small_closure_for (Err refusal) layers target h = h

pub small_closure : (reading : Reading) (bytes : List ℕ) (target : ℕ) → SmallClosure (loop_closure reading bytes target)
small_closure reading bytes target =
    small_closure_for (loop_read reading bytes).outcome (layers_of (entries_read (loop_read reading bytes))) target (small_loop reading bytes).0

-- a set of numbers below 64 has at most 64 members
pub size_short : (set : ℕ) → size set ≤ 64
unfolding size
size_short set = count_short (has set) 64
