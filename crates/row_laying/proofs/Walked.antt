-- The walk that lays the rows of an accepted loop into a buffer with room for them: what is known in a turn, and what a turn lays in.
-- Assumes nothing.
use Rattle.es_loop.specs.Answer.{entries_judged}
use Prim.Native.Nat.{ℕ, ◌+◌, ◌-◌, ◌*◌, ◌≤◌, ◌<◌}
use mathlib.Core.Path.{◌≡◌, refl, sym, ◌∙◌, ap}
use mathlib.Core.Bool.{Bool}
use mathlib.Core.List.{List, ◌++◌, map}
use native.Mathlib.Omega.{arith}
use lib.ListN.{length, take, drop, length-map}
use lib.Seq.{length-take-le, take_all}
use Rattle.combinators.specs.Lists.{gather, gather_map, gather_next}
use Rattle.buffers.specs.Buffers.{over}
use Rattle.buffers.proofs.Laws.{over_part, over_length}
use Rattle.vocabulary.specs.declared.stream_types.Reading.{Reading}
use Rattle.loop_entries.specs.declared.Stream.{Stream}
use Rattle.loop_entries.specs.Entries.{no_stream, size_of, pair_of, streams_alone, streams_of, entry_of}
use Rattle.loop_faults.specs.Conditions.{stream_at}
use Rattle.es_loop.specs.Reading.{verdict_of}
use Rattle.es_loop.proofs.Verdicts.{Sound, sound}
use Rattle.loop_entries.proofs.Front.{left_at, left_long}
use Rattle.es_loop.proofs.Walk.{Cursor, size_5, size_fits, inside_here}
use Rattle.entry_rows.specs.Rows.{row_of, rows_of}
use Rattle.entry_rows.proofs.Laws.{row_length, rows_length}

-- the row of a stream, and those of streams
abbrev pub row_for : Stream → List ℕ
row_for s = row_of (entry_of s)

abbrev pub rows_for : List Stream → List ℕ
rows_for streams = gather row_for streams

pub rows_for_lem : (streams : List Stream) → rows_for streams ≡ rows_of (map entry_of streams)
rows_for_lem streams = sym (gather_map row_of entry_of streams)

rows_for_length : (streams : List Stream) → length (rows_for streams) ≡ length streams * 80
rows_for_length streams =
    ap length (rows_for_lem streams) ∙ rows_length (map entry_of streams) ∙ ap (λ (n : ℕ). n * 80) (length-map streams entry_of)

module _ (reading : Reading) (pair : Bool) (bytes old : List ℕ) (judged : verdict_of reading bytes ≡ entries_judged (length (streams_of reading bytes)) pair)
    (room : length (streams_of reading bytes) * 80 ≤ length old) where
  abbrev all : List Stream
  all = streams_of reading bytes

  accepted : Sound reading bytes (length all) pair
  accepted = sound reading bytes (length all) pair judged

  -- the turn at the byte `at`, where an entry of `size` bytes begins
  pub record Turn (count at size : ℕ) : Type 0 where
    pub short : length bytes ≤ 1008
    pub paired : pair ≡ pair_of (streams_alone reading bytes)
    pub spaced : 5 * count ≤ at
    pub left : length (left_at reading bytes at) ≡ length bytes - at
    pub large : 5 ≤ size
    pub fits : size ≤ length (left_at reading bytes at)
    pub inside : count < length all
    pub place : count * 80 + 80 ≤ length old

  module _ (count at : ℕ) (cursor : Cursor reading bytes count at) (more : at < length bytes) (size : ℕ)
      (is-size : size ≡ size_of (left_at reading bytes at)) where
    here_fits : size ≤ length (left_at reading bytes at)
    here_fits = size_fits reading bytes (length all) pair accepted count at cursor more size is-size

    here_inside : count < length all
    here_inside = inside_here reading bytes count at cursor more size is-size here_fits pair accepted.paired _ refl

    pub turn : Turn count at size
    turn =
        record {
          short = accepted.short;
          paired = accepted.paired;
          spaced = cursor.spaced;
          left = left_long reading bytes at;
          large = size_5 reading bytes count at cursor more size is-size;
          fits = here_fits;
          inside = here_inside;
          place = (let i = here_inside in omega arith);
        }

  -- one row more, in the part of the buffer that was lent for it
  pub row_more : (count : ℕ) (out row : List ℕ) → count < length all → out ≡ over (rows_for (take count all)) old → row ≡ row_for (stream_at all count)
      → take (count * 80) out ++ (row ++ drop (count * 80 + 80 - count * 80) (drop (count * 80) out)) ≡ over (rows_for (take (count + 1) all)) old
  row_more count out row inside is-out is_row =
      let width : ℕ = count * 80 + 80 - count * 80 in
      let laid : length (rows_for (take count all)) ≡ count * 80 =
      rows_for_length (take count all) ∙ ap (λ (n : ℕ). n * 80) (length-take-le count all (omega arith)) in
      let wide : length row ≡ width = ap length is_row ∙ row_length (entry_of (stream_at all count)) ∙ omega arith in
      ap (λ (l : List ℕ). take (count * 80) l ++ (row ++ drop width (drop (count * 80) l))) is-out
      ∙ over_part (rows_for (take count all)) row old (count * 80) width laid wide
      ∙ ap (λ (l : List ℕ). over (rows_for (take count all) ++ l) old) is_row
      ∙ sym (ap (λ (l : List ℕ). over l old) (gather_next all no_stream row_for count inside))

  pub rows_long : (count : ℕ) → count ≤ length all → length (over (rows_for (take count all)) old) ≡ length old
  rows_long count h =
      let laid : length (rows_for (take count all)) ≡ count * 80 =
      rows_for_length (take count all) ∙ ap (λ (n : ℕ). n * 80) (length-take-le count all h) in
      over_length (rows_for (take count all)) old (omega arith)

  -- after the last turn
  pub rows_all : (count : ℕ) → count ≡ length all → over (rows_for (take count all)) old ≡ over (rows_of (map entry_of all)) old
  rows_all count e = ap (λ (l : List ℕ). over l old) (ap rows_for (take_all count all (omega arith)) ∙ rows_for_lem all)
