-- The rows of a recording are in range, and fill the table in their order: `rows_fill`.
-- Assumes nothing.
use Rattle.std.specs.Prelude.{Err, Ok}
use Prim.Native.Nat.{ℕ, zero, suc, ◌<◌}
use mathlib.Core.List.{List, [], ◌∷◌, ◌++◌, map}
use mathlib.Core.Path.{◌≡◌, refl, sym, ◌∙◌, subst}
use mathlib.Core.Bool.{Bool, true, false, cond, true≢false}
use native.Mathlib.Omega.{arith}
use borrow.Author.Tests.{ltb-true}
use lib.Dec.{eqb}
use lib.ListN.{length, get_or, drop, length-map}
use Rattle.combinators.specs.Bools.{either_way}
use Rattle.combinators.specs.Lists.{Nth, here, there, nth_get_d, nth_map}
use Rattle.framing.specs.Pieces.{Item, whole, broken}
use Rattle.clock.specs.Clock.{ticks}
use Rattle.syntax.specs.Table.{number}
use Rattle.syntax.specs.Named.{named}
use Rattle.pes_fields.specs.Tables.{head}
use Rattle.stamps.specs.declared.Stamps.{Stamps}
use Rattle.stamps.specs.Stamps.{stamp_of, stamps_of, with_dts, without_dts}
use Rattle.stamps.specs.Tables.{pts_alone, pts_before_dts, dts, tref}
use Rattle.pes_fields.specs.declared.Extension.{Extension}
use Rattle.pes_fields.specs.declared.Extension.TheVariants.{DoesNotFit, WithoutTref, WithTref}
use Rattle.pes_fields.specs.Meaning.{ExtensionField, without_tref, with_tref, SecondExtension, PesExtension}
use Rattle.pes_reader.specs.Answer.{Answer}
use Rattle.pes_reader.specs.Reading.{match_of, sent_of, read_of}
use Rattle.pes_reader.specs.Meaning as Pes
use Rattle.pes_reader.proofs.MeaningLaws.{answers_is}
use Rattle.continuity.specs.declared.Step.{Step}
use Rattle.continuity.specs.declared.Step.TheVariants.{Skipped, Copy, Faulty, Starts, Continues}
use Rattle.packets.specs.Judging.{lost_sync}
use Rattle.packets.specs.Reading.{packet_of}
use Rattle.scanning.specs.declared.events.Row.{Row}
use Rattle.scanning.specs.declared.events.Event.{Event}
use Rattle.scanning.specs.Events.{layers, layer_of, on_layer, packets_in, none_yet, header_event, step_event, step_in, event_of, lasts_after}
use Rattle.unit_starts.specs.Finding.{row_in, rows_from, rows_in}
use Rattle.recording_rows.specs.Columns.{index_in, decoding_in, match_in}
use Rattle.rows.specs.Meaning.{WrongShape, unequal_decodings, unequal_matches, too_many_rows, RowOutOfRange, index_above_63, decoding_time, match_time}
use Rattle.recording_imports.specs.Imports.{table_of}
use Rattle.recording_demands.specs.Filled.{RowFits, Fills}

-- ---- the times of a PES header have 33 bits, and its match time is the decoding time where no TREF was sent

abbrev TimeFits : Extension → Type 0
TimeFits DoesNotFit = Unit {0}
TimeFits (WithoutTref marked) = Unit {0}
TimeFits (WithTref tref) = tref.time < ticks

field_fits : {marked : Bool} {field : List ℕ} {given : Extension} → ExtensionField marked field given → TimeFits given
field_fits (without_tref e) = tt
field_fits (with_tref field rest e long) = omega arith

second_fits : {flag : ℕ} {second : List ℕ} {given : Extension} → SecondExtension flag second given → TimeFits given
second_fits SecondExtension.absent = tt
second_fits (SecondExtension.present long is) = field_fits is

extension_fits : {flag : ℕ} {extension : List ℕ} {given : Extension} → PesExtension flag extension given → TimeFits given
extension_fits PesExtension.absent = tt
extension_fits (PesExtension.present a b c d is) = second_fits is

decoding_fits : (flags : ℕ) (bytes : List ℕ) → (stamps_of flags bytes).decoding < ticks
decoding_fits flags bytes =
    either_way (λ (s : Stamps). s.decoding < ticks) (eqb flags 0b11) (with_dts (stamp_of pts_before_dts bytes) (stamp_of dts (drop 5 bytes))) (without_dts (stamp_of pts_alone bytes))
    (omega arith) (omega arith)

-- of the row that such a header gives
abbrev Fitting : ℕ → ℕ → Answer → Type 0
Fitting layer packet (Ok header) =
    RowFits
    (record { layer = layer; decoding = header.times.decoding; matching = header.times.matching; tref_sent = header.tref_sent; packet = packet })
Fitting layer packet (Err refusal) = Unit {0}

header_fits : (layer packet : ℕ) → layer < layers → (bytes : List ℕ) → Fitting layer packet (read_of bytes)
header_fits layer packet h bytes = go (answers_is bytes)
  where
    match_fits : (stamps : Stamps) (given : Extension) → stamps.decoding < ticks → TimeFits given → match_of stamps given < ticks
    match_fits stamps DoesNotFit d f = d
    match_fits stamps (WithoutTref marked) d f = d
    match_fits stamps (WithTref tref) d f = f

    unsent : (stamps : Stamps) (given : Extension) → sent_of given ≡ false → match_of stamps given ≡ stamps.decoding
    unsent stamps DoesNotFit e = refl
    unsent stamps (WithoutTref marked) e = refl
    unsent stamps (WithTref tref) e = absurd (true≢false e)

    go : {answer : Answer} → Pes.Answers bytes answer → Fitting layer packet answer
    go (Pes.not_video_header f) = tt
    go (Pes.no_pts v l) = tt
    go (Pes.fields_do_not_fit v l f) = tt
    go (Pes.wrong_marker l e) = tt
    go (Pes.pts_before_dts_lem l e f) = tt
    go (Pes.says {stamps} {given} l e f) =
        let narrow : stamps.decoding < ticks = subst (λ (s : Stamps). s.decoding < ticks) (sym l.stamps_are) (decoding_fits (named "PTS_DTS_flags" head (number 9 bytes)) (l.pts ++ l.dts)) in
        record {
          six_bits = h;
          decoding_in_33_bits = narrow;
          match_in_33_bits = match_fits stamps given narrow (extension_fits l.fields.extension_is);
          without_tref = unsent stamps given;
        }

-- ---- every row of a recording

abbrev EventFits : Event → Type 0
EventFits Event.Nothing = Unit {0}
EventFits (Event.Fault number) = Unit {0}
EventFits (Event.NotRead refusal) = Unit {0}
EventFits (Event.Unit row) = RowFits row

answer_fits : (layer k : ℕ) (answer : Answer) → Fitting layer k answer → EventFits (header_event layer k answer)
answer_fits layer k (Ok header) f = f
answer_fits layer k (Err refusal) f = tt

step_fits : (layer k : ℕ) (packet : List ℕ) (step : Step) → layer < layers → EventFits (step_event layer k packet step)
step_fits layer k packet Skipped h = tt
step_fits layer k packet Copy h = tt
step_fits layer k packet (Faulty number) h = tt
step_fits layer k packet (Starts at) h = answer_fits layer k (read_of (drop at packet)) (header_fits layer k h (drop at packet))
step_fits layer k packet Continues h = tt

module _ (table : List ℕ) where
  event_fits : (k : ℕ) (item : Item) (lasts : List (List ℕ)) → EventFits (event_of table k item lasts)
  event_fits k broken lasts = tt
  event_fits k (whole packet rest) lasts =
      either_way EventFits (lost_sync (packet_of packet)) (Event.Fault 30)
      (cond (on_layer table packet) (step_event (layer_of table packet) k packet (step_in table lasts packet)) Event.Nothing) tt (on (on_layer table packet) refl)
    where
      on : (b : Bool) → on_layer table packet ≡ b → EventFits (cond b (step_event (layer_of table packet) k packet (step_in table lasts packet)) Event.Nothing)
      on true e = step_fits (layer_of table packet) k packet (step_in table lasts packet) (ltb-true (layer_of table packet) layers e)
      on false e = tt

  each_fits : (k : ℕ) (items : List Item) (lasts : List (List ℕ)) (i : ℕ) (row : Row) → Nth (rows_from table k items lasts) i row → RowFits row
  each_fits k [] lasts i row n = elim n [ ]
  each_fits k (item ∷ items) lasts i row n =
      go (event_of table k item lasts) (event_fits k item lasts) (λ j m. each_fits (suc k) items (lasts_after table item lasts) j row m) i n
    where
      later : List Row
      later = rows_from table (suc k) items (lasts_after table item lasts)

      go : (event : Event) → EventFits event → ((j : ℕ) → Nth later j row → RowFits row) → (i : ℕ) → Nth (row_in event ++ later) i row → RowFits row
      go Event.Nothing f rest i n = rest i n
      go (Event.Fault number) f rest i n = rest i n
      go (Event.NotRead refusal) f rest i n = rest i n
      go (Event.Unit first) f rest i here = f
      go (Event.Unit first) f rest i (there {k = j} n) = rest j n

-- ---- the table of them

module _ (rows : List Row) (fits : (k : ℕ) (row : Row) → Nth rows k row → RowFits row) where
  at : (f : Row → ℕ) {k : ℕ} {row : Row} → Nth rows k row → get_or (map f rows) k 0 ≡ f row
  at f n = nth_get_d 0 (nth_map f n)

  long : (f : Row → ℕ) → length (map f rows) ≡ length rows
  long f = length-map rows f

  row_in_range : {k : ℕ} {row : Row} → Nth rows k row → RowFits row → RowOutOfRange (table_of rows) k → ⊥
  row_in_range n f (index_above_63 h) = let e = at index_in n in let s = f.six_bits in omega arith
  row_in_range n f (decoding_time h) = let e = at decoding_in n in let s = f.decoding_in_33_bits in omega arith
  row_in_range n f (match_time h) = let e = at match_in n in let s = f.match_in_33_bits in omega arith

  nth_row : (k : ℕ) → k < length rows → (row : Row) × Nth rows k row
  nth_row k h = go rows k h
    where
      go : (l : List Row) (k : ℕ) → k < length l → (row : Row) × Nth l k row
      go [] _ h = elim h [ ]
      go (x ∷ xs) zero h = (x, here)
      go (x ∷ xs) (suc k) h = let w = go xs k (omega arith) in (w.0, there w.1)

  wrong_shape_lem : (most : ℕ) → WrongShape most (table_of rows) → most < length rows
  wrong_shape_lem most (unequal_decodings f) = absurd (f (long decoding_in ∙ sym (long index_in)))
  wrong_shape_lem most (unequal_matches f) = absurd (f (long match_in ∙ sym (long index_in)))
  wrong_shape_lem most (too_many_rows h) = subst (λ (n : ℕ). most < n) (long index_in) h

  fills : Fills rows (table_of rows)
  fills =
      record {
        as_many = long index_in;
        each = λ k row n. (at index_in n, at decoding_in n, at match_in n);
        fits = fits;
        in_range = λ k h. (let w = nth_row k (subst (λ (n : ℕ). k < n) (long index_in) h) in row_in_range w.1 (fits k w.0 w.1));
        shape = λ most. (wrong_shape_lem most, λ h. too_many_rows (subst (λ (n : ℕ). most < n) (sym (long index_in)) h));
      }

-- THE TABLE SO FILLED, of every recording under any table of PIDs
pub rows_fill : (table packets : List ℕ) → Fills (rows_in table packets) (table_of (rows_in table packets))
rows_fill table packets = fills (rows_in table packets) (λ k row n. each_fits table 0 (packets_in packets) none_yet k row n)
