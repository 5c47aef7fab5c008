-- The room that the text needs: 521,166 bytes are enough for every two loops.
-- Assumes nothing.
use Rattle.std.specs.Prelude.{Err, Ok}
use Prim.Native.Nat.{ℕ, suc, ◌*◌, ◌≤◌}
use mathlib.Core.Bool.{Bool, true, false, cond}
use mathlib.Core.List.{List, [], ◌∷◌, ◌++◌}
use mathlib.Core.Path.{◌≡◌, refl, subst}
use native.Mathlib.Nat.{suc-mul}
use native.Mathlib.Omega.{arith}
use lib.Dec.{eqb}
use lib.ListN.{length, get_or, take, length-append}
use Rattle.closure.specs.declared.Layers.{Layers}
use Rattle.es_loop.specs.Answer.{Outcome}
use Rattle.vocabulary.specs.declared.refusal.Refusal.{Refusal}
use Rattle.vocabulary.specs.Refusals.{number_of, place_of}
use Rattle.syntax.specs.Table.{AreBytes}
use Rattle.operation_points.specs.Values.{FrameRate, no_frame_rate, constant, BitRate, no_bit_rate, rate, PointValue}
use Rattle.program_points.specs.Told.{points_in, streams_of, closed_of, points_read}
use Rattle.program_points.proofs.Filled.{points_room}
use Rattle.program_points.proofs.Tallying.{count_small, streams_many}
use Rattle.text.specs.Text.{Laid, ascii}
use Rattle.text.proofs.Laws.{decimal_length, texts_length, shown_whole}
use Rattle.listing.specs.Lines.{labelled, refused_text}
use Rattle.point_lines.specs.Lines.{front_text, frame_text, rate_text, rates_text, closed_text, member_text, members_text, streams_text, point_line}
use Rattle.point_listing.specs.Listing.{line_of, lines_from, told_text, read_text, points_text}
use Rattle.point_listing.proofs.Lines.{told_many, told_filled}

-- ---- the parts of a line

front_length : (index ols temporal : ℕ) → length (front_text index ols temporal) ≤ 91
unfolding front_text
front_length index ols temporal = simp length-append (omega (arith, decimal_length index, decimal_length ols, decimal_length temporal))

frame_length : (frames : FrameRate) → length (frame_text frames) ≤ 38
frame_length no_frame_rate = omega arith
frame_length (constant idc indicator) = go (eqb idc 1) (eqb idc 2)
  where
    go : (ticks seconds : Bool)
        → length (cond ticks (labelled (ascii " frame_ticks ") indicator)
        (cond seconds (labelled (ascii " frame_rate ") indicator) (labelled (ascii " frame_rate ") indicator ++ ascii "/1.001"))) ≤ 38
    go true seconds = simp length-append (omega (arith, decimal_length indicator))
    go false true = simp length-append (omega (arith, decimal_length indicator))
    go false false = simp length-append (omega (arith, decimal_length indicator))

average_length : (average : BitRate) → length (rate_text (ascii " average ") average) ≤ 29
average_length no_bit_rate = omega arith
average_length (rate number) = simp length-append (omega (arith, decimal_length number))

maximum_length : (maximum : BitRate) → length (rate_text (ascii " maximum ") maximum) ≤ 29
maximum_length no_bit_rate = omega arith
maximum_length (rate number) = simp length-append (omega (arith, decimal_length number))

rates_length : (value : PointValue) → length (rates_text value) ≤ 96
unfolding rates_text
rates_length value = simp length-append (omega (arith, frame_length value.frame_rate, average_length value.average, maximum_length value.maximum))

closed_length : (closed : Bool) → length (closed_text closed) ≤ 11
closed_length true = omega arith
closed_length false = omega arith

members_length : (streams : List ℕ) → length (members_text streams) ≤ length streams * 21
unfolding members_text
members_length streams = texts_length (member_text streams) 21 each (length streams)
  where
    each : (i : ℕ) → length (member_text streams i) ≤ 21
    each i = simp length-append (omega (arith, decimal_length (get_or streams i 0)))

streams_length : (streams : List ℕ) → length streams ≤ 64 → length (streams_text streams) ≤ 1352
streams_length streams short = go (eqb (length streams) 0)
  where
    go : (empty : Bool) → length (cond empty (ascii " streams none") (ascii " streams" ++ members_text streams)) ≤ 1352
    go true = omega arith
    go false = simp length-append (omega (arith, members_length streams))

line_length : (index : ℕ) (value : PointValue) (closed : Bool) (streams : List ℕ) → length streams ≤ 64 → length (point_line index value closed streams) ≤ 1551
unfolding point_line
line_length index value closed streams short =
    simp length-append
    (omega (arith, front_length index value.target_ols value.temporal_id, rates_length value, closed_length closed, streams_length streams short))

-- ---- the lines of all points, of which there are at most 336

lines_length : (layers : Layers) (index : ℕ) (values : List PointValue) → length (lines_from layers index values) ≤ length values * 1551
unfolding lines_from
lines_length layers index [] = omega arith
lines_length layers index (value ∷ values) =
    let short : length (streams_of layers value) ≤ 64 = omega (arith, streams_many layers value, count_small layers value) in
    omega (
      arith,
      length-append (line_of layers index value) (lines_from layers (suc index) values),
      line_length index value (closed_of layers value) (streams_of layers value) short,
      lines_length layers (suc index) values,
      suc-mul (length values) 1551,
    )

told_length : (layers : Layers) (values : List PointValue) → length values ≤ 336 → length (told_text layers values) ≤ 521166
unfolding told_text
told_length layers values few = simp length-append (omega (arith, decimal_length (length values), lines_length layers 0 values))

refused_length : (refusal : Refusal) → length (refused_text refusal) ≤ 521166
unfolding refused_text
refused_length refusal = simp length-append (omega (arith, decimal_length (number_of refusal), decimal_length (place_of refusal)))

pub text_length : (program bytes : List ℕ) → AreBytes program → length (points_text program bytes) ≤ 521166
unfolding points_text
text_length program bytes b = go (points_read program bytes).outcome refl
  where
    go : (outcome : Outcome) → (points_read program bytes).outcome ≡ outcome → length (read_text outcome (points_read program bytes).layers program) ≤ 521166
    go (Ok tt) e =
        let filled = told_filled program bytes (points_read program bytes) refl e in
        told_length (points_read program bytes).layers (points_in program)
        (subst (λ (n : ℕ). n ≤ 336) (told_many (points_read program bytes).layers program b (points_read program bytes).found filled)
        (points_room program b (points_read program bytes).found filled))
    go (Err refusal) e = refused_length refusal

-- THE PROGRAM'S BUFFER: what was laid in from the front is the whole text, whatever the two loops.
pub whole_text : (program bytes old : List ℕ) (next : ℕ) (new : List ℕ) → AreBytes program → 521166 ≤ length old → Laid old 0 (points_text program bytes) next new
    → take next new ≡ points_text program bytes
whole_text program bytes old next new b room laid = shown_whole old (points_text program bytes) next new laid (omega (arith, text_length program bytes b))
