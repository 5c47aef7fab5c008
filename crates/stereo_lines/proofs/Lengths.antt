-- The room that the text needs: 333 bytes are enough for every loop.
-- Assumes nothing.
use Rattle.std.specs.Prelude.{Err, Ok}
use Prim.Native.Nat.{ℕ, ◌≤◌}
use mathlib.Core.List.{List}
use mathlib.Core.Path.{◌≡◌}
use native.Mathlib.Omega.{arith}
use lib.ListN.{length, take, length-append}
use Rattle.text.specs.Text.{Laid}
use Rattle.text.proofs.Laws.{decimal_length, shown_whole}
use Rattle.vocabulary.specs.declared.refusal.Refusal.{Refusal}
use Rattle.vocabulary.specs.Refusals.{number_of, place_of}
use Rattle.es_loop.specs.Answer.{Outcome}
use Rattle.mvc_extension.specs.declared.MvcExtension.{MvcExtension}
use Rattle.stereo_set.specs.declared.set.StereoRead.{StereoRead}
use Rattle.stereo_set.specs.Reading.{stereo_read}
use Rattle.listing.specs.Lines.{refused_text}
use Rattle.stereo_lines.specs.Lines.{layer_line, set_text, read_text, stereo_text}

line_length : (index pid : ℕ) (x : MvcExtension) → length (layer_line index pid x) ≤ 161
unfolding layer_line
line_length index pid x =
    simp length-append
    (omega
    (arith, decimal_length index, decimal_length pid, decimal_length x.view_order_index_min, decimal_length x.view_order_index_max, decimal_length x.average_bit_rate, decimal_length x.maximum_bitrate))

set_length : (read : StereoRead) → length (set_text read) ≤ 333
unfolding set_text
set_length read =
    simp length-append (omega (arith, line_length 0 read.base.pid read.base_extension, line_length 1 read.second.pid read.second_extension))

refused_length : (refusal : Refusal) → length (refused_text refusal) ≤ 333
unfolding refused_text
refused_length refusal = simp length-append (omega (arith, decimal_length (number_of refusal), decimal_length (place_of refusal)))

pub text_length : (bytes : List ℕ) → length (stereo_text bytes) ≤ 333
unfolding stereo_text
text_length bytes = go (stereo_read bytes).outcome
  where
    go : (outcome : Outcome) → length (read_text outcome (stereo_read bytes)) ≤ 333
    go (Ok tt) = set_length (stereo_read bytes)
    go (Err refusal) = refused_length refusal

-- THE PROGRAM'S BUFFER: what was laid in from the front is the whole text, whatever the loop.
pub whole_text : (bytes old : List ℕ) (next : ℕ) (new : List ℕ) → 333 ≤ length old → Laid old 0 (stereo_text bytes) next new → take next new ≡ stereo_text bytes
whole_text bytes old next new room laid = shown_whole old (stereo_text bytes) next new laid (omega (arith, text_length bytes))
