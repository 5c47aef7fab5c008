-- The lines that the program `stereo` prints: 'the two PIDs, ranges and rates, or the refusal'.
-- Assumes nothing.
use Rattle.std.specs.Prelude.{ℕ, List, ◌++◌, Err, Ok}
use Rattle.es_loop.specs.Answer.{Outcome}
use Rattle.mvc_extension.specs.declared.MvcExtension.{MvcExtension}
use Rattle.stereo_set.specs.declared.set.StereoRead.{StereoRead}
use Rattle.stereo_set.specs.Reading.{stereo_read}
use Rattle.text.specs.Text.{ascii}
use Rattle.listing.specs.Lines.{labelled, refused_text}

-- index, PID, the range of view order index from its least to its greatest, average and maximum rate, all decimal
unfoldable pub layer_line : ℕ → ℕ → MvcExtension → List ℕ
layer_line index pid x =
    labelled (ascii "layer ") index
    ++ labelled (ascii " pid ") pid
    ++ labelled (ascii " views ") x.view_order_index_min
    ++ labelled (ascii " to ") x.view_order_index_max
    ++ labelled (ascii " average ") x.average_bit_rate
    ++ labelled (ascii " maximum ") x.maximum_bitrate
    ++ ascii "\n"

unfoldable pub set_text : StereoRead → List ℕ
set_text read =
    ascii "accepted 2\n" ++ layer_line 0 read.base.pid read.base_extension ++ layer_line 1 read.second.pid read.second_extension

-- 'A refusal prints only `refused N entry E`', as the program `layers` has it
abbrev pub read_text : Outcome → StereoRead → List ℕ
read_text (Ok tt) read = set_text read
read_text (Err refusal) read = refused_text refusal

abbrev pub answer_text : StereoRead → List ℕ
answer_text read = read_text read.outcome read

-- THE WHOLE TEXT for a loop
unfoldable pub stereo_text : List ℕ → List ℕ
stereo_text bytes = answer_text (stereo_read bytes)
