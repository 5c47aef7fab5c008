-- REWRITING: what it is that a loop with a stereo set is written again as it was. That it is stands in proofs/Rewriting.antt, `rewrite_set`.
-- Assumes nothing.
use Rattle.std.specs.Prelude.{ℕ, ◌+◌, ◌≡◌, List, ◌++◌, length, drop, Ok}
use Rattle.vocabulary.specs.declared.stream_types.Reading.TheVariants.{Edition2015}
use Rattle.es_loop.specs.Reading.{loop_read}
use Rattle.loop_layers.specs.Closures.{entries_read}
use Rattle.stereo_set.specs.declared.set.StereoRead.{StereoRead}
use Rattle.stereo_writer.specs.Writing.{stereo_answer, stereo_content}
use Rattle.stereo_writer.specs.Meaning as SetWriting

-- REWRITING A SET gives the same bytes, and is accepted wherever there is room for them.
pub record WrittenAgain (bytes : List ℕ) (read : StereoRead) (old : List ℕ) : Type 0 where
  pub means : SetWriting.Answers read.base_extension read.second_extension (entries_read (loop_read Edition2015 bytes)) old (Ok (length bytes)) (bytes ++ drop (length bytes) old)
  pub the_answer : stereo_answer (length old) read.base_extension read.second_extension (entries_read (loop_read Edition2015 bytes)) ≡ Ok (length bytes)
  pub the_buffer : stereo_content read.base_extension read.second_extension (entries_read (loop_read Edition2015 bytes)) old ≡ bytes ++ drop (length bytes) old
