-- thq_read_stereo: its answer, and what its two buffers hold afterwards.
-- Assumes nothing.
use Rattle.std.specs.Prelude.{ℕ, cond, List, ◌++◌, ltb, length, Err, Ok}
use Rattle.buffers.specs.Buffers.{over}
use Rattle.vocabulary.specs.declared.refusal.Refusal.{Refusal}
use Rattle.vocabulary.specs.declared.refusal.Refusal.TheVariants.{NoRoom}
use Rattle.es_loop.specs.Answer.{Outcome}
use Rattle.entry_rows.specs.Rows.{row_of}
use Rattle.mvc_extension.specs.MvcExtension.{mvc_extension_fields}
use Rattle.stereo_set.specs.declared.set.StereoRead.{StereoRead}
use Rattle.stereo_set.specs.Reading.{stereo_read}
use Rattle.c_answers.specs.Answers.{accepted, refused}

-- what the call leaves: its answer, and the final content of its two buffers
pub record Left : Type 0 where
  pub answer : ℕ
  pub entries : List ℕ
  pub extensions : List ℕ

-- 'After a refusal every output buffer holds what it held.'
abbrev pub unchanged_both : Refusal → List ℕ → List ℕ → Left
unchanged_both refusal entries extensions = record { answer = refused refusal; entries = entries; extensions = extensions }

-- '`entries` receives 160 numbers: the row of layer 0, then that of layer 1. `extensions` receives 16 numbers: the descriptor of layer 0, then that of layer 1. Counts the
-- layers, 2.'
abbrev pub laid_both : StereoRead → List ℕ → List ℕ → Left
laid_both read entries extensions =
    record {
      answer = accepted 2;
      entries = over (row_of read.base ++ row_of read.second) entries;
      extensions = over (mvc_extension_fields read.base_extension ++ mvc_extension_fields read.second_extension) extensions;
    }

-- '17 where `entries_length` is below 160 or `extensions_length` below 16'
abbrev pub set_laid : StereoRead → List ℕ → List ℕ → Left
set_laid read entries extensions =
    cond (ltb (length entries) 160) (unchanged_both NoRoom entries extensions)
    (cond (ltb (length extensions) 16) (unchanged_both NoRoom entries extensions) (laid_both read entries extensions))

-- 'Refusals: 1 to 9, at an entry; then 44, 45, 46', before it
abbrev pub set_read : Outcome → StereoRead → List ℕ → List ℕ → Left
set_read (Ok tt) read entries extensions = set_laid read entries extensions
set_read (Err refusal) read entries extensions = unchanged_both refusal entries extensions

abbrev pub read_stereo : List ℕ → List ℕ → List ℕ → Left
read_stereo bytes entries extensions = set_read (stereo_read bytes).outcome (stereo_read bytes) entries extensions
