-- thq_write_stereo: its answer, and what its buffer holds afterwards.
-- Assumes nothing.
use Rattle.std.specs.Prelude.{ℕ, Bool, cond, not, ◌||◌, List, length, Err, Ok}
use Rattle.syntax.specs.Table.{fits}
use Rattle.vocabulary.specs.declared.refusal.Refusal.TheVariants.{TooWide}
use Rattle.loop_entries.specs.declared.Entry.{Entry}
use Rattle.loop_writer.specs.Answer.{Written}
use Rattle.entry_rows.specs.Rows.{some_too_wide, row_count, entries_below}
use Rattle.mvc_extension.specs.declared.MvcExtension.{MvcExtension}
use Rattle.mvc_extension.specs.MvcExtension.{mvc_extension_descriptor}
use Rattle.mvc_rows.specs.Rows.{fields_at, extension_at}
use Rattle.stereo_writer.specs.Writing.{stereo_answer, stereo_content}
use Rattle.c_answers.specs.Answers.{accepted, refused, Reply, reply, unchanged}

-- 'one entry for each 80 numbers of `entries`'
abbrev pub entries_given : List ℕ → List Entry
entries_given entries = entries_below entries (row_count entries)

-- 'the descriptor of layer 0, then that of layer 1, 8 numbers each'
abbrev pub base_given : List ℕ → MvcExtension
base_given extensions = extension_at extensions 0

abbrev pub second_given : List ℕ → MvcExtension
second_given extensions = extension_at extensions 8

-- 25: 'a value is too wide for its field'
abbrev pub row_too_wide : List ℕ → ℕ → Bool
row_too_wide extensions start = not (fits mvc_extension_descriptor (fields_at extensions start))

abbrev pub given_too_wide : List ℕ → List ℕ → Bool
given_too_wide entries extensions = some_too_wide entries || (row_too_wide extensions 0 || row_too_wide extensions 8)

-- 'Counts the bytes written to `out`.'
abbrev pub set_written : Written → ℕ
set_written (Ok count) = accepted count
set_written (Err refusal) = refused refusal

-- 'Refusals: 25 first; then 1, 3 and 6 to 9, as the loop writer gives them with 20 bytes more; then 44, 46, 17.'
abbrev pub write_stereo : List ℕ → List ℕ → List ℕ → Reply
write_stereo entries extensions out =
    cond (given_too_wide entries extensions) (unchanged TooWide out)
    (reply (set_written (stereo_answer (length out) (base_given extensions) (second_given extensions) (entries_given entries)))
    (stereo_content (base_given extensions) (second_given extensions) (entries_given entries) out))
