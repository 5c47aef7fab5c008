-- From what the tests on the way say to the reply of thq_write_stereo.
-- Assumes nothing.
use Prim.Native.Nat.{ℕ}
use mathlib.Core.Path.{◌≡◌, sym, ap}
use mathlib.Core.Bool.{true, false}
use mathlib.Core.List.{List}
use borrow.Author.Tests.{not-false}
use lib.ListN.{length}
use Rattle.combinators.specs.Bools.{either_left, either_right}
use Rattle.syntax.specs.Table.{fits}
use Rattle.vocabulary.specs.declared.refusal.Refusal.TheVariants.{TooWide}
use Rattle.entry_rows.specs.Rows.{some_too_wide}
use Rattle.mvc_extension.specs.MvcExtension.{mvc_extension_descriptor}
use Rattle.mvc_rows.specs.Rows.{fields_at}
use Rattle.c_answers.specs.Answers.{Reply, reply, unchanged}
use Rattle.stereo_writer.specs.Writing.{stereo_answer, stereo_content}
use Rattle.thoquenry_stereo.specs.Writing.{entries_given, base_given, second_given, row_too_wide, given_too_wide, set_written, write_stereo}

module _ (entries extensions out : List ℕ) where
  pub answers : {x y : Reply} → x ≡ y → x.answer ≡ y.answer
  answers e = ap (λ (r : Reply). r.answer) e

  pub buffers : {x y : Reply} → x ≡ y → x.buffer ≡ y.buffer
  buffers e = ap (λ (r : Reply). r.buffer) e

  pub too_wide_lem : given_too_wide entries extensions ≡ true → unchanged TooWide out ≡ write_stereo entries extensions out
  too_wide_lem e = sym (rw e)

  pub entry_wide : some_too_wide entries ≡ true → given_too_wide entries extensions ≡ true
  entry_wide e = either_left (some_too_wide entries) _ e

  pub first_wide : row_too_wide extensions 0 ≡ true → given_too_wide entries extensions ≡ true
  first_wide e = either_right (some_too_wide entries) _ (either_left (row_too_wide extensions 0) (row_too_wide extensions 8) e)

  pub second_wide : row_too_wide extensions 8 ≡ true → given_too_wide entries extensions ≡ true
  second_wide e = either_right (some_too_wide entries) _ (either_right (row_too_wide extensions 0) (row_too_wide extensions 8) e)

  pub none_wide : some_too_wide entries ≡ false → row_too_wide extensions 0 ≡ false → row_too_wide extensions 8 ≡ false
      → reply (set_written (stereo_answer (length out) (base_given extensions) (second_given extensions) (entries_given entries)))
      (stereo_content (base_given extensions) (second_given extensions) (entries_given entries) out)
      ≡ write_stereo entries extensions out
  none_wide a b c = sym (rw (a, b, c))

pub row_fits : (extensions : List ℕ) (start : ℕ) → row_too_wide extensions start ≡ false → fits mvc_extension_descriptor (fields_at extensions start) ≡ true
row_fits extensions start e = not-false (fits mvc_extension_descriptor (fields_at extensions start)) e
