-- `writer::write_stereo` meets its contract: each return follows from the tests on the way to it.
-- Assumes nothing.
use Prim.Native.Nat.{ℕ, ◌+◌, ◌≤◌, ◌<◌}
use mathlib.Core.Path.{◌∙◌, ap, sym}
use mathlib.Core.List.{List}
use native.Mathlib.Omega.{arith}
use lib.ListN.{length}
use Rattle.std.proofs.lemmas.Result.{err_from_is_err_and}
use Rattle.loop_entries.specs.declared.Entry.{Entry}
use Rattle.entry_rows.specs.Rows.{row_count, entries_below}
use Rattle.entry_rows.proofs.Judged.{length_entries}
use Rattle.loop_writer.specs.Layout.{loop_bytes}
use Rattle.stereo_writer.proofs.Sizes.{set_size}
use Rattle.stereo_writer.proofs.Decided.{too_many, too_long_lem, loop_refuses, as_the_set}
use Rattle.stereo_writer.proofs.writer.write_stereo.Goals as goal

pub returns-then-numbers-gt-MOST_ENTRIES : goal.returns-then-numbers-gt-MOST_ENTRIES
returns-then-numbers-gt-MOST_ENTRIES c =
    let a = c.args in
    let numbers = a.numbers.now in
    let entries : List Entry = entries_below numbers (row_count numbers) in
    let long = length_entries numbers (row_count numbers) in
    let many : 201 < length entries = omega arith in
    too_many a.base a.second entries a.out.now many

pub returns-then-size : goal.returns-then-size
returns-then-size c =
    let a = c.args in
    let numbers = a.numbers.now in
    let entries : List Entry = entries_below numbers (row_count numbers) in
    let long = length_entries numbers (row_count numbers) in
    let weighed = c.weigh_rows-weighed in
    let size = weighed.ensures.size in
    let few : length entries ≤ 201 = omega arith in
    let large : 1008 < length (loop_bytes entries) + 20 = omega arith in
    too_long_lem a.base a.second entries a.out.now few large

pub write_set-requires : goal.write_set-requires
write_set-requires c =
    let a = c.args in
    let numbers = a.numbers.now in
    let entries : List Entry = entries_below numbers (row_count numbers) in
    let long = length_entries numbers (row_count numbers) in
    let weighed = c.weigh_rows-weighed in
    let size = weighed.ensures.size in record {
      numbers_value = c.requires;
      as_long = λ is_set. ap (λ (n : ℕ). n + 20) size ∙ sym (set_size a.base a.second entries is_set);
    }

pub returns-in_err-decide : goal.returns-in_err-decide
returns-in_err-decide c =
    let a = c.args in
    let numbers = a.numbers.now in
    let entries : List Entry = entries_below numbers (row_count numbers) in
    let long = length_entries numbers (row_count numbers) in
    let weighed = c.weigh_rows-weighed in
    let size = weighed.ensures.size in
    let few : length entries ≤ 201 = omega (arith, c.if-numbers-gt-MOST_ENTRIES.false) in
    let short : length (loop_bytes entries) + 20 ≤ 1008 = omega (arith, c.if-size.false) in
    let p = err_from_is_err_and c.from_residual.result c.from_residual.ensures.1 in
    rw (p.1, p.2) (loop_refuses a.base a.second entries a.out.now few short weighed.result weighed.ensures _ (sym c.decide.ensures ∙ c.in_err-decide.was))

pub returns : goal.returns
returns c =
    let a = c.args in
    let numbers = a.numbers.now in
    let entries : List Entry = entries_below numbers (row_count numbers) in
    let long = length_entries numbers (row_count numbers) in
    let weighed = c.weigh_rows-weighed in
    let size = weighed.ensures.size in
    let few : length entries ≤ 201 = omega (arith, c.if-numbers-gt-MOST_ENTRIES.false) in
    let short : length (loop_bytes entries) + 20 ≤ 1008 = omega (arith, c.if-size.false) in
    as_the_set a.base a.second entries a.out.now few short weighed.result weighed.ensures _ (sym c.decide.ensures ∙ c.in_ok-decide.was) c.write_set.ensures
