-- `row_writer::write_rows` meets its contract: each return follows from the tests on the way to it, as in the loop writer.
-- Assumes nothing.
use Prim.Native.Nat.{ℕ, ◌≤◌}
use mathlib.Core.Path.{sym, ◌∙◌, subst}
use mathlib.Core.List.{List}
use native.Mathlib.Omega.{arith}
use lib.ListN.{length, take}
use Rattle.std.proofs.lemmas.Result.{err_from_is_err_and}
use Rattle.buffers.specs.Buffers.{Laid}
use Rattle.loop_entries.specs.declared.Entry.{Entry}
use Rattle.loop_writer.specs.Layout.{loop_bytes}
use Rattle.loop_writer.specs.Weighing.{Weighs}
use Rattle.loop_writer.proofs.Answers.{too_many, decided-refused, decided-written}
use Rattle.entry_rows.specs.Rows.{row_count, entries_in}
use Rattle.entry_rows.proofs.Fits.{none_too_wide}
use Rattle.entry_rows.proofs.Given.{all_given}
use Rattle.row_writer.proofs.Room.{decided_room}
use Rattle.row_writer.proofs.write_rows.Goals as goal

pub returns-then-numbers-gt-MOST_ENTRIES : goal.returns-then-numbers-gt-MOST_ENTRIES
returns-then-numbers-gt-MOST_ENTRIES c =
    let numbers = c.args.numbers.now in
    too_many (row_count numbers) (entries_in numbers) c.args.out.now (none_too_wide numbers c.requires) c.if-numbers-gt-MOST_ENTRIES.true

pub pair_in-pair-requires : goal.pair_in-pair-requires
pair_in-pair-requires c = c.requires

pub weigh_rows-requires : goal.weigh_rows-requires
weigh_rows-requires c = (omega arith, c.requires, c.pair_in-pair.ensures)

pub put_rows-requires : goal.put_rows-requires
put_rows-requires c =
    let room = length c.args.out.now in
    let weighed = c.weigh_rows in
    (c.requires, subst (λ (size : ℕ). size ≤ room) weighed.ensures.size (decided_room weighed.result room c.in_ok-size.size (sym c.decide.ensures ∙ c.in_ok-size.was)))

pub returns-in_err-size : goal.returns-in_err-size
returns-in_err-size c =
    let a = c.args in
    let numbers = a.numbers.now in
    let few : row_count numbers ≤ 201 = omega arith in
    let weighed = c.weigh_rows in
    let weighs : Weighs (take (row_count numbers) (entries_in numbers)) weighed.result =
    subst (λ (l : List Entry). Weighs l weighed.result) (all_given numbers few) weighed.ensures in
    let decided = c.decide in
    let p = err_from_is_err_and c.from_residual.result c.from_residual.ensures.1 in
    rw (p.1, p.2) (decided-refused (row_count numbers) (entries_in numbers) a.out.now (none_too_wide numbers c.requires) few weighed.result weighs _ (sym decided.ensures ∙ c.in_err-size.was))

pub returns : goal.returns
returns c =
    let a = c.args in
    let numbers = a.numbers.now in
    let few : row_count numbers ≤ 201 = omega arith in
    let weighed = c.weigh_rows in
    let weighs : Weighs (take (row_count numbers) (entries_in numbers)) weighed.result =
    subst (λ (l : List Entry). Weighs l weighed.result) (all_given numbers few) weighed.ensures in
    let decided = c.decide in
    let laid = c.put_rows in
    decided-written (row_count numbers) (entries_in numbers) a.out.now (none_too_wide numbers c.requires) few weighed.result weighs c.in_ok-size.size (sym decided.ensures ∙ c.in_ok-size.was) laid.result laid.new.out
    (subst (λ (l : List Entry). Laid a.out.now 0 (loop_bytes l) laid.result laid.new.out) (all_given numbers few) laid.ensures)
