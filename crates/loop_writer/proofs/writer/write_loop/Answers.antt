-- `loop_writer::write_loop` meets its contract: each return follows from the tests on the way to it (Answers).
-- Assumes nothing.
use mathlib.Core.Path.{◌≡◌, sym, ◌∙◌, ap, subst}
use mathlib.Core.Bool.{false}
use mathlib.Core.List.{List}
use native.Mathlib.Omega.{arith}
use lib.ListN.{length, take}
use Rattle.std.proofs.lemmas.Result.{err_from_is_err_and}
use Rattle.combinators.specs.Lists.{any, take_within}
use Rattle.buffers.specs.Buffers.{Laid}
use Rattle.loop_entries.specs.declared.Entry.{Entry}
use Rattle.loop_writer.specs.Layout.{loop_bytes, too_wide}
use Rattle.loop_writer.specs.Weighing.{Weighs}
use Rattle.loop_writer.proofs.Answers.{some_wide, too_many, decided-refused, decided-written}
use Rattle.loop_writer.proofs.writer.write_loop.Goals as goal

pub returns-then-some_too_wide : goal.returns-then-some_too_wide
returns-then-some_too_wide c =
    let a = c.args in
    let long : length a.entries ≡ 201 = omega arith in
    let same : take c.min-given.result a.entries ≡ take a.count a.entries =
    take_within a.entries a.count c.min-given.result 201 long c.min-given.ensures in
    some_wide a.count a.entries a.out.now (sym (ap (any too_wide) same) ∙ sym c.some_too_wide.ensures ∙ c.if-some_too_wide.true)

pub returns-then-count-gt-MOST_ENTRIES : goal.returns-then-count-gt-MOST_ENTRIES
returns-then-count-gt-MOST_ENTRIES c =
    let a = c.args in
    let long : length a.entries ≡ 201 = omega arith in
    let same : take c.min-given.result a.entries ≡ take a.count a.entries =
    take_within a.entries a.count c.min-given.result 201 long c.min-given.ensures in
    let fine : any too_wide (take a.count a.entries) ≡ false =
    sym (ap (any too_wide) same) ∙ sym c.some_too_wide.ensures ∙ c.if-some_too_wide.false in
    too_many a.count a.entries a.out.now fine c.if-count-gt-MOST_ENTRIES.true

pub weigh-requires : goal.weigh-requires
weigh-requires c = (omega arith, sym c.some_too_wide.ensures ∙ c.if-some_too_wide.false, c.implied_pair-pair.ensures)

pub put_entries-requires : goal.put_entries-requires
put_entries-requires c = (omega arith, sym c.some_too_wide.ensures ∙ c.if-some_too_wide.false)

pub returns-in_err-size : goal.returns-in_err-size
returns-in_err-size c =
    let a = c.args in
    let long : length a.entries ≡ 201 = omega arith in
    let same : take c.min-given.result a.entries ≡ take a.count a.entries =
    take_within a.entries a.count c.min-given.result 201 long c.min-given.ensures in
    let fine : any too_wide (take a.count a.entries) ≡ false =
    sym (ap (any too_wide) same) ∙ sym c.some_too_wide.ensures ∙ c.if-some_too_wide.false in
    let weighed = c.weigh in
    let weighs : Weighs (take a.count a.entries) weighed.result = subst (λ (l : List Entry). Weighs l weighed.result) same weighed.ensures in
    let decided = c.decide in
    let p = err_from_is_err_and c.from_residual.result c.from_residual.ensures.1 in
    rw (p.1, p.2) (decided-refused a.count a.entries a.out.now fine (omega arith) weighed.result weighs _ (sym decided.ensures ∙ c.in_err-size.was))

pub returns : goal.returns
returns c =
    let a = c.args in
    let long : length a.entries ≡ 201 = omega arith in
    let same : take c.min-given.result a.entries ≡ take a.count a.entries =
    take_within a.entries a.count c.min-given.result 201 long c.min-given.ensures in
    let fine : any too_wide (take a.count a.entries) ≡ false =
    sym (ap (any too_wide) same) ∙ sym c.some_too_wide.ensures ∙ c.if-some_too_wide.false in
    let weighed = c.weigh in
    let weighs : Weighs (take a.count a.entries) weighed.result = subst (λ (l : List Entry). Weighs l weighed.result) same weighed.ensures in
    let decided = c.decide in
    let laid = c.put_entries in
    decided-written a.count a.entries a.out.now fine (omega arith) weighed.result weighs c.in_ok-size.size (sym decided.ensures ∙ c.in_ok-size.was) laid.result laid.new.out
    (subst (λ (l : List Entry). Laid a.out.now 0 (loop_bytes l) laid.result laid.new.out) same laid.ensures)
