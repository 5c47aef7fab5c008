-- `es_loop::judge` meets its contract: the branch says whether the loop is longer than 1,008 bytes.
-- Assumes nothing.
use Rattle.std.specs.Prelude.{Err}
use mathlib.Core.Path.{◌∙◌, ap, sym}
use mathlib.Core.Bool.{Bool, cond}
use borrow.Author.Tests.{lt-ltb, le-ltb}
use lib.ListN.{length}
use Rattle.vocabulary.specs.declared.refusal.Refusal.TheVariants.{LoopTooLong}
use Rattle.loop_entries.specs.Entries.{streams_of}
use Rattle.es_loop.specs.Reading.{judged}
use borrow.Author.Rules.{rules}
use Rattle.es_loop.proofs.verdict.judge.Goals as goal

pub returns-then-bytes-gt-MOST_BYTES : goal.returns-then-bytes-gt-MOST_BYTES
returns-then-bytes-gt-MOST_BYTES c =
    let a = c.args in
    sym (ap (λ (b : Bool). cond b (Err LoopTooLong) (judged (streams_of a.reading a.bytes.now))) (lt-ltb 1008 (length a.bytes.now) c.if-bytes-gt-MOST_BYTES.true))

pub judge_entries-requires : goal.judge_entries-requires
judge_entries-requires c = (search rules, c.implied_pair.ensures)

pub returns : goal.returns
returns c =
    let a = c.args in
    c.judge_entries.ensures
    ∙ sym (ap (λ (b : Bool). cond b (Err LoopTooLong) (judged (streams_of a.reading a.bytes.now))) (le-ltb 1008 (length a.bytes.now) c.if-bytes-gt-MOST_BYTES.false))
