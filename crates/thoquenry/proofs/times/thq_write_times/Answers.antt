-- `times::thq_write_times` meets its contract: 25 where the choice is neither of two, and then the writer's answer, as one number.
-- Assumes nothing.
use Prim.Native.Nat.{ℕ}
use mathlib.Core.Path.{◌≡◌, sym, ◌∙◌, ap}
use mathlib.Core.Bool.{Bool, cond}
use mathlib.Core.List.{List}
use borrow.Author.Tests.{lt-ltb, le-ltb}
use lib.Dec.{eqb, ltb}
use Rattle.vocabulary.specs.declared.refusal.Refusal.TheVariants.{TooWide}
use Rattle.stamps.specs.declared.Times.{Times}
use Rattle.pes_writer.specs.Answer.{Written}
use Rattle.pes_writer.specs.Writing.{header_of, buffer_of}
use Rattle.c_answers.specs.Answers.{Reply, unchanged}
use Rattle.thoquenry.specs.Times.{bytes_written, times_written}
use Rattle.thoquenry.proofs.Replies.{answers, buffers}
use Rattle.thoquenry.proofs.times.thq_write_times.Goals as goal

abbrev times : ℕ → ℕ → ℕ → Times
times pts decoding matching = record { pts = pts; decoding = decoding; matching = matching }

-- 25 of the choice, or what the writer answers
by-choice : (choice : ℕ) (out : List ℕ) (else : Reply) (t : Bool) → ltb 1 choice ≡ t
    → cond t (unchanged TooWide out) else ≡ cond (ltb 1 choice) (unchanged TooWide out) else
by-choice choice out else t e = ap (λ (t : Bool). cond t (unchanged TooWide out) else) (sym e)

pub returns-then-with_tref-gt1 : goal.returns-then-with_tref-gt1
returns-then-with_tref-gt1 c =
    let a = c.args in
    let same = by-choice a.with_tref a.out.now (times_written (times a.pts a.decoding a.matching) (eqb a.with_tref 1) a.out.now) _ (lt-ltb 1 a.with_tref c.if-with_tref-gt1.true) in record {
      answer = c.refused.ensures ∙ answers same;
      content = buffers same;
    }

pub returns-in-Ok : goal.returns-in-Ok
returns-in-Ok c =
    let a = c.args in
    let written = c.write-written in
    let given = times a.pts a.decoding a.matching in
    let choice = eqb a.with_tref 1 in
    let same = by-choice a.with_tref a.out.now (times_written given choice a.out.now) _ (le-ltb 1 a.with_tref c.if-with_tref-gt1.false) in record {
      answer = c.accepted.ensures ∙ sym (ap bytes_written c.in-Ok.is) ∙ ap bytes_written written.ensures.value ∙ answers same;
      content = written.ensures.out_after ∙ ap (λ (w : Written). buffer_of w (header_of given choice) a.out.now) written.ensures.value ∙ buffers same;
    }

pub returns-in-Err : goal.returns-in-Err
returns-in-Err c =
    let a = c.args in
    let written = c.write-written in
    let given = times a.pts a.decoding a.matching in
    let choice = eqb a.with_tref 1 in
    let same = by-choice a.with_tref a.out.now (times_written given choice a.out.now) _ (le-ltb 1 a.with_tref c.if-with_tref-gt1.false) in record {
      answer = c.refused-in-Err.ensures ∙ sym (ap bytes_written c.in-Err.is) ∙ ap bytes_written written.ensures.value ∙ answers same;
      content = written.ensures.out_after ∙ ap (λ (w : Written). buffer_of w (header_of given choice) a.out.now) written.ensures.value ∙ buffers same;
    }
