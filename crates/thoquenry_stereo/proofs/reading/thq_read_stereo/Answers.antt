-- `reading::thq_read_stereo` meets its contract: the outcome says whether the set is laid.
-- Assumes nothing.
use mathlib.Core.Path.{◌≡◌, ◌∙◌, ap, sym}
use Rattle.es_loop.specs.Answer.{Outcome}
use Rattle.stereo_set.specs.declared.set.StereoRead.{StereoRead}
use Rattle.thoquenry_stereo.specs.Reading.{Left, set_laid, set_read, read_stereo, unchanged_both}
use Rattle.thoquenry_stereo.proofs.reading.thq_read_stereo.Goals as goal

pub returns-in-Ok : goal.returns-in-Ok
returns-in-Ok c =
    let a = c.args in
    let read = c.read_stereo-read in
    let laid = c.lay_set in
    let same : set_laid read.result a.entries.now a.extensions.now ≡ read_stereo a.bytes.now a.entries.now a.extensions.now =
    sym (ap (λ (o : Outcome). set_read o read.result a.entries.now a.extensions.now) c.in-Ok.is)
    ∙ ap (λ (r : StereoRead). set_read r.outcome r a.entries.now a.extensions.now) read.ensures in record {
      answer = laid.ensures.answer ∙ ap (λ (l : Left). l.answer) same;
      rows = laid.ensures.rows ∙ ap (λ (l : Left). l.entries) same;
      beside = laid.ensures.beside ∙ ap (λ (l : Left). l.extensions) same;
    }

pub returns-in-Err : goal.returns-in-Err
returns-in-Err c =
    let a = c.args in
    let read = c.read_stereo-read in
    let same : unchanged_both c.in-Err.refusal a.entries.now a.extensions.now ≡ read_stereo a.bytes.now a.entries.now a.extensions.now =
    sym (ap (λ (o : Outcome). set_read o read.result a.entries.now a.extensions.now) c.in-Err.is)
    ∙ ap (λ (r : StereoRead). set_read r.outcome r a.entries.now a.extensions.now) read.ensures in record {
      answer = c.refused.ensures ∙ ap (λ (l : Left). l.answer) same;
      rows = ap (λ (l : Left). l.entries) same;
      beside = ap (λ (l : Left). l.extensions) same;
    }
