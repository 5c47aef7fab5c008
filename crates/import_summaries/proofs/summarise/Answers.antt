-- `import_summaries::summarise` meets its contract: the two numbers and the rows, or the refusal. Assumes nothing.
use mathlib.Core.Path.{sym, ◌∙◌, ap}
use mathlib.Core.List.{[], ◌∷◌}
use Rattle.buffers.proofs.Laws.{sets_over}
use Rattle.recording_imports.specs.Answer.{Imported}
use Rattle.packet_answers.specs.Answers.{imported_answer}
use Rattle.import_summaries.specs.Summaries.{summary_after}
use Rattle.import_summaries.proofs.summarise.Goals as goal

pub returns-in-Ok : goal.returns-in-Ok
returns-in-Ok c =
    let a = c.args in record {
      answer = c.accepted.ensures ∙ sym (ap imported_answer c.in-Ok.is);
      content = sets_over (c.in-Ok.joined.closure ∷ c.in-Ok.joined.units ∷ []) a.summary.now c.requires ∙ sym (ap (λ (j : Imported). summary_after j a.summary.now) c.in-Ok.is);
    }
