-- `piece_feeding::at_end` meets its contract: the test picks the case. Assumes nothing.
use borrow.Author.Tests.{eq-eqb, ne_eqb}
use mathlib.Core.Path.{sym, ap, ◌∙◌}
use mathlib.Core.Bool.{Bool, cond}
use Rattle.scanning.specs.declared.events.Event.TheVariants.{Fault}
use Rattle.unit_starts.specs.Finding.{noted}
use Rattle.piece_feeding.proofs.at_end.Goals as goal

pub returns-then-progress-eq0 : goal.returns-then-progress-eq0
returns-then-progress-eq0 c =
    let p = c.args.progress in
    sym (ap (λ (t : Bool). cond t p.found (noted p.number (Fault 30) p.found)) (eq-eqb p.part 0 c.if-progress-eq0.true))

pub returns : goal.returns
returns c =
    let p = c.args.progress in
    c.note.ensures ∙ sym (ap (λ (t : Bool). cond t p.found (noted p.number (Fault 30) p.found)) (ne_eqb p.part 0 c.if-progress-eq0.false))
