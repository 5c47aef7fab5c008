-- `recordings::answer_of` meets its contract: each test picks the case of the definition. Assumes nothing.
use Rattle.std.specs.Prelude.{Err}
use borrow.Author.Tests.{lt-ltb, le-ltb}
use mathlib.Core.Path.{refl, sym, ap, ◌∙◌}
use Rattle.vocabulary.specs.declared.refusal.Refusal.{Refusal}
use Rattle.recordings.specs.declared.RecordingFault.TheVariants.{Faulty, NotRead}
use Rattle.recordings.proofs.Answering.{answer_by_lem}
use Rattle.recordings.proofs.answer_of.Goals as goal

pub returns-then-fault-lt34 : goal.returns-then-fault-lt34
returns-then-fault-lt34 c =
    let f = c.args.found in
    ap (λ (r : Refusal). Err (Faulty r)) c.fault_of.ensures ∙ sym (answer_by_lem f c.args.room (lt-ltb f.fault.number 34 c.if-fault-lt34.true) refl refl)

pub returns-then-refusal-lt25 : goal.returns-then-refusal-lt25
returns-then-refusal-lt25 c =
    let f = c.args.found in
    ap (λ (r : Refusal). Err (NotRead r f.refusal.packet)) c.header_refusal.ensures
    ∙ sym (answer_by_lem f c.args.room (le-ltb f.fault.number 34 c.if-fault-lt34.false) (lt-ltb f.refusal.number 25 c.if-refusal-lt25.true) refl)

pub returns-then-room-found : goal.returns-then-room-found
returns-then-room-found c =
    let f = c.args.found in
    sym (answer_by_lem f c.args.room (le-ltb f.fault.number 34 c.if-fault-lt34.false) (le-ltb f.refusal.number 25 c.if-refusal-lt25.false) (lt-ltb c.args.room f.rows c.if-room-found.true))

pub returns : goal.returns
returns c =
    let f = c.args.found in
    sym (answer_by_lem f c.args.room (le-ltb f.fault.number 34 c.if-fault-lt34.false) (le-ltb f.refusal.number 25 c.if-refusal-lt25.false) (le-ltb c.args.room f.rows c.if-room-found.false))
