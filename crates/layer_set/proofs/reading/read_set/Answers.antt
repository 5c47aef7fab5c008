-- `read_set` meets its contract: the verdict says whether the layers of the loop are placed.
-- Assumes nothing.
use Rattle.std.specs.Prelude.{Err, Ok}
use mathlib.Core.Path.{◌∙◌, ap, sym}
use Rattle.loop_entries.specs.Entries.{streams_of}
use Rattle.es_loop.specs.Reading.{answer_by}
use Rattle.loop_layers.proofs.Meant.{entries_read_lem}
use Rattle.loop_layers.proofs.Walked.{counted_verdict}
use Rattle.layer_set.specs.declared.«set».LayerSet.{LayerSet}
use Rattle.layer_set.specs.Sets.{worked_set, set_of, set_read, loop_set}
use Rattle.layer_set.proofs.reading.read_set.Goals as goal

pub placed_in-requires : goal.placed_in-requires
placed_in-requires c =
    let a = c.args in
    counted_verdict a.reading a.bytes.now (sym c.judge.ensures ∙ c.in-Ok.is)

pub returns-in-Ok : goal.returns-in-Ok
unfolding loop_set
returns-in-Ok c =
    let a = c.args in
    let verdict = sym c.judge.ensures ∙ c.in-Ok.is in
    ap (λ (l : LayerSet). record { outcome = Ok tt; «set» = l })
    (c.work-set.ensures ∙ ap worked_set c.placed_in.ensures ∙ ap set_of (sym (entries_read_lem (streams_of a.reading a.bytes.now))))
    ∙ ap (λ v. set_read (answer_by (streams_of a.reading a.bytes.now) v)) (sym verdict)

pub returns-in-Err : goal.returns-in-Err
unfolding loop_set
returns-in-Err c =
    let a = c.args in
    let verdict = sym c.judge.ensures ∙ c.in-Err.is in
    ap (λ (l : LayerSet). record { outcome = Err c.in-Err.refusal; «set» = l }) c.empty-set.ensures
    ∙ ap (λ v. set_read (answer_by (streams_of a.reading a.bytes.now) v)) (sym verdict)
