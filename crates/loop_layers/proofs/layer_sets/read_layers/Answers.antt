-- `loop_layers::read_layers` meets its contract: the verdict says whether the layers of the loop are laid out.
-- Assumes nothing.
use Rattle.std.specs.Prelude.{Err, Ok}
use mathlib.Core.Path.{◌∙◌, ap, sym}
use Rattle.closure.specs.declared.Layers.{Layers}
use Rattle.loop_entries.specs.Entries.{streams_of}
use Rattle.es_loop.specs.Reading.{answer_by}
use Rattle.loop_layers.specs.Layers.{layers_of}
use Rattle.loop_layers.specs.Closures.{layers_in}
use Rattle.loop_layers.proofs.Meant.{entries_read_lem}
use Rattle.loop_layers.proofs.Walked.{counted_verdict}
use Rattle.loop_layers.proofs.layer_sets.read_layers.Goals as goal

pub layers_in-requires : goal.layers_in-requires
layers_in-requires c =
    let a = c.args in
    counted_verdict a.reading a.bytes.now (sym c.judge.ensures ∙ c.in-Ok.is)

pub returns-in-Ok : goal.returns-in-Ok
returns-in-Ok c =
    let a = c.args in
    let verdict = sym c.judge.ensures ∙ c.in-Ok.is in
    ap (λ (l : Layers). record { outcome = Ok tt; layers = l })
    (c.layers_in.ensures ∙ ap layers_of (sym (entries_read_lem (streams_of a.reading a.bytes.now))))
    ∙ ap (λ v. layers_in (answer_by (streams_of a.reading a.bytes.now) v)) (sym verdict)

pub returns-in-Err : goal.returns-in-Err
returns-in-Err c =
    let a = c.args in
    let verdict = sym c.judge.ensures ∙ c.in-Err.is in
    ap (λ (l : Layers). record { outcome = Err c.in-Err.refusal; layers = l }) c.no_layers.ensures
    ∙ ap (λ v. layers_in (answer_by (streams_of a.reading a.bytes.now) v)) (sym verdict)
