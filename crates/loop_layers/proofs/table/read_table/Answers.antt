-- `loop_layers::read_table` meets its contract: the verdict says whether the table of the loop is laid out.
-- Assumes nothing.
use Rattle.std.specs.Prelude.{Err, Ok}
use mathlib.Core.Path.{◌∙◌, ap, sym}
use Rattle.loop_layers.specs.declared.table.LayerTable.{LayerTable}
use Rattle.loop_entries.specs.Entries.{streams_of}
use Rattle.es_loop.specs.Reading.{answer_by}
use Rattle.loop_layers.specs.Layers.{table_of}
use Rattle.loop_layers.specs.Closures.{table_in}
use Rattle.loop_layers.proofs.Meant.{entries_read_lem}
use Rattle.loop_layers.proofs.Walked.{counted_verdict}
use Rattle.loop_layers.proofs.table.read_table.Goals as goal

pub table_in-requires : goal.table_in-requires
table_in-requires c =
    let a = c.args in
    counted_verdict a.reading a.bytes.now (sym c.judge.ensures ∙ c.in-Ok.is)

pub returns-in-Ok : goal.returns-in-Ok
returns-in-Ok c =
    let a = c.args in
    let verdict = sym c.judge.ensures ∙ c.in-Ok.is in
    ap (λ (l : LayerTable). record { outcome = Ok tt; table = l })
    (c.table_in.ensures ∙ ap table_of (sym (entries_read_lem (streams_of a.reading a.bytes.now))))
    ∙ ap (λ v. table_in (answer_by (streams_of a.reading a.bytes.now) v)) (sym verdict)

pub returns-in-Err : goal.returns-in-Err
returns-in-Err c =
    let a = c.args in
    let verdict = sym c.judge.ensures ∙ c.in-Err.is in
    ap (λ (l : LayerTable). record { outcome = Err c.in-Err.refusal; table = l }) c.no_table.ensures
    ∙ ap (λ v. table_in (answer_by (streams_of a.reading a.bytes.now) v)) (sym verdict)
