-- `es_loop::read_loop` meets its contract: the verdict says whether the entries are laid out.
-- Assumes nothing.
use Rattle.std.specs.Prelude.{Ok}
use Rattle.es_loop.specs.Answer.{entries_judged}
use Prim.Native.Nat.{ℕ}
use mathlib.Core.Path.{◌∙◌, ap, ap₂, sym}
use mathlib.Core.List.{List}
use Rattle.loop_entries.specs.declared.Entry.{Entry}
use Rattle.loop_entries.specs.Entries.{streams_of}
use Rattle.es_loop.specs.Reading.{answer_by}
use Rattle.es_loop.proofs.Verdicts.{sound}
use Rattle.es_loop.proofs.reader.read_loop.Goals as goal

pub entries_in-requires : goal.entries_in-requires
entries_in-requires c =
    let a = c.args in
    let verdict = sym c.judge.ensures ∙ c.in-Ok.is in
    verdict ∙ ap (λ (n : ℕ). entries_judged n c.in-Ok.judged.pair) (sound a.reading a.bytes.now c.in-Ok.judged.count c.in-Ok.judged.pair verdict).counted

pub returns-in-Err : goal.returns-in-Err
returns-in-Err c =
    let a = c.args in
    c.refused.ensures
    ∙ ap (answer_by (streams_of a.reading a.bytes.now)) (sym c.in-Err.is ∙ c.judge.ensures)

pub returns-in-Ok : goal.returns-in-Ok
returns-in-Ok c =
    let a = c.args in
    let verdict = sym c.judge.ensures ∙ c.in-Ok.is in
    ap₂ (λ (n : ℕ) (l : List Entry). record { outcome = Ok tt; count = n; entries = l })
    (sound a.reading a.bytes.now c.in-Ok.judged.count c.in-Ok.judged.pair verdict).counted c.entries_in.ensures
    ∙ ap (answer_by (streams_of a.reading a.bytes.now)) (sym verdict)
