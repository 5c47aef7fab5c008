-- `row_laying::lay_tail` meets its contract: only an extension counts embedded layers.
-- Assumes nothing.
use mathlib.Core.Logic.{inl, inr}
use mathlib.Core.Path.{sym, ◌∙◌, ap}
use mathlib.Core.List.{◌++◌}
use lib.ListN.{take}
use Rattle.records.specs.declared.Record.{Record}
use Rattle.entry_rows.specs.Rows.{tail_of}
use Rattle.row_laying.proofs.lay_tail.Goals as goal

pub returns-in-NoRecord : goal.returns-in-NoRecord
unfolding tail_of
returns-in-NoRecord c =
    let a = c.args in
    elim c.in-NoRecord.is [
      | inl e ↦ c.clear_tail.ensures ∙ sym (ap (λ (r : Record). take 16 a.row.now ++ tail_of r a.embedded) e)
      | inr f ↦ elim f [ inl w ↦ c.clear_tail.ensures ∙ sym (ap (λ (r : Record). take 16 a.row.now ++ tail_of r a.embedded) w.1) | inr e ↦ c.clear_tail.ensures ∙ sym (ap (λ (r : Record). take 16 a.row.now ++ tail_of r a.embedded) e) ]
    ]

pub returns-in-Extension : goal.returns-in-Extension
unfolding tail_of
returns-in-Extension c =
    let a = c.args in
    c.lay_layers.ensures ∙ sym (ap (λ (r : Record). take 16 a.row.now ++ tail_of r a.embedded) c.in-Extension.is)
