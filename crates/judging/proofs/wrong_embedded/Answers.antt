-- `judging::wrong_embedded` meets its contract: which arm was taken says which record it is, and the callee judges what it lists.
-- Assumes nothing.
use mathlib.Core.Logic.{inl, inr}
use mathlib.Core.Path.{◌≡◌, ◌∙◌, ap, sym}
use mathlib.Core.List.{List, map}
use native.Mathlib.Omega.{arith}
use lib.ListN.{length}
use Rattle.vocabulary.specs.declared.LayerIndex.{LayerIndex}
use Rattle.records.specs.declared.Record.{Record}
use Rattle.records.specs.Records.{plain}
use Rattle.judging.specs.Judging.{wrong_list, wrong_embedded}
use Rattle.records.proofs.Naming.{all_listed}
use Rattle.judging.proofs.Meant.{implied_sound}
use Rattle.judging.proofs.wrong_embedded.Goals as goal

pub returns-in-NoRecord : goal.returns-in-NoRecord
returns-in-NoRecord c stream_type =
    let a = c.args in
    elim c.in-NoRecord.is [
      | inl e ↦ sym (ap (λ (r : Record). wrong_embedded stream_type r a.embedded) e)
      | inr e ↦ sym (implied_sound stream_type a.embedded) ∙ sym (ap (λ (r : Record). wrong_embedded stream_type r a.embedded) e)
    ]

pub returns-in-Hierarchy : goal.returns-in-Hierarchy
returns-in-Hierarchy c stream_type =
    let a = c.args in
    c.wrong_hierarchy_index.ensures ∙ sym (ap (λ (r : Record). wrong_embedded stream_type r a.embedded) c.in-Hierarchy.is)

pub returns-in-Extension : goal.returns-in-Extension
returns-in-Extension c stream_type =
    let a = c.args in
    let extension = c.in-Extension.extension in
    let room : length a.embedded ≡ 63 = omega arith in
    let all = all_listed a.embedded extension.num_embedded_layers c.listed_count-count.result room c.listed_count-count.ensures in
    c.wrong_list.ensures ∙ ap (λ (l : List LayerIndex). wrong_list extension.layer_index.0 (map plain l)) all ∙ sym (ap (λ (r : Record). wrong_embedded stream_type r a.embedded) c.in-Extension.is)
