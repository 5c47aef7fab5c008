-- `records::names` meets its contract: which arm was taken says which record it is, and the callee gathers what it lists.
-- Assumes nothing.
use mathlib.Core.Path.{◌≡◌, ◌∙◌, ap, sym}
use mathlib.Core.List.{List, map}
use native.Mathlib.Omega.{arith}
use lib.ListN.{length}
use Rattle.vocabulary.specs.declared.LayerIndex.{LayerIndex}
use Rattle.records.specs.declared.Record.{Record}
use Rattle.records.specs.Records.{plain, with_indices, names_of}
use Rattle.records.proofs.Naming.{all_listed}
use Rattle.records.proofs.names.Goals as goal

pub returns-in-Hierarchy : goal.returns-in-Hierarchy
returns-in-Hierarchy c =
    let a = c.args in
    c.names_of_hierarchy.ensures ∙ sym (ap (λ (r : Record). names_of a.stream_type r a.embedded) c.in-Hierarchy.is)

pub returns-in-Extension : goal.returns-in-Extension
returns-in-Extension c =
    let a = c.args in
    let extension = c.in-Extension.extension in
    let room : length a.embedded ≡ 63 = omega arith in
    let all = all_listed a.embedded extension.num_embedded_layers c.listed_count-count.result room c.listed_count-count.ensures in
    c.names_in.ensures ∙ ap (λ (l : List LayerIndex). with_indices 0 (map plain l)) all ∙ sym (ap (λ (r : Record). names_of a.stream_type r a.embedded) c.in-Extension.is)

pub returns-in-Implied : goal.returns-in-Implied
returns-in-Implied c =
    let a = c.args in
    c.implied_names.ensures ∙ sym (ap (λ (r : Record). names_of a.stream_type r a.embedded) c.in-Implied.is)
