-- `records::layer_index` meets its contract: which arm was taken says where the index stands.
-- Assumes nothing.
use mathlib.Core.Path.{◌∙◌, ap, sym}
use Rattle.records.specs.declared.Record.{Record}
use Rattle.records.specs.Records.{index_of}
use Rattle.records.proofs.layer_index.Goals as goal

pub returns-in-NoRecord : goal.returns-in-NoRecord
returns-in-NoRecord c =
    let a = c.args in
    sym (ap (λ (r : Record). record { 0 = index_of a.stream_type r }) c.in-NoRecord.is)

pub returns-in-Hierarchy : goal.returns-in-Hierarchy
returns-in-Hierarchy c =
    let a = c.args in
    sym (ap (λ (r : Record). record { 0 = index_of a.stream_type r }) c.in-Hierarchy.is)

pub returns-in-Extension : goal.returns-in-Extension
returns-in-Extension c =
    let a = c.args in
    sym (ap (λ (r : Record). record { 0 = index_of a.stream_type r }) c.in-Extension.is)

pub returns-in-Implied : goal.returns-in-Implied
returns-in-Implied c =
    let a = c.args in
    c.implied_index.ensures ∙ sym (ap (λ (r : Record). record { 0 = index_of a.stream_type r }) c.in-Implied.is)
