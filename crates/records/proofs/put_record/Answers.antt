-- `put_record` meets its contract: which arm was taken says which record it is.
-- Assumes nothing.
use Rattle.buffers.proofs.Laws.{laid_as}
use mathlib.Core.Logic.{inl, inr}
use mathlib.Core.Path.{sym, ◌∙◌, ap}
use Rattle.combinators.specs.Lists.{any, gather}
use Rattle.records.specs.declared.Record.{Record}
use Rattle.syntax.specs.Filled.{bytes_in, too_wide_in}
use Rattle.records.specs.Records.{record_tables}
use Rattle.records.proofs.put_record.Goals as goal

pub put_hierarchy-requires : goal.put_hierarchy-requires
put_hierarchy-requires c =
    sym (ap (λ (r : Record). any too_wide_in (record_tables r c.args.embedded)) c.in-Hierarchy.is) ∙ c.requires

pub put_extension-requires : goal.put_extension-requires
put_extension-requires c =
    sym (ap (λ (r : Record). any too_wide_in (record_tables r c.args.embedded)) c.in-Extension.is) ∙ c.requires

pub returns-in-NoRecord : goal.returns-in-NoRecord
returns-in-NoRecord c =
    elim c.in-NoRecord.is [
      | inl e ↦ laid_as (sym (ap (λ (r : Record). gather bytes_in (record_tables r c.args.embedded)) e)) c.put.ensures
      | inr e ↦ laid_as (sym (ap (λ (r : Record). gather bytes_in (record_tables r c.args.embedded)) e)) c.put.ensures
    ]

pub returns-in-Hierarchy : goal.returns-in-Hierarchy
returns-in-Hierarchy c =
    laid_as (sym (ap (λ (r : Record). gather bytes_in (record_tables r c.args.embedded)) c.in-Hierarchy.is)) c.put_hierarchy.ensures

pub returns-in-Extension : goal.returns-in-Extension
returns-in-Extension c =
    laid_as (sym (ap (λ (r : Record). gather bytes_in (record_tables r c.args.embedded)) c.in-Extension.is)) c.put_extension.ensures
