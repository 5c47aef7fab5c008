-- `entry::put_extra` meets its contract: the descriptor of one of the two layers, and nothing of any other entry.
-- Assumes nothing.
use mathlib.Core.Path.{◌∙◌, ap, sym}
use mathlib.Core.Bool.{Bool, cond}
use mathlib.Core.List.{[]}
use Rattle.combinators.specs.Lists.{gather}
use Rattle.syntax.specs.Table.{fits}
use Rattle.syntax.specs.Filled.{bytes_in}
use Rattle.records.specs.Records.{is_second_view}
use Rattle.mvc_extension.specs.declared.MvcExtension.{MvcExtension}
use Rattle.mvc_extension.specs.MvcExtension.{mvc_extension_descriptor, mvc_extension_fields}
use Rattle.mvc_descriptors.specs.Tables.{mvc_extension_tables}
use Rattle.buffers.proofs.Laws.{laid_as}
use Rattle.stereo_writer.specs.Layout.{extension_for}
use Rattle.stereo_writer.proofs.Sizes.{extension_fits}
use Rattle.stereo_writer.proofs.entry.put_extra.Goals as goal

pub put_mvc_extension-requires : goal.put_mvc_extension-requires
put_mvc_extension-requires c =
    let a = c.args in
    ap (λ (x : MvcExtension). fits mvc_extension_descriptor (mvc_extension_fields x)) c.extension_for-extension.ensures
    ∙ extension_fits a.base a.second c.requires.0 c.requires.1 (is_second_view a.entry.stream_type)

pub returns-then-is_part : goal.returns-then-is_part
returns-then-is_part c =
    let a = c.args in
    laid_as
    (ap (λ (x : MvcExtension). gather bytes_in (mvc_extension_tables x)) c.extension_for-extension.ensures
    ∙ sym (ap (λ (b : Bool). gather bytes_in (cond b (mvc_extension_tables (extension_for a.base a.second a.entry.stream_type)) [])) (sym c.is_part.ensures ∙ c.if-is_part.true)))
    c.put_mvc_extension.ensures

-- LEFT: no goal of today has the name slice-aggregate-put
-- slice-aggregate-put : tie.Need-slice-aggregate-put
-- slice-aggregate-put c = search rules

pub returns : goal.returns
returns c =
    let a = c.args in
    laid_as
    (sym (ap (λ (b : Bool). gather bytes_in (cond b (mvc_extension_tables (extension_for a.base a.second a.entry.stream_type)) [])) (sym c.is_part.ensures ∙ c.if-is_part.false)))
    c.put.ensures
