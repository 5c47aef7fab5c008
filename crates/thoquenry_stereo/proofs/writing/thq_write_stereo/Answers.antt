-- `writing::thq_write_stereo` meets its contract: 25 by three tests, and else what the writer answers.
-- Assumes nothing.
use mathlib.Core.Path.{◌≡◌, ◌∙◌, ap, ap₂, sym}
use mathlib.Core.List.{List}
use native.Mathlib.Omega.{arith}
use lib.ListN.{length}
use Rattle.loop_entries.specs.declared.Entry.{Entry}
use Rattle.mvc_extension.specs.declared.MvcExtension.{MvcExtension}
use Rattle.syntax.specs.Table.{fits}
use Rattle.mvc_extension.specs.MvcExtension.{mvc_extension_descriptor, mvc_extension_fields}
use Rattle.mvc_rows.proofs.Fields.{extension_fits}
use Rattle.stereo_writer.specs.Writing.{stereo_answer, stereo_content}
use Rattle.thoquenry_stereo.specs.Writing.{entries_given, base_given, second_given, set_written}
use Rattle.thoquenry_stereo.proofs.Replies.{answers, buffers, too_wide_lem, entry_wide, first_wide, second_wide, none_wide, row_fits}
use Rattle.thoquenry_stereo.proofs.writing.thq_write_stereo.Goals as goal

pub returns-then-some_too_wide : goal.returns-then-some_too_wide
returns-then-some_too_wide c =
    let a = c.args in
    let entries = a.entries.now in
    let extensions = a.extensions.now in
    let out = a.out.now in
    let same = too_wide_lem entries extensions out (entry_wide entries extensions out (sym c.some_too_wide.ensures ∙ c.if-some_too_wide.true)) in record {
      answer = c.refused.ensures ∙ answers entries extensions out same;
      content = buffers entries extensions out same;
    }

pub returns-then-extension_too_wide : goal.returns-then-extension_too_wide
returns-then-extension_too_wide c =
    let a = c.args in
    let entries = a.entries.now in
    let extensions = a.extensions.now in
    let out = a.out.now in
    let same = too_wide_lem entries extensions out (first_wide entries extensions out (sym c.extension_too_wide.ensures ∙ c.if-extension_too_wide.true)) in record {
      answer = c.refused-then-extension_too_wide.ensures ∙ answers entries extensions out same;
      content = buffers entries extensions out same;
    }

pub returns-then-extension_too_wide-2 : goal.returns-then-extension_too_wide-2
returns-then-extension_too_wide-2 c =
    let a = c.args in
    let entries = a.entries.now in
    let extensions = a.extensions.now in
    let out = a.out.now in
    let same = too_wide_lem entries extensions out (second_wide entries extensions out (sym c.extension_too_wide-2.ensures ∙ c.if-extension_too_wide-2.true)) in record {
      answer = c.refused-then-extension_too_wide-2.ensures ∙ answers entries extensions out same;
      content = buffers entries extensions out same;
    }

pub extension_at-base-requires : goal.extension_at-base-requires
extension_at-base-requires c =
    let extensions = c.args.extensions.now in
    (omega arith, row_fits extensions 0 (sym c.extension_too_wide.ensures ∙ c.if-extension_too_wide.false))

pub extension_at-second-requires : goal.extension_at-second-requires
extension_at-second-requires c =
    let extensions = c.args.extensions.now in
    (omega arith, row_fits extensions 8 (sym c.extension_too_wide-2.ensures ∙ c.if-extension_too_wide-2.false))

pub write_stereo-written-requires : goal.write_stereo-written-requires
write_stereo-written-requires c =
    let extensions = c.args.extensions.now in (
      sym c.some_too_wide.ensures ∙ c.if-some_too_wide.false,
      ap (λ (x : MvcExtension). fits mvc_extension_descriptor (mvc_extension_fields x)) c.extension_at-base.ensures
          ∙ extension_fits extensions 0 (row_fits extensions 0 (sym c.extension_too_wide.ensures ∙ c.if-extension_too_wide.false)),
      ap (λ (x : MvcExtension). fits mvc_extension_descriptor (mvc_extension_fields x)) c.extension_at-second.ensures
          ∙ extension_fits extensions 8 (row_fits extensions 8 (sym c.extension_too_wide-2.ensures ∙ c.if-extension_too_wide-2.false)),
    )

pub returns-in-Ok : goal.returns-in-Ok
returns-in-Ok c =
    let a = c.args in
    let entries = a.entries.now in
    let extensions = a.extensions.now in
    let out = a.out.now in
    let written = c.write_stereo-written in
    let same =
    none_wide entries extensions out (sym c.some_too_wide.ensures ∙ c.if-some_too_wide.false)
    (sym c.extension_too_wide.ensures ∙ c.if-extension_too_wide.false) (sym c.extension_too_wide-2.ensures ∙ c.if-extension_too_wide-2.false) in
    let given : List Entry = entries_given entries in
    let is_answer : written.result ≡ stereo_answer (length out) (base_given extensions) (second_given extensions) given =
    written.ensures.0
    ∙ ap₂ (λ (x y : MvcExtension). stereo_answer (length out) x y given) c.extension_at-base.ensures c.extension_at-second.ensures in
    let is-content =
    written.ensures.1
    ∙ ap₂ (λ (x y : MvcExtension). stereo_content x y given out) c.extension_at-base.ensures c.extension_at-second.ensures in record {
      answer = c.accepted.ensures ∙ sym (ap set_written (sym is_answer ∙ c.in-Ok.is)) ∙ answers entries extensions out same;
      content = is-content ∙ buffers entries extensions out same;
    }

pub returns-in-Err : goal.returns-in-Err
returns-in-Err c =
    let a = c.args in
    let entries = a.entries.now in
    let extensions = a.extensions.now in
    let out = a.out.now in
    let written = c.write_stereo-written in
    let same =
    none_wide entries extensions out (sym c.some_too_wide.ensures ∙ c.if-some_too_wide.false)
    (sym c.extension_too_wide.ensures ∙ c.if-extension_too_wide.false) (sym c.extension_too_wide-2.ensures ∙ c.if-extension_too_wide-2.false) in
    let given : List Entry = entries_given entries in
    let is_answer : written.result ≡ stereo_answer (length out) (base_given extensions) (second_given extensions) given =
    written.ensures.0
    ∙ ap₂ (λ (x y : MvcExtension). stereo_answer (length out) x y given) c.extension_at-base.ensures c.extension_at-second.ensures in
    let is-content =
    written.ensures.1
    ∙ ap₂ (λ (x y : MvcExtension). stereo_content x y given out) c.extension_at-base.ensures c.extension_at-second.ensures in record {
      answer = c.refused-in-Err.ensures ∙ sym (ap set_written (sym is_answer ∙ c.in-Err.is)) ∙ answers entries extensions out same;
      content = is-content ∙ buffers entries extensions out same;
    }
