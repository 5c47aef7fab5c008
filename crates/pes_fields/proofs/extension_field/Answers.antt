-- `pes_fields::extension_field` meets its contract: each test settles one test of the definition, and TREF is read by its own
-- function. Assumes nothing.
use borrow.Author.Tests.{le-leb, lt-leb}
use native.Mathlib.Omega.{arith}
use mathlib.Core.Path.{ap, ◌∙◌}
use lib.ListN.{length, drop, length-drop}
use Rattle.combinators.specs.Lists.{part_to_end}
use Rattle.stamps.specs.Tables.{tref}
use Rattle.stamps.specs.Stamps.{stamp_of}
use Rattle.stamps.specs.declared.Stamp.{Stamp}
use Rattle.pes_fields.specs.HeaderData.{with_marker}
use Rattle.pes_fields.proofs.HeaderDataLaws.{tref_flagged_lem, no_stream_id_extension, no_tref}
use Rattle.pes_fields.specs.declared.Extension.TheVariants.{WithTref}
use Rattle.pes_fields.proofs.extension_field.Goals as goal

pub returns-then-field-lt1 : goal.returns-then-field-lt1
returns-then-field-lt1 c =
    simp (lt-leb _ _ c.if-field-lt1.true)

pub returns-then-flags-lt128 : goal.returns-then-flags-lt128
returns-then-flags-lt128 c =
    simp (le-leb _ _ c.if-field-lt1.false, no_stream_id_extension _ c.if-flags-lt128.true)

pub returns-then-flags-eq1 : goal.returns-then-flags-eq1
returns-then-flags-eq1 c =
    simp (le-leb _ _ c.if-field-lt1.false, no_tref _ c.if-flags-eq1.true)

pub returns-then-field-lt6 : goal.returns-then-field-lt6
returns-then-field-lt6 c =
    let l = c.args.field.now in
    simp (
      le-leb _ _ c.if-field-lt1.false,
      tref_flagged_lem _ (c.shared_slice_known-1.given 0).fits c.if-flags-lt128.false c.if-flags-eq1.false,
      lt-leb 5 (length (drop 1 l)) (omega (arith, length-drop 1 l, c.if-field-lt6.true)),
    )

pub returns : goal.returns
returns c =
    let l = c.args.field.now in
    simp (
      le-leb _ _ c.if-field-lt1.false,
      tref_flagged_lem _ (c.shared_slice_known-1.given 0).fits c.if-flags-lt128.false c.if-flags-eq1.false,
      le-leb 5 (length (drop 1 l)) (omega (arith, length-drop 1 l, c.if-field-lt6.false)),
    )
    (ap (λ (s : Stamp). WithTref (with_marker c.args.marked s)) (c.unprefixed-tref.ensures ∙ ap (stamp_of tref) (part_to_end l 1)))
