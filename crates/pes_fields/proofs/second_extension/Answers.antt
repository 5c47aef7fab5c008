-- `pes_fields::second_extension` meets its contract: the two tests are those of the definition, and the field within the
-- length goes to its own function. Assumes nothing.
use borrow.Author.Tests.{le-leb, lt-leb}
use native.Mathlib.Omega.{arith}
use Prim.Native.Nat.{ℕ, ◌+◌, ◌-◌}
use mathlib.Core.Path.{◌≡◌, ap, ap₂, ◌∙◌}
use lib.ListN.{length, take, drop, get_or, length-drop}
use Rattle.syntax.specs.Named.{named}
use Rattle.pes_fields.specs.Tables.{second_extension}
use Rattle.pes_fields.specs.HeaderData.{extension_field_of}
use Rattle.pes_fields.proofs.HeaderDataLaws.{length_of_second, marker_of_second}
use Rattle.pes_fields.proofs.second_extension.Goals as goal

pub returns-then-bytes-lt1 : goal.returns-then-bytes-lt1
returns-then-bytes-lt1 c =
    simp (lt-leb _ _ c.if-bytes-lt1.true)

pub returns-then-bytes-end : goal.returns-then-bytes-end
returns-then-bytes-end c =
    let l = c.args.bytes.now in
    let b = get_or l 0 0 in
    simp (
      le-leb _ _ c.if-bytes-lt1.false,
      lt-leb (named "PES_extension_field_length" second_extension b) (length (drop 1 l)) (omega (arith, length-drop 1 l, length_of_second b, c.from-end.ensures, c.if-bytes-end.true)),
    )

pub returns : goal.returns
returns c =
    let l = c.args.bytes.now in
    let b = get_or l 0 0 in
    let e : c.from-end.result ≡ named "PES_extension_field_length" second_extension b = omega (arith, length_of_second b, c.from-end.ensures) in
    let part : 1 + c.from-end.result - 1 ≡ named "PES_extension_field_length" second_extension b = omega arith in
    simp (
      le-leb _ _ c.if-bytes-lt1.false,
      le-leb (named "PES_extension_field_length" second_extension b) (length (drop 1 l)) (omega (arith, length-drop 1 l, e, c.if-bytes-end.false)),
    )
    (c.extension_field.ensures
    ∙ ap₂ extension_field_of (marker_of_second b (c.shared_slice_known-1.given 0).fits) (ap (λ (n : ℕ). take n (drop 1 l)) part))
