-- `pes_writer::head_for` meets its contract: the head's table at the values that its callees answer.
-- Assumes nothing.
use native.Mathlib.Omega.{arith}
use Prim.Native.Nat.{ℕ}
use mathlib.Core.Path.{ap, ap₂, ◌∙◌}
use Rattle.syntax.specs.Named.{write_by}
use Rattle.pes_fields.specs.Tables.{head}
use Rattle.pes_writer.specs.Writing.{head_given, pts_dts_flags_of, extension_flag_of}
use Rattle.pes_writer.proofs.WritingLaws.{flags_below, extension_below}
use Rattle.pes_writer.proofs.head_for.Goals as goal

pub head_of-requires : goal.head_of-requires
head_of-requires c = (
  omega (arith, flags_below c.args.times.pts c.args.times.decoding, c.pts_dts_flags.ensures),
  omega (arith, extension_below c.args.with_tref, c.extension_flag.ensures),
)

pub returns : goal.returns
returns c =
    let a = c.args in
    c.head_of.ensures
    ∙ ap₂ (λ (f e : ℕ). write_by head (head_given f e c.data_length.result)) c.pts_dts_flags.ensures c.extension_flag.ensures
    ∙ ap (λ (n : ℕ). write_by head (head_given (pts_dts_flags_of a.times.pts a.times.decoding) (extension_flag_of a.with_tref) n)) c.data_length.ensures
