-- `pes_writer::data_length` meets its contract: the header data are PTS and DTS, and the extension.
-- Assumes nothing.
use native.Mathlib.Omega.{arith}
use Rattle.pes_writer.proofs.WritingLaws.{times_at_most, tref_length_lem, tref_at_most, data_length}
use Rattle.pes_writer.proofs.data_length.Goals as goal

pub overflow_add-result : goal.overflow_add-result
overflow_add-result c =
    let a = c.args in
    omega (
      arith,
      times_at_most a.times.pts a.times.decoding,
      tref_at_most a.with_tref,
      c.times_length.ensures,
      c.tref_length.ensures,
    )

pub returns : goal.returns
returns c =
    let a = c.args in
    omega (
      arith,
      data_length a.times a.with_tref,
      tref_length_lem a.with_tref a.times.matching,
      c.times_length.ensures,
      c.tref_length.ensures,
    )
