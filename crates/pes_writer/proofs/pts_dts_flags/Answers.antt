-- `pes_writer::pts_dts_flags` meets its contract: its test is the definition's.
-- Assumes nothing.
use borrow.Author.Tests.{eq-eqb, ne_eqb}
use Rattle.pes_writer.proofs.pts_dts_flags.Goals as goal

pub returns-then-pts-decoding : goal.returns-then-pts-decoding
returns-then-pts-decoding c =
    simp (eq-eqb _ _ c.if-pts-decoding.true)

pub returns-else-pts-decoding : goal.returns-else-pts-decoding
returns-else-pts-decoding c =
    simp (ne_eqb _ _ c.if-pts-decoding.false)
