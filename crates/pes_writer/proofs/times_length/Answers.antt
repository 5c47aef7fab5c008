-- `pes_writer::times_length` meets its contract: every field has as many bytes as its table.
-- Assumes nothing.
use mathlib.Core.Path.{ap, sym}
use lib.ListN.{length}
use Rattle.pes_writer.proofs.WritingLaws.{pts_alone_lem, pts_and_dts}
use Rattle.pes_writer.proofs.times_length.Goals as goal

pub returns-then-pts-decoding : goal.returns-then-pts-decoding
returns-then-pts-decoding c =
    ap length (sym (pts_alone_lem c.args.pts c.args.decoding c.if-pts-decoding.true))

pub returns-else-pts-decoding : goal.returns-else-pts-decoding
returns-else-pts-decoding c =
    ap length (sym (pts_and_dts c.args.pts c.args.decoding c.if-pts-decoding.false))
