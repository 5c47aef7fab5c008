-- `pes_writer::put_times` meets its contract: one field or two, each put right after the last.
-- Assumes nothing.
use native.Mathlib.Omega.{arith}
use mathlib.Core.Path.{ap, ap₂, sym, ◌∙◌}
use mathlib.Core.List.{◌++◌}
use lib.ListN.{length}
use Rattle.buffers.proofs.Laws.{laid_as, laid_then}
use Rattle.pes_writer.proofs.WritingLaws.{pts_alone_lem, pts_and_dts}
use Rattle.pes_writer.proofs.put_times.Goals as goal

pub put_whole-requires : goal.put_whole-requires
put_whole-requires c =
    omega (arith, c.requires.decoding_in_bounds, ap length (pts_alone_lem c.args.pts c.args.decoding c.if-pts-decoding.true), ap length c.time_field-alone.ensures)

pub returns-then-pts-decoding : goal.returns-then-pts-decoding
returns-then-pts-decoding c =
    laid_as (c.time_field-alone.ensures ∙ sym (pts_alone_lem c.args.pts c.args.decoding c.if-pts-decoding.true)) c.put_whole.ensures

pub put_whole-next-requires : goal.put_whole-next-requires
put_whole-next-requires c =
    omega (arith, c.requires.decoding_in_bounds, ap length (pts_and_dts c.args.pts c.args.decoding c.if-pts-decoding.false), ap length c.time_field-first.ensures)

pub put_whole-requires-2 : goal.put_whole-requires-2
put_whole-requires-2 c =
    omega (
      arith,
      c.requires.decoding_in_bounds,
      ap length (pts_and_dts c.args.pts c.args.decoding c.if-pts-decoding.false),
      ap length c.time_field-first.ensures,
      ap length c.time_field-second.ensures,
      c.put_whole-next.ensures.place,
      c.put_whole-next.auto.out,
    )

pub returns : goal.returns
returns c =
    laid_as
    (ap₂ ◌++◌ c.time_field-first.ensures c.time_field-second.ensures
    ∙ sym (pts_and_dts c.args.pts c.args.decoding c.if-pts-decoding.false))
    (laid_then
    c.put_whole-next.ensures
    c.put_whole-2.ensures)
