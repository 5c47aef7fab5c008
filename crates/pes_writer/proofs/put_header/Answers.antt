-- `pes_writer::put_header` meets its contract: the head, PTS and DTS, and the extension, each put right after the last.
-- Assumes nothing.
use native.Mathlib.Omega.{arith}
use Prim.Native.Nat.{ℕ}
use mathlib.Core.Path.{ap, ◌∙◌}
use mathlib.Core.List.{List, ◌++◌, append_assoc}
use lib.ListN.{length}
use Rattle.buffers.proofs.Laws.{laid_as, laid_then}
use Rattle.pes_writer.specs.Writing.{head_of, time_fields, tref_fields}
use Rattle.pes_writer.proofs.WritingLaws.{data_length, header_length}
use Rattle.pes_writer.proofs.put_header.Goals as goal

pub put_times-next-requires : goal.put_times-next-requires
put_times-next-requires c =
    let a = c.args in record {
      pts_bound = c.requires.pts_bound;
      decoding_in_bounds = omega (
        arith,
        c.requires.with_tref_in_bounds,
        header_length a.times a.with_tref,
        data_length a.times a.with_tref,
        ap length c.head_for-head.ensures,
        c.put_whole-at.ensures.place,
        c.put_whole-at.auto.out,
      );
    }

pub put_tref-requires : goal.put_tref-requires
put_tref-requires c =
    let a = c.args in record {
      matching_bound = c.requires.matching_bound;
      matching_in_bounds = omega (
        arith,
        c.requires.with_tref_in_bounds,
        header_length a.times a.with_tref,
        data_length a.times a.with_tref,
        ap length c.head_for-head.ensures,
        c.put_whole-at.ensures.place,
        c.put_whole-at.auto.out,
        c.put_times-next.ensures.place,
        c.put_times-next.auto.out,
      );
    }

pub returns : goal.returns
returns c =
    let a = c.args in
    laid_as
    (ap (λ (l : List ℕ). l ++ time_fields a.times.pts a.times.decoding ++ tref_fields a.with_tref a.times.matching) c.head_for-head.ensures
    ∙ append_assoc (head_of a.times a.with_tref) (time_fields a.times.pts a.times.decoding) (tref_fields a.with_tref a.times.matching))
    (laid_then
    (laid_then
    c.put_whole-at.ensures
    c.put_times-next.ensures)
    c.put_tref.ensures)
