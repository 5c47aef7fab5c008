-- `pes_writer::write` meets its contract: its three tests are the definition's, in its order, and a refusal comes before anything
-- is written. Assumes nothing.
use Rattle.std.specs.Prelude.{Ok}
use borrow.Author.Tests.{le-leb, lt-leb}
use native.Mathlib.Omega.{arith}
use Prim.Native.Nat.{◌≤◌}
use mathlib.Core.Path.{◌≡◌, refl, ap, sym, ◌∙◌}
use lib.ListN.{length}
use Rattle.pes_writer.specs.OwnShape.{Narrow}
use Rattle.buffers.proofs.Laws.{laid_over_lem}
use Rattle.pes_writer.specs.Writing.{header_of}
use Rattle.pes_writer.proofs.WritingLaws.{narrow, header_length}
use Rattle.pes_writer.proofs.write.Goals as goal

pub returns-then-any_too_wide : goal.returns-then-any_too_wide
returns-then-any_too_wide c = record {
  value = simp (sym c.any_too_wide.ensures ∙ c.if-any_too_wide.true);
  out_after = refl;
}

pub returns-then-out-length : goal.returns-then-out-length
returns-then-out-length c =
    let a = c.args in record {
      value = simp (
        sym c.any_too_wide.ensures ∙ c.if-any_too_wide.false,
        lt-leb (length (header_of a.times a.with_tref)) (length a.out.now)
            (omega (arith, header_length a.times a.with_tref, c.data_length.ensures, c.if-out-length.true)),
      );
      out_after = refl;
    }

pub returns-then-before : goal.returns-then-before
returns-then-before c =
    let a = c.args in record {
      value = simp (
        sym c.any_too_wide.ensures ∙ c.if-any_too_wide.false,
        le-leb (length (header_of a.times a.with_tref)) (length a.out.now)
            (omega (arith, header_length a.times a.with_tref, c.data_length.ensures, c.if-out-length.false)),
        sym c.before-2.ensures ∙ c.if-before.true,
      );
      out_after = refl;
    }

pub put_header-requires : goal.put_header-requires
put_header-requires c =
    let a = c.args in
    let n : Narrow a.times a.with_tref = narrow a.times a.with_tref (sym c.any_too_wide.ensures ∙ c.if-any_too_wide.false) in record {
      pts_bound = (n.pts_below, n.decoding_below);
      matching_bound = n.matching_below;
      with_tref_in_bounds = omega (arith, header_length a.times a.with_tref, c.data_length.ensures, c.if-out-length.false);
    }

pub returns : goal.returns
returns c =
    let a = c.args in
    let put = c.put_header.ensures in
    let room : length (header_of a.times a.with_tref) ≤ length a.out.now =
    omega (arith, header_length a.times a.with_tref, c.data_length.ensures, c.if-out-length.false) in
    let e : c.put_header.result ≡ length (header_of a.times a.with_tref) = omega (arith, put.place, room) in record {
      value = simp (
        sym c.any_too_wide.ensures ∙ c.if-any_too_wide.false,
        le-leb (length (header_of a.times a.with_tref)) (length a.out.now) room,
        sym c.before-2.ensures ∙ c.if-before.false,
      )
          (ap Ok e);
      out_after = laid_over_lem put room;
    }
