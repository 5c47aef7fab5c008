-- `pes_writer::put_tref` meets its contract: nothing, or the three bytes before TREF and TREF, each put right after the last.
-- Assumes nothing.
use native.Mathlib.Omega.{arith}
use Prim.Native.Nat.{ℕ}
use mathlib.Core.Path.{ap, sym, ◌∙◌}
use mathlib.Core.List.{List, ◌++◌}
use lib.ListN.{length}
use Rattle.buffers.proofs.Laws.{laid_as, laid_then, laid_nothing}
use Rattle.pes_writer.specs.Writing.{tref_head}
use Rattle.pes_writer.proofs.WritingLaws.{no_tref_fields, tref_fields_lem}
use Rattle.pes_writer.proofs.put_tref.Goals as goal

pub returns-then-not-with_tref : goal.returns-then-not-with_tref
returns-then-not-with_tref c =
    let a = c.args in
    laid_as (sym (no_tref_fields (c.if-not-with_tref.true) a.matching)) (laid_nothing a.out.now a.at a.at (omega (arith, c.requires.matching_in_bounds)))

pub put_whole-next-requires : goal.put_whole-next-requires
put_whole-next-requires c =
    omega (arith, c.requires.matching_in_bounds, ap length (tref_fields_lem (c.if-not-with_tref.false) c.args.matching))

pub put_whole-requires : goal.put_whole-requires
put_whole-requires c =
    omega (
      arith,
      c.requires.matching_in_bounds,
      ap length (tref_fields_lem (c.if-not-with_tref.false) c.args.matching),
      ap length c.time_field-tref.ensures,
      c.put_whole-next.ensures.place,
      c.put_whole-next.auto.out,
    )

pub returns : goal.returns
returns c =
    laid_as
    (ap (λ (l : List ℕ). tref_head ++ l) c.time_field-tref.ensures
    ∙ sym (tref_fields_lem (c.if-not-with_tref.false) c.args.matching))
    (laid_then
    c.put_whole-next.ensures
    c.put_whole.ensures)
