-- `placed_in` meets its contract: the entries of the rows passed are placed.
-- Assumes nothing.
use Rattle.entry_rows.specs.Rows.{row_count}
use Prim.Native.Nat.{ℕ, ◌<◌}
use mathlib.Core.Path.{◌≡◌, sym, ap, ◌∙◌}
use native.Mathlib.Omega.{arith}
use native.Mathlib.Numerals.{add-one}
use lib.ListN.{length-take, length-drop}
use Rattle.entry_rows.specs.Rows.{row_too_wide, row_at, entry_in, entries_below}
use Rattle.entry_rows.proofs.Judged.{row_part}
use Rattle.entry_rows.proofs.Given.{row_fine_lem}
use Rattle.layer_set.specs.declared.«set».Placed.{Placed}
use Rattle.layer_set.specs.Sets.{placed_of, placed_next}
use Rattle.layer_set_rows.proofs.Tests.{placed_more}
use Rattle.layer_set_rows.specs.Buffers.{placed_in}
use Rattle.layer_set_rows.proofs.taking.placed_in.Goals as goal

pub nothing_placed-placed-requires : goal.nothing_placed-placed-requires
nothing_placed-placed-requires c = tt

pub loop-i-init : goal.loop-i-init
loop-i-init c = (omega arith, c.nothing_placed-placed.ensures)

pub entry_in-entry-requires : goal.entry_in-entry-requires
entry_in-entry-requires c =
    let rows = c.args.rows.now in
    let i = c.loop-i.i in
    let long = c.requires.0 in
    let inside : i < row_count rows = omega arith in
    (simp (length-take, length-drop) (omega arith), ap row_too_wide (row_part rows i) ∙ row_fine_lem rows c.requires.1 i inside)

pub place-placed-requires : goal.place-placed-requires
place-placed-requires c = tt

pub loop-i-preserved : goal.loop-i-preserved
loop-i-preserved c =
    let rows = c.args.rows.now in
    let at = c.loop-i in (
      omega arith,
      c.place-placed.ensures
          ∙ ap (λ (p : Placed). placed_next p c.entry_in-entry.result) at.invariant.1
          ∙ ap (placed_next (placed_of (entries_below rows at.i))) (c.entry_in-entry.ensures ∙ ap entry_in (row_part rows at.i))
          ∙ sym (placed_more (entries_below rows at.i) (entry_in (row_at rows at.i)))
          ∙ ap (λ (n : ℕ). placed_of (entries_below rows n)) (sym (add-one at.i)),
    )

pub returns : goal.returns
unfolding placed_in
returns c =
    let rows = c.args.rows.now in
    let at = c.loop-i in
    let end : at.i ≡ 64 = omega arith in
    at.invariant.1 ∙ ap (λ (n : ℕ). placed_of (entries_below rows n)) end
