-- `lay_entries` meets its contract: the rows of the entries passed stand at the front.
-- Assumes nothing.
use Prim.Native.Nat.{◌<◌}
use mathlib.Core.Path.{◌≡◌, refl, sym, ap, ◌∙◌}
use native.Mathlib.Omega.{arith}
use lib.ListN.{length, get_or, length-take, length-drop}
use Rattle.layer_set_rows.proofs.Tests.{rows_more, rows_still, rows_end}
use Rattle.entry_rows.proofs.Laws.{row_length}
use Rattle.layer_set.specs.Sets.{no_entry}
use Rattle.layer_set_rows.proofs.laying.lay_entries.Goals as goal

pub loop-i-init : goal.loop-i-init
loop-i-init c = (omega arith, c.requires, refl)

pub lay_row-requires : goal.lay_row-requires
lay_row-requires c = simp (length-take, length-drop) (omega arith)

pub loop-i-preserved : goal.loop-i-preserved
loop-i-preserved c =
    let a = c.args in
    let at = c.loop-i in
    let many : length a.entries ≡ 64 = omega arith in
    let inside : at.i < 64 = omega arith in (
      omega arith,
      rows_still at.i at.rows c.lay_row.new.row inside at.invariant.1 (ap length c.lay_row.ensures ∙ row_length (get_or a.entries at.i no_entry)),
      rows_more a.entries at.i at.rows c.lay_row.new.row many inside at.invariant.1 at.invariant.2 c.lay_row.ensures,
    )

pub shape_of-rows : goal.shape_of-rows
shape_of-rows c = c.loop-i.invariant.1 ∙ sym c.requires

pub returns : goal.returns
returns c =
    let at = c.loop-i in
    let a = c.args in
    let end : at.i ≡ 64 = omega arith in
    let many : length a.entries ≡ 64 = omega arith in
    rows_end a.entries at.i at.rows many end at.invariant.1 at.invariant.2
