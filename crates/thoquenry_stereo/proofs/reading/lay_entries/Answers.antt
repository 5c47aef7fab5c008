-- `reading::lay_entries` meets its contract: one row after the other.
-- Assumes nothing.
use Prim.Native.Nat.{ℕ}
use mathlib.Core.Path.{◌∙◌, ap₂}
use mathlib.Core.List.{List, ◌++◌}
use lib.ListN.{take, drop}
use Rattle.entry_rows.specs.Rows.{row_of}
use Rattle.entry_rows.proofs.Laws.{row_length}
use Rattle.mvc_rows.proofs.Two.{two_rows}
use Rattle.thoquenry_stereo.proofs.reading.lay_entries.Goals as goal

pub returns : goal.returns
returns c =
    let a = c.args in
    ap₂ (λ (x y : List ℕ). take 80 (x ++ drop 80 a.entries.now) ++ (y ++ drop 80 (drop 80 (x ++ drop 80 a.entries.now)))) c.lay_row.ensures c.lay_row-2.ensures
    ∙ two_rows (row_of a.base) (row_of a.second) a.entries.now 80 80 (row_length a.base) (row_length a.second)
