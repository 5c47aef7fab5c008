-- `row_weighing::outline_in` meets its contract: which kind of record the row has decides.
-- Assumes nothing.
use mathlib.Core.Path.{◌≡◌}
use native.Mathlib.Omega.{arith}
use lib.ListN.{get_or}
use Rattle.entry_rows.proofs.Judged.{kind_fine}
use Rattle.row_weighing.proofs.outline_in.Goals as goal

pub extension_outline-requires : goal.extension_outline-requires
extension_outline-requires c = let start = c.before.before.before in (start.requires.0, start.requires.1, c.if-row-eq2.true)

pub returns-then-row-eq2 : goal.returns-then-row-eq2
returns-then-row-eq2 c = c.extension_outline.ensures

pub implied_outline-requires : goal.implied_outline-requires
implied_outline-requires c =
    let three : get_or c.args.row.now 2 0 ≡ 3 = omega (arith, kind_fine c.args.row.now c.requires.1, c.if-row-eq2.false, c.requires.2, c.requires.3) in
    (c.requires.0, c.requires.1, three)

pub returns : goal.returns
returns c = c.implied_outline.ensures
