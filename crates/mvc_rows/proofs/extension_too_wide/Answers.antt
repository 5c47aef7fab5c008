-- `extension_too_wide` meets its contract: every value but the rates is tested, and a rate is no wider than its number.
-- Assumes nothing.
use mathlib.Core.Path.{ap}
use mathlib.Core.Bool.{not}
use Prim.Native.Nat.{◌+◌}
use native.Mathlib.Omega.{arith}
use Rattle.mvc_rows.proofs.Fields.{tested}
use Rattle.mvc_rows.proofs.extension_too_wide.Goals as goal

pub returns : goal.returns
returns c =
    let a = c.args in
    let known = c.shared_slice_known-1.given in
    rw (c.number_at-least.ensures, c.number_at-greatest.ensures, c.number_at-first_id.ensures, c.number_at-last_id.ensures, c.number_at-no_sei.ensures, c.number_at-no_prefix.ensures)
    (ap not (tested a.numbers.now a.start (omega (arith, known a.start)) (omega (arith, known (a.start + 1)))))
