-- `continuity::is_gap` meets its contract: the counter is held against the next one. Assumes nothing.
use Prim.Native.Nat.{ℕ}
use mathlib.Core.Path.{ap}
use mathlib.Core.Bool.{not, ◌&&◌}
use lib.Dec.{eqb}
use Rattle.continuity.proofs.is_gap.Goals as goal

pub returns : goal.returns
returns c =
    let p = c.args.fields in
    ap (λ (n : ℕ). not (eqb p.continuity_counter n) && not p.adaptation.discontinuity_indicator) c.next_counter.ensures
