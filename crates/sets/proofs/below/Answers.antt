-- `sets::below` meets its contract: below 64 it is the definition, `1 << index` being two to the index; from 64 on nothing is taken away.
-- Assumes nothing.
use Prim.Native.Nat.{◌%◌, ◌<◌}
use mathlib.Core.Path.{ap, sym, subst}
use native.Mathlib.Nat.{mod-eq_of_lt, lt_of_lt_of_le}
use lib.Pow.{pow_mono, pow_pos}
use Rattle.sets.proofs.Laws.{one_shifted}
use Rattle.sets.proofs.below.Goals as goal

pub returns-then-index-ge64 : goal.returns-then-index-ge64
returns-then-index-ge64 c = sym (mod-eq_of_lt (lt_of_lt_of_le c.ranges.set.fits (pow_mono c.if-index-ge64.true)))

pub nonzero_rem-result : goal.nonzero_rem-result
nonzero_rem-result c = subst (λ n. 0 < n) (sym (one_shifted 64 _ c.if-index-ge64.false)) (pow_pos _)

pub returns : goal.returns
returns c = ap (λ n. c.args.set % n) (one_shifted 64 _ c.if-index-ge64.false)
