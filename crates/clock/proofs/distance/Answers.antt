-- `clock::distance` meets its contract: the wrapped difference has the forward distance as its remainder, since 2^33 divides
-- 2^64, and no other number below 2^33 arrives at the same time.
use Rattle.std.proofs.Common.{◌%◌, arith}
use Rattle.clock.proofs.Laws.{distance_only}
use Rattle.clock.specs.Clock.{ticks}
use Rattle.clock.proofs.distance.Goals as goal

pub returns : goal.returns
returns c =
    let a = c.args in
    distance_only a.from a.to (c.wrapping_sub_u64.result % ticks) (record { below = omega arith; arrives = omega arith })
