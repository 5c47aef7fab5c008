-- `laying::put_before_points` meets its contract: the counts are bytes, and the profiles stand as they are.
-- Assumes nothing.
use Rattle.buffers.proofs.Laws.{laid_as, laid_then}
use Rattle.point_writer.proofs.Heads.{before_in}
use native.Mathlib.Omega.{arith}
use Rattle.point_writer.proofs.laying.put_before_points.Goals as goal

pub returns : goal.returns
returns c = let known = c.shared_slice_known-1.given in laid_as (before_in c.args.profiles.now c.args.points c.args.behind (λ i. omega (arith, known i)) c.requires.0 c.requires.1 c.requires.2 c.requires.3) (laid_then c.put-first.ensures (laid_then c.put-second.ensures c.put.ensures))
