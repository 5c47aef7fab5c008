-- `loop_faults::mark_recordless` meets its contract: without a record 3 and 6 alone can apply, and the tests say which does first.
-- Assumes nothing.
use Prim.Native.Nat.{ℕ}
use mathlib.Core.Bool.{true}
use mathlib.Core.Path.{refl, ap}
use lib.ListN.{set}
use Rattle.loop_faults.proofs.mark_recordless.Goals as goal

pub returns-then-seen : goal.returns-then-seen
returns-then-seen c = record {
  value = rw (rw c.from-place.ensures at c.if-seen.true);
  pids_after = (ap (λ (i : ℕ). set c.args.pids.now i true) c.from-place.ensures, refl);
}

pub returns-then-given : goal.returns-then-given
returns-then-given c = record {
  value = rw (rw c.from-place.ensures at c.if-seen.false, c.if-given.true);
  pids_after = (ap (λ (i : ℕ). set c.args.pids.now i true) c.from-place.ensures, refl);
}

pub returns : goal.returns
returns c = record {
  value = rw (rw c.from-place.ensures at c.if-seen.false, c.if-given.false);
  pids_after = (ap (λ (i : ℕ). set c.args.pids.now i true) c.from-place.ensures, refl);
}
