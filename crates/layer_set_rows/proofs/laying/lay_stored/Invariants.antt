-- `lay_stored` meets its contract: the numbers passed are in place.
-- Assumes nothing.
use Prim.Native.Nat.{ℕ, ◌-◌, ◌≤◌, ◌<◌}
use mathlib.Core.Path.{◌≡◌}
use lib.ListN.{length, get_or}
use Rattle.layer_set_rows.specs.Buffers.{number_of}
use Rattle.layer_set_rows.proofs.laying.lay_stored.Given as goal

abbrev pub invariant-loop-place : goal.invariant-loop-place
invariant-loop-place l = (l.place ≤ 192) × (length l.stored ≡ 192) × ((k : ℕ) → k < l.place → get_or l.stored k 0 ≡ number_of l.kept k)
