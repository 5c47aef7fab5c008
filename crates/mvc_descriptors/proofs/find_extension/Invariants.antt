-- `find_extension` meets its contract. The loop's invariant: what was found so far, continued over the descriptors left, is what is found in all.
-- Assumes nothing.
use Prim.Native.Nat.{◌-◌, ◌≤◌}
use mathlib.Core.Path.{◌≡◌}
use lib.ListN.{length, drop}
use Rattle.mvc_descriptors.specs.Finding.{extension_payloads, extension_in, found_after}
use Rattle.mvc_descriptors.proofs.find_extension.Given as goal

abbrev pub invariant-loop-at : goal.invariant-loop-at
invariant-loop-at l = (l.at ≤ length l.info) × (found_after l.found (extension_payloads (drop l.at l.info)) ≡ extension_in l.info)

abbrev pub decreases-loop-at : goal.decreases-loop-at
decreases-loop-at l = length l.info - l.at
