-- `descriptors::name_layers` meets its contract. The loop's invariant: the first record among the bytes left is the first of all.
-- Assumes nothing.
use Prim.Native.Nat.{ℕ, ◌-◌, ◌≤◌}
use mathlib.Core.Path.{◌≡◌}
use mathlib.Core.List.{List}
use lib.ListN.{length, drop}
use Rattle.combinators.specs.Lists.{gather}
use Rattle.vocabulary.specs.declared.stream_types.Reading.{Reading}
use Rattle.descriptors.specs.Looking.{held_in, kinds_of, seen_of}
use Rattle.descriptors.specs.Finding.{named_in, named_by}
use Rattle.descriptors.proofs.looking.name_layers.Given as goal

-- what the first record among the bytes left names is what the first of all names
abbrev pub Continues : Reading → List ℕ → ℕ → Type 0
Continues reading info at =
    (stream_type : ℕ) → named_in stream_type (gather held_in (kinds_of reading (drop at info))) ≡ named_by stream_type (seen_of reading info)

abbrev pub invariant-loop-at : goal.invariant-loop-at
invariant-loop-at l = (l.at ≤ length l.info) × Continues l.reading l.info l.at

abbrev pub decreases-loop-at : goal.decreases-loop-at
decreases-loop-at l = length l.info - l.at
