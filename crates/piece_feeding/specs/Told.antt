-- What a recording that was fed in pieces is told to be at its end.
-- Assumes nothing.
use Rattle.std.specs.Prelude.{ℕ, ◌≡◌, cond, List, eqb, replicate}
use Rattle.scanning.specs.declared.events.Event.TheVariants.{Fault}
use Rattle.scanning.specs.Events.{layers}
use Rattle.unit_starts.specs.declared.Found.{Found}
use Rattle.unit_starts.specs.Finding.{nothing_found, noted}
use Rattle.fed_packets.specs.Feeding.{at_first, fed_all}
use Rattle.feeding.specs.declared.Progress.{Progress}
use Rattle.feeding.specs.Pieces.{known_by}

-- before the first piece: nothing is carried, and no layer has a last packet
abbrev pub starts_with : Progress
starts_with = record { part = 0; number = 0; found = nothing_found }

abbrev pub no_ends : List ℕ
no_ends = replicate layers 0

-- numbers and buffers that have been fed these pieces, from the start
abbrev pub HasBeenFed : List ℕ → List (List ℕ) → Progress → List ℕ → List ℕ → List ℕ → Type 0
HasBeenFed table pieces p part kept ends = known_by p part kept ends ≡ fed_all table at_first pieces

-- what is found at the end: a part of a packet that is left over gives 30
abbrev pub found_at_end : Progress → Found
found_at_end p = cond (eqb p.part 0) p.found (noted p.number (Fault 30) p.found)
