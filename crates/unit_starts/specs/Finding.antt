-- What is found in the packets of a recording: the lowest of 30 to 33 and the lowest of 20 to 24, each at its earliest packet, and the number of rows; and the rows.
-- Assumes nothing.
use Rattle.std.specs.Prelude.{ℕ, suc, ◌+◌, cond, ◌≡◌, List, [], ◌∷◌, ◌++◌, map, ltb}
use Rattle.std.proofs.lemmas.List.Edits.{sets}
use Rattle.framing.specs.Pieces.{Item}
use Rattle.vocabulary.specs.Refusals.{number_of}
use Rattle.scanning.specs.declared.events.Row.{Row}
use Rattle.scanning.specs.declared.events.Event.{Event}
use Rattle.scanning.specs.declared.events.Event.TheVariants.{Nothing, Fault, NotRead, Unit}
use Rattle.unit_starts.specs.declared.Mark.{Mark}
use Rattle.unit_starts.specs.declared.Found.{Found}
use Rattle.scanning.specs.Events.{packets_in, none_yet, event_of, lasts_after, lasts_of, EndsWithin}

-- the lower of two numbers, the earlier where they are the same
abbrev pub lower_of : Mark → ℕ → ℕ → Mark
lower_of mark number packet = cond (ltb number mark.number) (record { number = number; packet = packet }) mark

-- past the numbers of packets, and past those of PES headers
abbrev pub no_fault : Mark
no_fault = record { number = 34; packet = 0 }

abbrev pub no_refusal : Mark
no_refusal = record { number = 25; packet = 0 }

abbrev pub nothing_found : Found
nothing_found = record { fault = no_fault; refusal = no_refusal; rows = 0 }

-- what is found after one more packet
abbrev pub noted : ℕ → Event → Found → Found
noted k Nothing f = f
noted k (Fault number) f = record { fault = lower_of f.fault number k; refusal = f.refusal; rows = f.rows }
noted k (NotRead refusal) f = record { fault = f.fault; refusal = lower_of f.refusal (number_of refusal) k; rows = f.rows }
noted k (Unit row) f = record { fault = f.fault; refusal = f.refusal; rows = f.rows + 1 }

-- the row that a packet gives, or none
abbrev pub row_in : Event → List Row
row_in Nothing = []
row_in (Fault number) = []
row_in (NotRead refusal) = []
row_in (Unit row) = row ∷ []

module _ (table : List ℕ) where
  -- one packet after another, from one with a number on
  abbrev pub found_from : ℕ → List Item → List (List ℕ) → Found → Found
  found_from k [] lasts f = f
  found_from k (i ∷ is) lasts f = found_from (suc k) is (lasts_after table i lasts) (noted k (event_of table k i lasts) f)

  abbrev pub rows_from : ℕ → List Item → List (List ℕ) → List Row
  rows_from k [] lasts = []
  rows_from k (i ∷ is) lasts = row_in (event_of table k i lasts) ++ rows_from (suc k) is (lasts_after table i lasts)

  -- the last packets after all of them
  abbrev pub lasts_over : List Item → List (List ℕ) → List (List ℕ)
  lasts_over [] lasts = lasts
  lasts_over (i ∷ is) lasts = lasts_over is (lasts_after table i lasts)

  -- THE WHOLE RECORDING
  abbrev pub found_in : List ℕ → Found
  found_in bytes = found_from 0 (packets_in bytes) none_yet nothing_found

  abbrev pub rows_in : List ℕ → List Row
  rows_in bytes = rows_from 0 (packets_in bytes) none_yet

-- the packet in which the unit of a row starts
abbrev pub packet_in : Row → ℕ
packet_in row = row.packet

-- WHAT A WALK DOES over the packets of some bytes, the first of which has a number, after what was found before it: it goes on finding, notes the packets of
-- the rows behind those noted before, and leaves the last packets as places.
pub record Walks (table kept bytes : List ℕ) (first : ℕ) (found : Found) (ends starts new-ends new-starts : List ℕ) (answer : Found) : Type 0 where
  pub finds : answer ≡ found_from table first (packets_in bytes) (lasts_of kept bytes ends) found
  pub notes : new-starts ≡ sets starts found.rows (map packet_in (rows_from table first (packets_in bytes) (lasts_of kept bytes ends)))
  pub lasts : lasts_of kept bytes new-ends ≡ lasts_over table (packets_in bytes) (lasts_of kept bytes ends)
  pub within : EndsWithin kept bytes new-ends
