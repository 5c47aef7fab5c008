-- A recording in pieces, in numbers and buffers: what they stand for, and what one more piece makes of them.
-- Assumes nothing.
use Rattle.std.specs.Prelude.{ℕ, ◌≤◌, ◌<◌, ◌≡◌, List, [], length, take}
use Rattle.packets.specs.Reading.{packet_bytes}
use Rattle.scanning.specs.Events.{lasts_of}
use Rattle.recording_rows.specs.Columns.{Columns}
use Rattle.passing.specs.Passing.{Held, stored_from, with_room}
use Rattle.fed_packets.specs.Feeding.{Progress as Known, fed, rows_fed}
use Rattle.feeding.specs.declared.Progress.{Progress}

-- what the numbers and the buffers stand for
abbrev pub known_by : Progress → List ℕ → List ℕ → List ℕ → Known
known_by p part kept ends = record { part = take p.part part; number = p.number; lasts = lasts_of kept [] ends; found = p.found }

-- numbers and buffers that stand for something
pub record Ready (p : Progress) (part kept ends : List ℕ) : Type 0 where
  pub long : length part ≡ packet_bytes
  pub short : p.part < packet_bytes
  pub held : Held kept ends
  pub few : p.found.rows ≤ p.number

-- ONE PIECE MORE: what they stand for is what was known, gone on over the piece; and the rows of the piece stand behind those before, as far as there
-- was room for them
pub record Feeds (table bytes : List ℕ) (room : ℕ) (p : Progress) (part kept ends : List ℕ) (old : Columns) (q : Progress) (new-part new-kept new-ends : List ℕ) (new : Columns) : Type 0 where
  pub goes_on : known_by q new-part new-kept new-ends ≡ fed table (known_by p part kept ends) bytes
  pub ready : Ready q new-part new-kept new-ends
  pub stored : new ≡ stored_from p.found.rows (with_room room p.found.rows (rows_fed table (known_by p part kept ends) bytes)) old
