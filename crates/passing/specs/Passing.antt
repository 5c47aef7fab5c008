-- One piece of whole packets passed: what is found, where the rows stand, and that the last packets are kept.
-- Assumes nothing.
use Rattle.std.specs.Prelude.{ℕ, ◌-◌, ◌*◌, ◌≤◌, ◌≡◌, List, [], map, length, get_or, take}
use Rattle.std.proofs.lemmas.List.Edits.{sets}
use Rattle.packets.specs.Reading.{packet_bytes}
use Rattle.scanning.specs.declared.events.Row.{Row}
use Rattle.scanning.specs.Events.{layers, packets_in, lasts_of}
use Rattle.unit_starts.specs.declared.Found.{Found}
use Rattle.unit_starts.specs.Finding.{packet_in, found_from, rows_from, lasts_over}
use Rattle.recording_rows.specs.Columns.{Columns, columns, index_in, decoding_in, match_in, tref_in}

-- the last packets as they are kept between pieces: 64 places of 188 bytes, and for each layer whether there is one
pub record Held (kept ends : List ℕ) : Type 0 where
  pub room : packet_bytes * layers ≤ length kept
  pub many : length ends ≡ layers
  pub few : (i : ℕ) → get_or ends i 0 ≤ 1

-- rows stored from a place on, in all columns
abbrev pub stored_from : ℕ → List Row → Columns → Columns
stored_from at rows c =
    columns (sets c.indices at (map index_in rows)) (sets c.decodings at (map decoding_in rows)) (sets c.matches at (map match_in rows))
    (sets c.trefs at (map tref_in rows)) (sets c.packets at (map packet_in rows))

-- of rows that come behind so many, those that there is room for: the others are passed over
abbrev pub with_room : ℕ → ℕ → List Row → List Row
with_room room at rows = take (room - at) rows

pub record Passed (table bytes : List ℕ) (first : ℕ) (found : Found) (room : ℕ) (kept ends : List ℕ) (old : Columns) (new-kept new-ends : List ℕ) (new : Columns) (answer : Found) : Type 0 where
  pub finds : answer ≡ found_from table first (packets_in bytes) (lasts_of kept [] ends) found
  pub lasts : lasts_of new-kept [] new-ends ≡ lasts_over table (packets_in bytes) (lasts_of kept [] ends)
  pub held : Held new-kept new-ends
  pub stored : new ≡ stored_from found.rows (with_room room found.rows (rows_from table first (packets_in bytes) (lasts_of kept [] ends))) old
