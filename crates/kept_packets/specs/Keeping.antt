-- The last packets kept: each stands then at its layer's place, and is what it was.
-- Assumes nothing.
use Rattle.std.specs.Prelude.{ℕ, ◌*◌, ◌≤◌, ◌≡◌, cond, List, [], leb, length, get_or}
use Rattle.std.proofs.lemmas.List.Edits.{sets}
use Rattle.packets.specs.Reading.{packet_bytes}
use Rattle.scanning.specs.Events.{ending_at, lasts_of, EndsWithin}

-- one layer: a packet that stands in the bytes is copied, and what was kept or is none stays so
abbrev pub end_after : ℕ → ℕ
end_after end = cond (leb end 1) end 1

abbrev pub kept_after : List ℕ → List ℕ → ℕ → ℕ → List ℕ
kept_after kept bytes slot end = cond (leb end 1) kept (sets kept (packet_bytes * slot) (ending_at bytes end))

-- ALL LAYERS: the last packets are what they were, without the bytes
pub record Kept (kept bytes ends new-kept new-ends : List ℕ) : Type 0 where
  pub same : lasts_of new-kept [] new-ends ≡ lasts_of kept bytes ends
  pub few : (i : ℕ) → get_or new-ends i 0 ≤ 1
  pub within : EndsWithin new-kept [] new-ends
  pub long : length new-kept ≡ length kept
  pub as_many : length new-ends ≡ length ends
