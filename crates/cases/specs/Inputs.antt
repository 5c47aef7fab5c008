-- What a reader of cases takes from its input.
-- Assumes nothing.
use Rattle.std.specs.Prelude.{ℕ, ◌<◌, List, length, Option}
use Rattle.std.specs.Io.KnownBytes.{Consumes, IsAtEnd}

-- what was read is all that the reader had, unless it fills the room
abbrev pub ReadInto : ℕ → Option (List ℕ) → Option (List ℕ) → Type 0
ReadInto room old new = (text : List ℕ) × Consumes old new text × (length text < room → IsAtEnd new)
