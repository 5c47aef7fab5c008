-- The answer on a recording: how many rows, or why there are none.
-- Assumes nothing.
use Rattle.std.specs.Prelude.{ℕ, Result}
use Rattle.recordings.specs.declared.RecordingFault.{RecordingFault}

abbrev pub Recording : Type 0
Recording = Result ℕ RecordingFault
