-- The numbers that a recording, its rows under a loop, and the whole import are refused with, each one of those that the request lists.
-- Assumes nothing.
use Rattle.recordings.specs.declared.RecordingFault.{RecordingFault}
use Rattle.std.specs.Prelude.{ℕ, List, [], ◌∷◌, Err, Ok}
use Rattle.std.proofs.Math.Option.{Option, none, some}
use Rattle.vocabulary.specs.Refusals.{number_of}
use Rattle.recordings.specs.Answer.{Recording}

-- 13, 20 to 24, 30 to 33
abbrev pub recording_numbers : List ℕ
recording_numbers = 13 ∷ 20 ∷ 21 ∷ 22 ∷ 23 ∷ 24 ∷ 30 ∷ 31 ∷ 32 ∷ 33 ∷ []

abbrev pub recording_number : Recording → Option ℕ
recording_number (Ok count) = none
recording_number (Err (RecordingFault.Faulty fault)) = some (number_of fault)
recording_number (Err (RecordingFault.NotRead refusal packet)) = some (number_of refusal)
recording_number (Err RecordingFault.TooManyRows) = some 13
