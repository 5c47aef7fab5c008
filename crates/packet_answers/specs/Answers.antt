-- THE ANSWER OF A CALL ON A RECORDING, as one number of 64 bits: how many rows there are, or the number of the refusal and its place.
-- Assumes nothing.
use Rattle.std.specs.Prelude.{ℕ, Err, Ok}
use Rattle.vocabulary.specs.declared.refusal.Refusal.{Refusal}
use Rattle.vocabulary.specs.Refusals.{number_of}
use Rattle.c_answers.specs.Answers.{answer_of, accepted, refused}
use Rattle.recording_imports.specs.Answer.{RowsRead, Imported}
use Rattle.recording_imports.specs.declared.Unread.TheVariants.{Refused, NotRead}

-- 'place: the packet's number'
abbrev pub refused_at : Refusal → ℕ → ℕ
refused_at refusal packet = answer_of (number_of refusal) packet

abbrev pub rows_answer : RowsRead → ℕ
rows_answer (Ok count) = accepted count
rows_answer (Err (Refused refusal)) = refused refusal
rows_answer (Err (NotRead refusal packet)) = refused_at refusal packet

abbrev pub imported_answer : Imported → ℕ
imported_answer (Ok joined) = accepted joined.rows
imported_answer (Err (Refused refusal)) = refused refusal
imported_answer (Err (NotRead refusal packet)) = refused_at refusal packet
