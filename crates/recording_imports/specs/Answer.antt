-- The answers on a recording: how many rows, or the units; or why it was not read.
-- Assumes nothing.
use Rattle.std.specs.Prelude.{ℕ, Result, Ok}
use Rattle.join_answers.specs.declared.answer.Units.{Units}
use Rattle.recording_imports.specs.declared.Unread.{Unread}

abbrev pub RowsRead : Type 0
RowsRead = Result ℕ Unread

abbrev pub Imported : Type 0
Imported = Result Units Unread

-- the closure, the number of units, and how many closure rows the recording has
abbrev pub imported_units : ℕ → ℕ → ℕ → Imported
imported_units closure units rows = Ok (record { closure = closure; units = units; rows = rows })
