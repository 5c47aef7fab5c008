-- The answer of joining: the units, or the refusal.
-- Assumes nothing.
use Rattle.std.specs.Prelude.{ℕ, Result, Ok}
use Rattle.vocabulary.specs.declared.refusal.Refusal.{Refusal}
use Rattle.join_answers.specs.declared.answer.Units.{Units}

abbrev pub Joined : Type 0
Joined = Result Units Refusal

-- the closure, the number of units, and how many closure rows the table has
abbrev pub joined_units : ℕ → ℕ → ℕ → Joined
joined_units closure units rows = Ok (record { closure = closure; units = units; rows = rows })
