-- The answer to a target: the closure as a set, or why there is none.
-- Assumes nothing.
use Rattle.std.specs.Prelude.{ℕ, Result}
use Rattle.vocabulary.specs.declared.refusal.Refusal.{Refusal}

abbrev pub Closure : Type 0
Closure = Result ℕ Refusal
