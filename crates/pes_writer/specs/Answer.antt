-- The answer of writing: how many bytes were written, or the refusal.
-- Assumes nothing.
use Rattle.std.specs.Prelude.{ℕ, Result}
use Rattle.vocabulary.specs.declared.refusal.Refusal.{Refusal}

abbrev pub Written : Type 0
Written = Result ℕ Refusal
