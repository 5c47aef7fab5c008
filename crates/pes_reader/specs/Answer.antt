-- The answer of reading: the header, or the refusal.
-- Assumes nothing.
use Rattle.std.specs.Prelude.{Result}
use Rattle.vocabulary.specs.declared.refusal.Refusal.{Refusal}
use Rattle.pes_reader.specs.declared.Header.{Header}

abbrev pub Answer : Type 0
Answer = Result Header Refusal
