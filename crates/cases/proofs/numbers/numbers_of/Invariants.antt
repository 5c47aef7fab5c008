-- `numbers_of` meets its contract: the numbers so far, with what is left of the word, are the word's.
-- Assumes nothing.
use Rattle.std.proofs.Common.{◌≡◌}
use lib.ListN.{drop}
use Rattle.cases.specs.Numbers.{with_all, numbers_of}
use Rattle.cases.proofs.numbers.numbers_of.Given as goal

abbrev pub invariant-loop-character : goal.invariant-loop-character
invariant-loop-character l = with_all l.numbers (drop l.character-index l.word) ≡ numbers_of l.word
