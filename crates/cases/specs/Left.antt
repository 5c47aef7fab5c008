-- The parts that an iterator has still to give.
-- Assumes nothing.
use Rattle.std.specs.Prelude.{ℕ, List}
use Rattle.cases.specs.declared.Parts.{Parts}
use Rattle.cases.specs.Parts.{parts_of}

abbrev pub parts_left : Parts → List (List ℕ)
parts_left parts = parts_of parts.mark parts.rest.now
