-- Places put into an array behind those that are there: how many there are then, and the whole array.
-- Assumes nothing.
use Rattle.std.specs.Prelude.{ℕ, ◌+◌, List, ◌≡◌, length}
use Rattle.std.proofs.lemmas.List.Edits.{sets}

pub record Held (entry : List ℕ) (count : ℕ) (list : List ℕ) (r : ℕ) (exit : List ℕ) : Type 0 where
  pub many : r ≡ count + length list
  pub stored : exit ≡ sets entry count list
