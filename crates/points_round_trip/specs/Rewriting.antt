-- WRITING WHAT WAS READ: what it is that the same bytes are written. That they are, of a payload in the writer's own shape, stands in proofs/Rewriting.antt,
-- `rewritten`.
-- Assumes nothing.
use Rattle.std.specs.Prelude.{ℕ, ◌+◌, ◌≡◌, List, [], ◌∷◌, ◌++◌, length, drop, Ok}
use Rattle.combinators.specs.Lists.{gather}
use Rattle.operation_points.specs.Values.{PointValue, numbers_of}
use Rattle.point_writer.specs.Writing.{answer, content}

-- rows as reading lays them, with any two numbers for what is worked out
module _ (members closed : PointValue → ℕ) where
  abbrev pub rows_of : List PointValue → List ℕ
  rows_of vs = gather (λ v. numbers_of v ++ (members v ∷ closed v ∷ [])) vs

-- THE CALL: given lists of the value of a payload in the writer's own shape, it writes the descriptor with this payload, wherever there is room.
pub record Rewritten (profiles points references layers old payload : List ℕ) : Type 0 where
  pub answers : Ok (3 + length payload) ≡ answer (length old) profiles points references layers
  pub holds : (63 ∷ (1 + length payload) ∷ 5 ∷ payload) ++ drop (3 + length payload) old ≡ content profiles points references layers old
