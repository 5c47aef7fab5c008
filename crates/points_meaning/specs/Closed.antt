-- WHAT A CLOSED POINT GIVES: 'a point whose list is closed under embedding gives, ordered by index, exactly the union of the closures of its members, each
-- complete', over `RestsOn`, in the layers of the loop that was read beside it. proofs/Closed.antt has the law that every point that is told is such.
-- Assumes nothing.
use Rattle.std.specs.Prelude.{ℕ, true, List, ◌↔◌, ◌≡◌}
use Rattle.closure.specs.declared.Layers.{Layers}
use Rattle.stream_lists.specs.Meaning.{ClosuresJoined, Ordered}
use Rattle.points_meaning.specs.Telling.{PointTold}

pub record ClosedGives (layers : Layers) (point : PointTold) : Type 0 where
  -- the list, ordered by index
  pub ordered : List ℕ
  pub is_ordered : Ordered point.streams ordered
  -- is the union of the closures of its members, each complete, exactly where the list is told to be closed
  pub union : (point.closed ≡ true) ↔ ClosuresJoined layers point.streams ordered
  -- and so in any list that is ordered so
  pub any_order : (other : List ℕ) → Ordered point.streams other → (point.closed ≡ true) ↔ ClosuresJoined layers point.streams other
