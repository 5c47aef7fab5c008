-- A list in the front of an array of 64 places: when there is room for what is to be put into it.
-- Assumes nothing.
use Rattle.std.specs.Prelude.{ℕ, ◌≤◌, ◌<◌, List, ◌≡◌, length, take}
use Rattle.combinators.specs.Padding.{pad_to}
use Rattle.sets.specs.Sets.{members_of}
use Rattle.stream_lists.specs.Insertion.{placed}
use Rattle.stream_lists.specs.Lists.{set_of}

-- The first `count` places of the array hold a list, zeros stand behind it, and `present` is its set. There is room for an index, and for `new`
-- immediately before its place.
pub record Ready (members : List ℕ) (count present index new : ℕ) : Type 0 where
  pub within : count ≤ 64
  pub holds : members ≡ pad_to 64 0 (take count members)
  pub set : present ≡ set_of (take count members)
  pub small : index < 64
  pub room : length (placed index (members_of new) (take count members)) ≤ 64
