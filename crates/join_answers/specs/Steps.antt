-- What the steps of joining ask and answer: a work space that holds the rows, and the units over a frame.
-- Assumes nothing.
use Rattle.std.specs.Prelude.{ℕ, ◌≤◌, List, [], ◌∷◌, Err, Ok}
use Rattle.closure.specs.declared.Layers.{Layers}
use Rattle.rows.specs.Table.{Table}
use Rattle.heads.specs.Units.{Frame}
use Rattle.heads.specs.Orderly.{Orderly, Framed}
use Rattle.unit_lists.specs.Sequence.{Lists, lists_over}
use Rattle.join_answers.specs.Answer.{Joined}

-- how many places the seven lists of the work space have
abbrev pub spaces : ℕ → ℕ → ℕ → ℕ → ℕ → ℕ → ℕ → List ℕ
spaces order keys kept places heads claimed used = order ∷ keys ∷ kept ∷ places ∷ heads ∷ claimed ∷ used ∷ []

-- each has a place for each of so many rows
pub record Holds (rows order keys kept places heads claimed used : ℕ) : Type 0 where
  pub for_order : rows ≤ order
  pub for_keys : rows ≤ keys
  pub for_kept : rows ≤ kept
  pub for_places : rows ≤ places
  pub for_heads : rows ≤ heads
  pub for_claimed : rows ≤ claimed
  pub for_used : rows ≤ used

-- a table in order over the whole closure of some target, and the frame of the two
pub record Joinable (closure : ℕ) (t : Table) (f : Frame) : Type 0 where
  pub layers : Layers
  pub target : ℕ
  pub orderly : Orderly layers target closure t
  pub framed : Framed layers closure t f

-- what the lists hold after the units over a frame, or after a refusal
abbrev pub framed_lists : Table → Frame → Joined → Lists → Lists
framed_lists t f (Ok joined) before = lists_over t f before
framed_lists t f (Err refusal) before = before
