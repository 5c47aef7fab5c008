-- WHAT THE RULE ASKS, in the words of W-201. proofs/Meant.antt has the law that joins this to what is computed, both ways.
-- Assumes nothing.
use Rattle.std.specs.Prelude.{ℕ, ◌≡◌, false, List}
use Rattle.combinators.specs.Lists.{Nth}
use Rattle.implied.specs.Rule.{Shown}

-- 'exactly one' entry of a type, and it has no hierarchy descriptor
pub record OnlyOne (t : ℕ) (shown : List Shown) : Type 0 where
  pub place : ℕ
  pub entry : Shown
  pub stands : Nth shown place entry
  pub type : entry.type ≡ t
  pub alone : (j : ℕ) (other : Shown) → Nth shown j other → other.type ≡ t → j ≡ place
  pub plain : entry.described ≡ false

-- 'exactly one 0x1B and exactly one 0x20 and neither has a hierarchy descriptor'
pub record ImpliedPair (shown : List Shown) : Type 0 where
  pub first : OnlyOne 0x1B shown
  pub second : OnlyOne 0x20 shown
