-- W-201, two views and no hierarchy descriptor: 'When a loop holds exactly one 0x1B and exactly one 0x20 and neither has a hierarchy descriptor, the first
-- is a base layer of index 0 and the second has index 1 resting on 0, each with channel 0.' The reader, the writer and the meaning of both have the rule
-- from here.
-- Assumes nothing.
use Rattle.std.specs.Prelude.{ℕ, suc, Bool, cond, not, ◌&&◌, ◌||◌, List, [], ◌∷◌, eqb}
use Rattle.combinators.specs.Lists.{any}

-- the stream types of the two views: AVC, and the MVC sub-bitstream beside it
abbrev pub is_view : ℕ → Bool
is_view t = eqb t 0x1B || eqb t 0x20

-- What the rule looks at of an entry: its stream type, and whether it has a hierarchy descriptor. An HEVC hierarchy extension is none.
pub record Shown : Type 0 where
  pub type : ℕ
  pub described : Bool

-- how many entries are of a type, whatever their descriptors
abbrev pub of_type : ℕ → List Shown → ℕ
of_type t [] = 0
of_type t (s ∷ ss) = cond (eqb s.type t) (suc (of_type t ss)) (of_type t ss)

abbrev pub is_described_view : Shown → Bool
is_described_view s = is_view s.type && s.described

-- THE RULE. Wherever the two stand in the loop, and whatever stands beside them.
abbrev pub implied_pair : List Shown → Bool
implied_pair shown = eqb (of_type 0x1B shown) 1 && eqb (of_type 0x20 shown) 1 && not (any is_described_view shown)

-- whether the rule gives an entry of this type its mark, given whether the loop has the pair
abbrev pub given : Bool → ℕ → Bool
given pair t = is_view t && pair
