-- The members that a walk over a set has still to give.
-- Assumes nothing.
use Rattle.std.specs.Prelude.{ℕ, List}
use Rattle.sets.specs.declared.RisingMembers.{RisingMembers}
use Rattle.sets.specs.Sets.{members_of}

abbrev pub members_left : RisingMembers → List ℕ
members_left walk = members_of walk.left
