-- A set of small numbers, such as layer indices, held in one number: i is a member when bit i is 1.
-- The membership, and what each function of this crate answers. What these mean is proved in proofs/Laws.antt.
-- Assumes nothing.
use Rattle.std.specs.Prelude.{ℕ, ◌/◌, ◌%◌, ◌^◌, Bool, cond, List, eqb, ltb}
use Rattle.std.specs.Int.Bits.{bit_and, bit_or, bit_xor}
use Rattle.combinators.specs.Below.{seek, count}
use Rattle.combinators.specs.Those.{those}

-- whether i is a member: bit i is 1
abbrev pub has : ℕ → ℕ → Bool
has s i = eqb (s / 2 ^ i % 2) 1

-- the members of both sets together
abbrev pub joined : ℕ → ℕ → ℕ
joined s t = bit_or s t

-- the set of i alone
abbrev pub only : ℕ → ℕ
only i = 2 ^ i

-- the members of s, and i, of which a set in 64 bits can hold only those below 64
abbrev pub added : ℕ → ℕ → ℕ
added s i = cond (ltb i 64) (joined s (only i)) s

-- the members of s that t lacks
abbrev pub without : ℕ → ℕ → ℕ
without s t = bit_xor s (bit_and s t)

-- the members of s below i
abbrev pub below : ℕ → ℕ → ℕ
below s i = s % 2 ^ i

-- the lowest member of a set of numbers below 64, and 64 for the empty set
unfoldable pub lowest : ℕ → ℕ
lowest s = seek (has s) 64

-- the number of members below 64
unfoldable pub size : ℕ → ℕ
size s = count (has s) 64

-- the members but the lowest
abbrev pub rest : ℕ → ℕ
rest s = without s (only (lowest s))

-- the members below 64 in rising order
unfoldable pub members_of : ℕ → List ℕ
members_of s = those (has s) 64
