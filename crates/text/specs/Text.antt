-- What the bytes of a text are. What a buffer holds once they were laid into it is said in the crate `buffers`.
-- Assumes nothing.
use Rattle.std.specs.Prelude.{ℕ, zero, suc, ◌^◌, List, [], ◌∷◌, ◌++◌, ltb}
use Prim.Native.Char.{code}
use Prim.Native.String.{String}
pub use Rattle.buffers.specs.Buffers.{Laid}
use Rattle.combinators.specs.Below.{seek}
use Rattle.io.specs.Digits.{last_digits}

-- the bytes of a text in ASCII
abbrev pub ascii : String → List ℕ
ascii String.[] = []
ascii (String.◌∷◌ c s) = code c ∷ ascii s

-- how many decimal digits a number below 10 ^ 20 has: the first k, from 1 on, with the number below 10 ^ k
unfoldable pub decimal_width : ℕ → ℕ
decimal_width n = suc (seek (λ k. ltb n (10 ^ suc k)) 19)

-- a number as text: its decimal digits in ASCII, with no zero in front
unfoldable pub decimal : ℕ → List ℕ
decimal n = last_digits 10 (decimal_width n) n

-- the texts that belong to the numbers below n, one after another
unfoldable pub texts : (ℕ → List ℕ) → ℕ → List ℕ
texts piece zero = []
texts piece (suc n) = texts piece n ++ piece n
