-- A flag as its bit, and a bit as its flag.
-- Assumes nothing.
use Prim.Native.Nat.{ℕ, zero, suc, ◌<◌}
use mathlib.Core.Path.{◌≡◌, refl, ◌∙◌}
use mathlib.Core.Bool.{Bool, true, false}
use mir.Val.{bool_byte}
use native.Mathlib.Omega.{arith}
use lib.Dec.{eqb, ltb}
use Rattle.syntax.specs.Filled.{bit_of}

-- a flag fits its bit
pub bit_fits : (b : Bool) → ltb (bit_of b) 2 ≡ true
bit_fits true = refl
bit_fits false = refl

-- the flag that was written, and the bit that was read
pub bit_back : (b : Bool) → eqb (bit_of b) 1 ≡ b
bit_back true = refl
bit_back false = refl

pub bit_there : (v : ℕ) → v < 2 → bit_of (eqb v 1) ≡ v
bit_there zero h = refl
bit_there (suc zero) h = refl
bit_there (suc (suc v)) h = absurd (omega arith)

-- what `u8::from` makes of a flag is its bit
pub bit_made : (b : Bool) → bool_byte b ≡ bit_of b
bit_made true = refl
bit_made false = refl

pub bit_is : {n : ℕ} (b : Bool) → n ≡ bool_byte b → n ≡ bit_of b
bit_is b e = e ∙ bit_made b
