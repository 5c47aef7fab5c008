-- Integers as differences of two natural numbers, so that equations between integers become equations between natural numbers,
-- which the prover settles by itself. `up z` less `down z` is z.
-- Assumes nothing.
use Rattle.std.proofs.Common.{◌≡◌, ℕ, zero, suc, ◌+◌, ◌-◌, ◌*◌, Bool, true, false, cond, ltb, ℤ, pos, negsuc, ◌+ℤ◌, ◌-ℤ◌, ◌*ℤ◌, neg_ℤ, refl, ap, arith, ltb-false, ltb-true}
use lib.IntN.{sub_ℕ}

abbrev pub up : ℤ → ℕ
up (pos n) = n
up (negsuc n) = 0

abbrev pub down : ℤ → ℕ
down (pos n) = 0
down (negsuc n) = suc n

-- two integers with the same difference are the same
pub same : (x y : ℤ) → up x + down y ≡ up y + down x → x ≡ y
same (pos m) (pos n) h = ap pos (omega arith)
same (pos m) (negsuc n) h = absurd (omega arith)
same (negsuc m) (pos n) h = absurd (omega arith)
same (negsuc m) (negsuc n) h = ap negsuc (omega arith)

-- the differences of a difference, a sum, a negation and a multiple
by_test : (a b : ℕ) (t : Bool) → ltb a b ≡ t → up (cond t (negsuc (b - suc a)) (pos (a - b))) + b ≡ a + down (cond t (negsuc (b - suc a)) (pos (a - b)))
by_test a b true e = omega (arith, ltb-true a b e)
by_test a b false e = omega (arith, ltb-false a b e)

pub of_difference : (a b : ℕ) → up (sub_ℕ a b) + b ≡ a + down (sub_ℕ a b)
of_difference a b = by_test a b (ltb a b) refl

pub of_sum : (x y : ℤ) → up (x +ℤ y) + (down x + down y) ≡ up x + up y + down (x +ℤ y)
of_sum (pos m) (pos n) = omega arith
of_sum (pos m) (negsuc n) = omega (arith, of_difference m (suc n))
of_sum (negsuc m) (pos n) = omega (arith, of_difference n (suc m))
of_sum (negsuc m) (negsuc n) = omega arith

pub up_of_negation : (n : ℕ) → up (neg_ℤ (pos n)) ≡ 0
up_of_negation zero = refl
up_of_negation (suc n) = refl

pub down_of_negation : (n : ℕ) → down (neg_ℤ (pos n)) ≡ n
down_of_negation zero = refl
down_of_negation (suc n) = refl

pub of_multiple : (k : ℤ) (n : ℕ) → up (k *ℤ pos n) + down k * n ≡ up k * n + down (k *ℤ pos n)
of_multiple (pos k) n = omega arith
of_multiple (negsuc k) n = omega (arith, up_of_negation (suc k * n), down_of_negation (suc k * n))

pub of_times : (a b : ℕ) → up (pos a -ℤ pos b) + b ≡ a + down (pos a -ℤ pos b)
of_times a b = omega (arith, of_sum (pos a) (neg_ℤ (pos b)), up_of_negation b, down_of_negation b)
