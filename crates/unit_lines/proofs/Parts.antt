-- The parts of a unit's line, by the tests of the code: which row number is the first, and which lag has a sign.
-- Assumes nothing.
use Prim.Native.Nat.{ℕ, suc, ◌+◌, zero-le}
use mathlib.Core.Bool.{Bool, true, false, cond}
use mathlib.Core.Path.{◌≡◌, refl, sym, ap, subst}
use native.Mathlib.Numerals.{add-one}
use native.Mathlib.Omega.{arith}
use borrow.Author.Tests.{eq-eqb}
use lib.Dec.{T, le→leb, eqb}
use lib.IntN.{ℤ, pos, negsuc, ◌-ℤ◌, nat_abs}
use lib.Signed.{mag, le_z, non_neg}
use mir.Syntax.{w64}
use mir.Val.{Fits, SFits, to_z, of_z}
use mir.ValLaws.{to_z-of_z}
use Rattle.clock.proofs.Differences.{same, of_sum}
use Rattle.text.specs.Text.{ascii, decimal}
use Rattle.listing.specs.Lines.{labelled}
use Rattle.unit_lines.specs.Lines.{number_text, lag_text}

pub first_number : (i number : ℕ) → i ≡ 0 → decimal number ≡ number_text i number
first_number i number e = ap (λ (b : Bool). cond b (decimal number) (labelled (ascii " ") number)) (sym (eq-eqb i 0 e))

pub later_number : (i number : ℕ) → eqb i 0 ≡ false → labelled (ascii " ") number ≡ number_text i number
later_number i number e = ap (λ (b : Bool). cond b (decimal number) (labelled (ascii " ") number)) (sym e)

-- the test, of the integer itself
test : {b : Bool} (z : ℤ) → SFits w64 z → le_z (pos 0) (to_z w64 (of_z w64 z)) ≡ b → le_z (pos 0) z ≡ b
test z h t = rw (to_z-of_z w64 z h) at t

module _ (z : ℤ) (h : SFits w64 z) where
  not_below : le_z (pos 0) z ≡ true → T (non_neg z) × Fits w64 (nat_abs z)
  not_below t = by_sign z t h
    where
      by_sign : (z : ℤ) → le_z (pos 0) z ≡ true → SFits w64 z → T (non_neg z) × Fits w64 (nat_abs z)
      by_sign (pos n) t h = (tt, record { fits = omega (arith, h.sfits) })
      by_sign (negsuc n) t h = absurd (subst T (sym t) tt)

  beyond : le_z (pos 0) z ≡ false → negsuc 0 -ℤ z ≡ pos (mag z)
  beyond t = by_sign z t
    where
      by_sign : (z : ℤ) → le_z (pos 0) z ≡ false → negsuc 0 -ℤ z ≡ pos (mag z)
      by_sign (pos n) t = absurd (subst T t (le→leb 0 n zero-le))
      by_sign (negsuc n) t = same (negsuc 0 -ℤ negsuc n) (pos n) (omega (arith, of_sum (negsuc 0) (pos (suc n))))

  -- what lies beyond -1 fits, as an integer and as a number
  beyond_fits : le_z (pos 0) z ≡ false → SFits w64 (negsuc 0 -ℤ z)
  beyond_fits t = rw (beyond t) record { sfits = h.sfits }

  shown : le_z (pos 0) z ≡ true → labelled (ascii " ") (nat_abs z) ≡ lag_text z
  shown t = by_sign z t
    where
      by_sign : (z : ℤ) → le_z (pos 0) z ≡ true → labelled (ascii " ") (nat_abs z) ≡ lag_text z
      by_sign (pos n) t = refl
      by_sign (negsuc n) t = absurd (subst T (sym t) tt)

  shown_below : le_z (pos 0) z ≡ false → labelled (ascii " -") (nat_abs (pos (mag z)) + 1) ≡ lag_text z
  shown_below t = by_sign z t
    where
      by_sign : (z : ℤ) → le_z (pos 0) z ≡ false → labelled (ascii " -") (nat_abs (pos (mag z)) + 1) ≡ lag_text z
      by_sign (pos n) t = absurd (subst T t (le→leb 0 n zero-le))
      by_sign (negsuc n) t = ap (labelled (ascii " -")) (add-one n)

  -- the same of what the code computes with
  module _ (t : le_z (pos 0) (to_z w64 (of_z w64 z)) ≡ true) where
    pub lag_fits : T (non_neg (to_z w64 (of_z w64 z))) × Fits w64 (nat_abs (to_z w64 (of_z w64 z)))
    lag_fits = rw (to_z-of_z w64 z h) (not_below (test z h t))

    pub lag_shown : labelled (ascii " ") (nat_abs (to_z w64 (of_z w64 z))) ≡ lag_text z
    lag_shown = rw (to_z-of_z w64 z h) (shown (test z h t))

  abbrev past : ℤ
  past = negsuc 0 -ℤ to_z w64 (of_z w64 z)

  module _ (t : le_z (pos 0) (to_z w64 (of_z w64 z)) ≡ false) where
    pub past_fits : SFits w64 past
    past_fits = rw (to_z-of_z w64 z h) (beyond_fits (test z h t))

    past_is : to_z w64 (of_z w64 past) ≡ pos (mag z)
    past_is = rw (to_z-of_z w64 past past_fits, to_z-of_z w64 z h) (beyond (test z h t))

    pub past_number : T (non_neg (to_z w64 (of_z w64 past))) × Fits w64 (nat_abs (to_z w64 (of_z w64 past)))
    past_number = rw past_is (tt, record { fits = omega (arith, h.sfits) })

    pub past_more : Fits w64 (nat_abs (to_z w64 (of_z w64 past)) + 1)
    past_more = rw past_is record { fits = omega (arith, h.sfits) }

    pub past_shown : labelled (ascii " -") (nat_abs (to_z w64 (of_z w64 past)) + 1) ≡ lag_text z
    past_shown = rw past_is (shown_below (test z h t))
