-- That the computed distance and lag are the ones meant, and no other number is.
-- Assumes nothing.
use Rattle.std.proofs.Common.{◌≡◌, ℕ, ◌+◌, ◌-◌, ◌*◌, ◌/◌, ◌%◌, ◌<◌, ◌≤◌, Bool, true, false, ltb, ℤ, pos, negsuc, ◌+ℤ◌, ◌-ℤ◌, ◌*ℤ◌, ◌≤ℤ◌, sym, refl, ap, arith, le→leb, leb→le, ltb-false, ltb-true, le-leb, leb-true}
use Rattle.clock.specs.Clock.{ticks, half, distance_of, is_before, lag_of, signed, ForwardDistance, Lag}
use Rattle.clock.proofs.Differences.{up, down, same, of_sum, of_multiple, of_times}

-- THE FORWARD DISTANCE
pub distance_is : (a b : ℕ) → ForwardDistance a b (distance_of a b)
distance_is a b = record { below = omega arith; arrives = omega arith }

pub distance_only : (a b d : ℕ) → ForwardDistance a b d → d ≡ distance_of a b
distance_only a b d h = omega arith

-- For times below 2^33 it is document 01's rule as it stands.
pub distance_of_times : (a b : ℕ) → a < ticks → b < ticks → distance_of a b ≡ (b + ticks - a) % ticks
distance_of_times a b ha hb =
    sym (distance_only a b ((b + ticks - a) % ticks) (record { below = omega arith; arrives = omega arith }))

-- BEFORE: exactly when the way back is half the clock or more.
pub before_is : (time other : ℕ) → is_before time other ≡ true → half ≤ distance_of other time
before_is time other e = leb-true half (distance_of other time) e

pub before_only : (time other : ℕ) → half ≤ distance_of other time → is_before time other ≡ true
before_only time other h = le-leb half (distance_of other time) h

-- THE LAG
-- the congruence, said of natural numbers
module _ (time target : ℕ) (lag turns : ℤ) where
  to_naturals : pos time -ℤ pos target ≡ lag +ℤ turns *ℤ pos ticks → time + (down lag + down turns * ticks) ≡ target + (up lag + up turns * ticks)
  to_naturals e = omega (arith, of_times time target, of_sum lag (turns *ℤ pos ticks), of_multiple turns ticks, ap up e, ap down e)

  from_naturals : time + (down lag + down turns * ticks) ≡ target + (up lag + up turns * ticks) → pos time -ℤ pos target ≡ lag +ℤ turns *ℤ pos ticks
  from_naturals h =
      same (pos time -ℤ pos target) (lag +ℤ turns *ℤ pos ticks) (omega (arith, h, of_times time target, of_sum lag (turns *ℤ pos ticks), of_multiple turns ticks))

-- the two ends of the range, said of natural numbers
down_in_range : (z : ℤ) → negsuc (half - 1) ≤ℤ z → down z ≤ half
down_in_range (pos n) h = omega arith
down_in_range (negsuc n) h = omega (arith, leb→le n (half - 1) h.le)

up_in_range : (z : ℤ) → z ≤ℤ pos (half - 1) → up z < half
up_in_range (pos n) h = omega (arith, leb→le n (half - 1) h.le)
up_in_range (negsuc n) h = omega arith

pub lag_only : (time target : ℕ) (x y : ℤ) → Lag time target x → Lag time target y → x ≡ y
lag_only time target x y p q =
    same x y
    (omega (
      arith,
      to_naturals time target x p.turns p.congruent,
      to_naturals time target y q.turns q.congruent,
      down_in_range x p.least,
      up_in_range x p.greatest,
      down_in_range y q.least,
      up_in_range y q.greatest,
    ))

-- a distance less one turn of the clock is below zero
pub one_turn_less : (d : ℕ) → d < ticks → pos d -ℤ pos ticks ≡ negsuc (ticks - 1 - d)
one_turn_less d h = same (pos d -ℤ pos ticks) (negsuc (ticks - 1 - d)) (omega (arith, of_times d ticks))

-- the whole turns between the two times
turns_of : ℕ → ℕ → ℤ
turns_of there here = pos (there / ticks) -ℤ pos (here / ticks)

by_half : (time target d : ℕ) (t : Bool) → ltb d half ≡ t → ForwardDistance target time d → Lag time target (signed t d)
unfolding turns_of
by_half time target d true e h =
    record {
      least = record { le = tt };
      greatest = record { le = le→leb d (half - 1) (omega (arith, ltb-true d half e)) };
      turns = turns_of time (target + d);
      congruent =
          from_naturals time target (pos d) (turns_of time (target + d))
          (omega (arith, of_times (time / ticks) ((target + d) / ticks)));
    }
by_half time target d false e h =
    let below = one_turn_less d h.below in
    record {
      least = rw below record { le = le→leb (ticks - 1 - d) (half - 1) (omega (arith, ltb-false d half e)) };
      greatest = rw below record { le = tt };
      turns = turns_of (time + ticks) (target + d);
      congruent =
          from_naturals time target (pos d -ℤ pos ticks) (turns_of (time + ticks) (target + d))
          (omega (arith, of_times d ticks, of_times ((time + ticks) / ticks) ((target + d) / ticks)));
    }

pub lag_is : (time target : ℕ) → Lag time target (lag_of time target)
lag_is time target = by_half time target (distance_of target time) (ltb (distance_of target time) half) refl (distance_is target time)
