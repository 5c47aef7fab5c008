-- A key is a signed distance plus 2^32: so keys order as distances do, and lie as far apart.
-- Assumes nothing.
use Prim.Native.Nat.{ℕ, zero, suc, ◌+◌, ◌≤◌, ◌<◌}
use mathlib.Core.Bool.{Bool, true, false}
use mathlib.Core.Path.{◌≡◌, refl, ap}
use native.Mathlib.Omega.{arith}
use borrow.Author.Tests.{ltb-true, ltb-false}
use lib.Dec.{ltb, leb→le, le→leb, ltb→lt, lt→ltb}
use lib.IntN.{ℤ, pos, negsuc, neg_ℤ, ◌-ℤ◌}
use lib.Signed.{◌≤ℤ◌, ◌<ℤ◌}
use Rattle.clock.specs.Clock.{ticks, half, distance_of, signed, lag_of, Lag}
use Rattle.clock.proofs.Differences.{up, down, same, of_sum, of_times}
use Rattle.clock.proofs.Laws.{lag_only, lag_is}
use Rattle.spans.specs.Spans.{key_of}

-- ---- the order of integers, by differences of natural numbers

pub less : (x y : ℤ) → x <ℤ y → up x + down y < up y + down x
less (pos m) (pos n) h = omega (arith, ltb→lt m n h.lt)
less (pos m) (negsuc n) h = absurd h.lt
less (negsuc m) (pos n) h = omega arith
less (negsuc m) (negsuc n) h = omega (arith, ltb→lt n m h.lt)

pub less_by : (x y : ℤ) → up x + down y < up y + down x → x <ℤ y
less_by (pos m) (pos n) h = record { lt = lt→ltb m n (omega arith) }
less_by (pos m) (negsuc n) h = absurd (omega arith)
less_by (negsuc m) (pos n) h = record { lt = tt }
less_by (negsuc m) (negsuc n) h = record { lt = lt→ltb n m (omega arith) }

-- one number is more than another by n, or more
of_negation : (x : ℤ) → (up (neg_ℤ x) ≡ down x) × (down (neg_ℤ x) ≡ up x)
of_negation (pos zero) = (refl, refl)
of_negation (pos (suc n)) = (refl, refl)
of_negation (negsuc n) = (refl, refl)

of_both : (x y : ℤ) → up (x -ℤ y) + (down x + up y) ≡ up x + down y + down (x -ℤ y)
of_both x y = let n = of_negation y in omega (arith, of_sum x (neg_ℤ y), n.0, n.1)

apart : (n : ℕ) (z : ℤ) → pos n ≤ℤ z → n + down z ≤ up z
apart n (pos m) h = omega (arith, leb→le n m h.le)
apart n (negsuc m) h = absurd h.le

apart_by : (n : ℕ) (z : ℤ) → n + down z ≤ up z → pos n ≤ℤ z
apart_by n (pos m) h = record { le = le→leb n m (omega arith) }
apart_by n (negsuc m) h = absurd (omega arith)

pub more : (n : ℕ) (x y : ℤ) → pos n ≤ℤ (x -ℤ y) → n + (down x + up y) ≤ up x + down y
more n x y h = omega (arith, apart n (x -ℤ y) h, of_both x y)

pub more_by : (n : ℕ) (x y : ℤ) → n + (down x + up y) ≤ up x + down y → pos n ≤ℤ (x -ℤ y)
more_by n x y h = apart_by n (x -ℤ y) (omega (arith, of_both x y))

-- ---- the key

lag_key : (start time : ℕ) (b : Bool) → ltb (distance_of start time) half ≡ b
    → up (signed b (distance_of start time)) + half ≡ key_of start time + down (signed b (distance_of start time))
lag_key start time true e = omega (arith, ltb-true (distance_of start time) half e)
lag_key start time false e = omega (arith, ltb-false (distance_of start time) half e, of_times (distance_of start time) ticks)

-- THE KEY of a time is its distance plus 2^32
pub key_lag : (start time : ℕ) (distance : ℤ) → Lag time start distance → up distance + half ≡ key_of start time + down distance
key_lag start time distance l =
    let e = lag_only time start distance (lag_of time start) l (lag_is time start) in
    omega (arith, ap up e, ap down e, lag_key start time (ltb (distance_of start time) half) refl)

-- so distances compare as keys do,
module _ (start time other : ℕ) (distance farther : ℤ) (l : Lag time start distance) (m : Lag other start farther) where
  pub nearer_key : distance <ℤ farther → key_of start time < key_of start other
  nearer_key h = omega (arith, less distance farther h, key_lag start time distance l, key_lag start other farther m)

  pub key_nearer : key_of start time < key_of start other → distance <ℤ farther
  key_nearer h = less_by distance farther (omega (arith, key_lag start time distance l, key_lag start other farther m))

  pub key_same : key_of start time ≡ key_of start other → distance ≡ farther
  key_same e = same distance farther (omega (arith, key_lag start time distance l, key_lag start other farther m))

  -- and lie as far apart.
  pub apart_key : (n : ℕ) → pos n ≤ℤ (farther -ℤ distance) → key_of start time + n ≤ key_of start other
  apart_key n h = omega (arith, more n farther distance h, key_lag start time distance l, key_lag start other farther m)

  pub key_apart : (n : ℕ) → key_of start time + n ≤ key_of start other → pos n ≤ℤ (farther -ℤ distance)
  key_apart n h = more_by n farther distance (omega (arith, key_lag start time distance l, key_lag start other farther m))

pub key_below : (start time : ℕ) → key_of start time < ticks
key_below start time = omega arith
