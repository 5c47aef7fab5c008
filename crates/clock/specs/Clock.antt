-- The 33-bit clock of document 01, 'PES times' and 'Rows and units': the forward distance, what 'before' means, and the lag.
-- Assumes nothing.
use Rattle.std.specs.Prelude.{◌≡◌, ℕ, ◌+◌, ◌-◌, ◌%◌, ◌^◌, ◌<◌, Bool, true, false, ℤ, pos, negsuc, ◌+ℤ◌, ◌-ℤ◌, ◌*ℤ◌, ◌≤ℤ◌, nat_le, nat_lt}

-- All times are below 2^33: the clock has that many ticks, and wraps. Half of it is 2^32.
abbrev pub ticks : ℕ
ticks = 2 ^ 33

abbrev pub half : ℕ
half = 2 ^ 32

-- 'The forward distance from a to b is (b minus a) modulo 2^33.' A number of 2^33 or more counts as the time at which the clock
-- stands after that many ticks.
abbrev pub distance_of : ℕ → ℕ → ℕ
distance_of a b = (b % ticks + ticks - a % ticks) % ticks

-- 'PTS lies before DTS when the forward distance from DTS to PTS is 2^32 or more.'
abbrev pub is_before : ℕ → ℕ → Bool
is_before time other = nat_le half (distance_of other time)

-- 'its decoding time minus the target row's, taken modulo 2^33 into -2^32 to 2^32-1': the forward distance where it is below
-- 2^32, and else the distance less one turn of the clock.
abbrev pub signed : Bool → ℕ → ℤ
signed true d = pos d
signed false d = pos d -ℤ pos ticks

abbrev pub lag_of : ℕ → ℕ → ℤ
lag_of time target = signed (nat_lt (distance_of target time) half) (distance_of target time)

-- WHAT THESE MEAN. A forward distance is below 2^33, and going that far from a one stands at b.
pub record ForwardDistance (a b d : ℕ) : Type 0 where
  pub below : d < ticks
  pub arrives : (a + d) % ticks ≡ b % ticks

-- A lag lies in -2^32 to 2^32-1, and is the difference of the two times but for whole turns of the clock.
pub record Lag (time target : ℕ) (lag : ℤ) : Type 0 where
  pub least : negsuc (half - 1) ≤ℤ lag
  pub greatest : lag ≤ℤ pos (half - 1)
  pub turns : ℤ
  pub congruent : pos time -ℤ pos target ≡ lag +ℤ turns *ℤ pos ticks
