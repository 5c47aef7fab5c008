-- The times of document 01's worked examples, and both ends of each range.
-- Assumes nothing.
use Rattle.std.specs.Prelude.{◌≡◌, true, false, pos, negsuc, refl}
use Rattle.clock.specs.Clock.{distance_of, is_before, lag_of}

-- 'times 8589934000 then 400: accepted, distance 992'
across_the_wrap : distance_of 8589934000 400 ≡ 992
across_the_wrap = refl

-- 'Second time 4294967295 after 0: accepted; 4294967296: 14': the other is not before the first, and then it is
just_below_half : is_before 4294967295 0 ≡ false
just_below_half = refl

half_the_clock : is_before 4294967296 0 ≡ true
half_the_clock = refl

-- a plain comparison would have it the other way round
before_across_the_wrap : is_before 8589934000 400 ≡ true
before_across_the_wrap = refl

-- 'Lag of 4294967296 against 0: -4294967296'; and the other end
least_lag : lag_of 4294967296 0 ≡ negsuc 4294967295
least_lag = refl

greatest_lag : lag_of 4294967295 0 ≡ pos 4294967295
greatest_lag = refl

-- 'lags 0 0 and 600 0'
lag_of_600 : lag_of 12600 12000 ≡ pos 600
lag_of_600 = refl
