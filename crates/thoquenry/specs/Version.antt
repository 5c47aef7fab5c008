-- THE VERSION of the library as one number, as include/thoquenry.h says: 10,000 times the first of its three parts, 100 times the second, and the third.
-- Assumes nothing.
use Rattle.std.specs.Prelude.{ℕ, ◌+◌, ◌*◌}

abbrev pub numbered : ℕ → ℕ → ℕ → ℕ
numbered first second third = 10000 * first + 100 * second + third

abbrev pub version : ℕ
version = numbered 0 5 0
