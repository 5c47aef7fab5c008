-- A few texts, computed from the definitions.
-- Assumes nothing.
use Rattle.std.specs.Prelude.{[], ◌∷◌, ◌≡◌, refl}
use Rattle.text.specs.Text.{ascii, decimal, decimal_width}

letters : ascii "pid" ≡ 0x70 ∷ 0x69 ∷ 0x64 ∷ []
letters = refl

zero_has_one_digit : decimal 0 ≡ ascii "0"
unfolding decimal decimal_width
zero_has_one_digit = refl

a_pid : decimal 8191 ≡ ascii "8191"
unfolding decimal decimal_width
a_pid = refl

the_largest : decimal 18446744073709551615 ≡ ascii "18446744073709551615"
unfolding decimal decimal_width
the_largest = refl
