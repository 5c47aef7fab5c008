-- Lines, computed from the definitions.
-- Assumes nothing.
use Rattle.std.specs.Prelude.{[], ◌∷◌, ◌≡◌, refl, pos, negsuc}
use Rattle.text.specs.Text.{ascii, texts, decimal, decimal_width}
use Rattle.unit_lines.specs.Lines.{numbers_text, lags_text, unit_line, row_line, refusal_line}

-- two rows, the lower of which comes 600 behind the head; and one that comes 3600 before it
behind : unit_line (2 ∷ 3 ∷ []) (pos 600 ∷ pos 0 ∷ []) ≡ ascii "2 3 600 0\n"
unfolding unit_line numbers_text lags_text texts decimal decimal_width
behind = refl

before : unit_line (0 ∷ 1 ∷ []) (negsuc 3599 ∷ pos 0 ∷ []) ≡ ascii "0 1 -3600 0\n"
unfolding unit_line numbers_text lags_text texts decimal decimal_width
before = refl

alone : unit_line (7 ∷ []) (pos 0 ∷ []) ≡ ascii "7 0\n"
unfolding unit_line numbers_text lags_text texts decimal decimal_width
alone = refl

a_row : row_line 3 17 1 12000 12600 1 ≡ ascii "3 17 1 12000 12600 1\n"
unfolding row_line decimal decimal_width
a_row = refl

a_refusal : refusal_line 31 2 ≡ ascii "refused 31 place 2\n"
unfolding refusal_line decimal decimal_width
a_refusal = refl
