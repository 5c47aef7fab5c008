-- The lines that the program `units` prints: of a unit 'its row numbers, then its lags, by single spaces'; of a row its number, packet, layer, decoding time, match time, and
-- whether a TREF was sent; of a refusal its number and place.
-- Assumes nothing.
use Rattle.std.specs.Prelude.{ℕ, suc, cond, List, ◌++◌, eqb, ℤ, pos, negsuc, length, get_or}
use Rattle.text.specs.Text.{ascii, decimal, texts}
use Rattle.listing.specs.Lines.{labelled}

-- a row number of a unit: a space stands before each but the first
abbrev pub number_text : ℕ → ℕ → List ℕ
number_text i number = cond (eqb i 0) (decimal number) (labelled (ascii " ") number)

abbrev pub number_at : List ℕ → ℕ → List ℕ
number_at numbers i = number_text i (get_or numbers i 0)

unfoldable pub numbers_text : List ℕ → List ℕ
numbers_text numbers = texts (number_at numbers) (length numbers)

-- a lag behind a space, with its sign where it is below 0
abbrev pub lag_text : ℤ → List ℕ
lag_text (pos n) = labelled (ascii " ") n
lag_text (negsuc n) = labelled (ascii " -") (suc n)

abbrev pub lag_at : List ℤ → ℕ → List ℕ
lag_at lags i = lag_text (get_or lags i (pos 0))

unfoldable pub lags_text : List ℤ → List ℕ
lags_text lags = texts (lag_at lags) (length lags)

unfoldable pub unit_line : List ℕ → List ℤ → List ℕ
unit_line numbers lags = numbers_text numbers ++ lags_text lags ++ ascii "\n"

unfoldable pub row_line : ℕ → ℕ → ℕ → ℕ → ℕ → ℕ → List ℕ
row_line number packet layer decoding match_time tref =
    decimal number
    ++ labelled (ascii " ") packet
    ++ labelled (ascii " ") layer
    ++ labelled (ascii " ") decoding
    ++ labelled (ascii " ") match_time
    ++ labelled (ascii " ") tref
    ++ ascii "\n"

unfoldable pub refusal_line : ℕ → ℕ → List ℕ
refusal_line number place = labelled (ascii "refused ") number ++ labelled (ascii " place ") place ++ ascii "\n"
