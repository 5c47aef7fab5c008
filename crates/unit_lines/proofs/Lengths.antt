-- How long the lines can be: a unit has at most one row of each of 64 layers, so that no line of one has more than 2,753 bytes, and a buffer with that much room holds it whole.
-- Assumes nothing.
use Prim.Native.Nat.{ℕ, ◌+◌, ◌*◌, ◌≤◌}
use mathlib.Core.Bool.{Bool, true, false, cond}
use mathlib.Core.List.{List, ◌++◌}
use native.Mathlib.Omega.{arith}
use lib.Dec.{eqb}
use lib.IntN.{ℤ, pos, negsuc}
use lib.ListN.{length, get_or, length-append}
use Rattle.text.specs.Text.{ascii, decimal}
use Rattle.text.proofs.Laws.{decimal_length, texts_length}
use Rattle.listing.specs.Lines.{labelled}
use Rattle.unit_lines.specs.Lines.{number_text, number_at, numbers_text, lag_text, lag_at, lags_text, unit_line}

label_length : (label : List ℕ) (n : ℕ) → length (labelled label n) ≤ length label + 20
label_length label n = omega (arith, length-append label (decimal n), decimal_length n)

number_length : (i n : ℕ) → length (number_text i n) ≤ 21
number_length i n = by_place (eqb i 0)
  where
    by_place : (b : Bool) → length (cond b (decimal n) (labelled (ascii " ") n)) ≤ 21
    by_place true = omega (arith, decimal_length n)
    by_place false = label_length (ascii " ") n

lag_length : (z : ℤ) → length (lag_text z) ≤ 22
lag_length (pos n) = omega (arith, label_length (ascii " ") n)
lag_length (negsuc n) = label_length (ascii " -") _

pub unit_line_length : (numbers : List ℕ) (lags : List ℤ) → length (unit_line numbers lags) ≤ length numbers * 21 + length lags * 22 + 1
unfolding unit_line numbers_text lags_text
unit_line_length numbers lags =
    omega (
      arith,
      length-append (numbers_text numbers ++ lags_text lags) (ascii "\n"),
      length-append (numbers_text numbers) (lags_text lags),
      texts_length (number_at numbers) 21 (λ i. number_length i (get_or numbers i 0)) (length numbers),
      texts_length (lag_at lags) 22 (λ i. lag_length (get_or lags i (pos 0))) (length lags),
    )

pub unit_line_short : (numbers : List ℕ) (lags : List ℤ) → length numbers ≤ 64 → length lags ≤ 64 → length (unit_line numbers lags) ≤ 2753
unit_line_short numbers lags few fewer = omega (arith, unit_line_length numbers lags)
