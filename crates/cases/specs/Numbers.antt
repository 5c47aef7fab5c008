-- DECIMAL NUMBERS OUT OF A WORD, at most eight, each parted from the next by one character that is no digit.
-- Assumes nothing.
use Rattle.std.specs.Prelude.{ℕ, ◌+◌, ◌-◌, ◌*◌, Bool, true, cond, not, ◌&&◌, List, [], ◌∷◌, eqb, leb, ltb, get_or, set, replicate}
use Rattle.cases.specs.declared.numbers.Numbers.{Numbers}

-- a character from '0' to '9', and the value of such a digit, 0 of any other
abbrev pub is_digit : ℕ → Bool
is_digit character = leb 48 character && leb character 57

abbrev pub digit_of : ℕ → ℕ
digit_of character = cond (is_digit character) (character - 48) 0

-- one character more: a digit more in the last number, or a number more. What has no place, the ninth number or one that is too large, is kept as no place at all.
abbrev pub with_digit : Numbers → ℕ → Numbers
with_digit numbers character =
    cond (ltb 1844674407370955160 (get_or numbers.list numbers.last 0)) (record { last = 8; list = numbers.list })
    (record { last = numbers.last; list = set numbers.list numbers.last (get_or numbers.list numbers.last 0 * 10 + digit_of character) })

abbrev pub with_character : Numbers → ℕ → Numbers
with_character numbers character =
    cond (ltb 7 numbers.last) (record { last = 8; list = numbers.list })
    (cond (not (is_digit character)) (record { last = numbers.last + 1; list = numbers.list }) (with_digit numbers character))

abbrev pub with_all : Numbers → List ℕ → Numbers
with_all numbers [] = numbers
with_all numbers (character ∷ characters) = with_all (with_character numbers character) characters

abbrev pub numbers_of : List ℕ → Numbers
numbers_of word = with_all (record { last = 0; list = replicate 8 0 }) word

-- the number at a place, or another where the word ends before it
abbrev pub number_or : Numbers → ℕ → ℕ → ℕ
number_or numbers place other = cond (ltb numbers.last place) other (cond (ltb 7 place) other (get_or numbers.list place 0))

-- A LINE that is a comment, or empty
abbrev pub is_comment : List ℕ → Bool
is_comment [] = true
is_comment (character ∷ characters) = eqb character 35
