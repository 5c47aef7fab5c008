-- THE PARTS OF A TEXT: lines, each ended by a line end, or words, each by a blank.
-- Assumes nothing.
use Rattle.std.specs.Prelude.{ℕ, Bool, cond, List, [], ◌∷◌, eqb, length, get_or}
use Rattle.combinators.specs.Below.{seek}

abbrev pub is_mark : ℕ → List ℕ → ℕ → Bool
is_mark mark text k = eqb (get_or text k 0) mark

-- how many bytes stand before the first mark, or all of them where there is none
abbrev pub bytes_before : ℕ → List ℕ → ℕ
bytes_before mark text = seek (is_mark mark text) (length text)

-- the parts of a text, in order: each is what stands before a mark, and the last may end with the text
abbrev pub before_first : ℕ → List (List ℕ) → List (List ℕ)
before_first byte [] = (byte ∷ []) ∷ []
before_first byte (part ∷ parts) = (byte ∷ part) ∷ parts

abbrev pub parts_of : ℕ → List ℕ → List (List ℕ)
parts_of mark [] = []
parts_of mark (byte ∷ bytes) = cond (eqb byte mark) ([] ∷ parts_of mark bytes) (before_first byte (parts_of mark bytes))
