-- MANY POINTS AS THEIR CALLER GIVES THEM: rows of 12 numbers one after another, and the references and the layers of all of them in order.
-- Assumes nothing.
use Rattle.std.specs.Prelude.{ℕ, zero, suc, ◌+◌, ◌/◌, ◌%◌, Bool, cond, not, ◌||◌, List, [], ◌∷◌, eqb, ltb, length, take, drop, Err, Ok}
use Rattle.combinators.specs.Lists.{any}
use Rattle.vocabulary.specs.declared.refusal.Refusal.TheVariants.{TooWide, ReservedEsCount}
use Rattle.point_fields.specs.Fields.{row_too_wide, reference_too_wide, references_counted, layers_counted, fields_size}
use Rattle.point_weights.specs.Answer.{Written}

-- pieces of twelve, one after another: the rows of points, and the profile structures
abbrev pub twelves : ℕ → List ℕ → List (List ℕ)
twelves zero l = []
twelves (suc n) l = take 12 l ∷ twelves n (drop 12 l)

abbrev pub rows_in : List ℕ → List (List ℕ)
rows_in points = twelves (length points / 12) points

-- what each row counts, of all of them together
abbrev pub total : (List ℕ → ℕ) → List (List ℕ) → ℕ
total counts [] = 0
total counts (row ∷ rows) = counts row + total counts rows

-- ---- 25 'for given values and counts'

-- lists that are no pieces of twelve, 'more than 63 profiles', 'more than 255 points'
abbrev pub counts_wrong : ℕ → ℕ → Bool
counts_wrong profiles points = not (eqb (profiles % 12) 0) || ltb 63 (profiles / 12) || not (eqb (points % 12) 0) || ltb 255 (points / 12)

-- a value too wide for its field, and references or layers that are not as many as the points say
abbrev pub points_wrong : List (List ℕ) → List ℕ → ℕ → Bool
points_wrong rows references layers =
    any reference_too_wide references
    || (any row_too_wide rows || not (eqb (total references_counted rows) (length references)) || not (eqb (total layers_counted rows) layers))

-- ---- 41: 'ES_count 0xFF' is reserved

abbrev pub is_reserved : List ℕ → Bool
is_reserved row = eqb (references_counted row) 255

-- ---- descriptor_length: the extension tag, the two counts, the profiles, and the points with their lists

abbrev pub length_for : List (List ℕ) → ℕ → ℕ
length_for rows profiles = 3 + profiles + total references_counted rows + total layers_counted rows + total fields_size rows

-- ---- THE VERDICT: 'for given values and counts 25, then 41 for 255 references, then 25 for a length above 255'; or how many bytes the descriptor takes.

abbrev pub judged_points : List (List ℕ) → ℕ → List ℕ → ℕ → Written
judged_points rows profiles references layers =
    cond (points_wrong rows references layers) (Err TooWide)
    (cond (any is_reserved rows) (Err ReservedEsCount)
    (cond (ltb 255 (length_for rows profiles)) (Err TooWide) (Ok (2 + length_for rows profiles))))

unfoldable pub judged : ℕ → List ℕ → List ℕ → ℕ → Written
judged profiles points references layers =
    cond (counts_wrong profiles (length points)) (Err TooWide) (judged_points (rows_in points) profiles references layers)
