-- A POINT AS ITS CALLER GIVES IT: a row of 12 numbers, of which the last two are not looked at (they are worked out and never given), its references and its
-- layers as bytes. The names of the first ten are those of the table, so that one list says for reading (`numbers_of` of operation_points) and for writing
-- where each number stands.
-- Assumes nothing.
use Rattle.std.specs.Prelude.{ℕ, ◌+◌, ◌%◌, Bool, cond, not, List, [], ◌∷◌, map, eqb, get_or}
use lib.Text.{eqt}
use Rattle.combinators.specs.Lists.{any}
use Rattle.syntax.specs.Table.{Table, bytes}
use Rattle.syntax.specs.Named.{Given, given_to, read_by, write_by}
use Rattle.operation_points.specs.Parts.{Part, lines, repeated, when}
use Rattle.operation_points.specs.Tables.{point_head, reference, flags_count, flags, rates, frame_rate, average_rate, maximum_rate, has_frame_rate, has_average_rate, has_maximum_rate, point_syntax}
use Rattle.point_fields.specs.WrittenParts.{Lists, parts_bytes, part_too_wide}

-- the numbers of a row, by their names
abbrev pub given_in : List ℕ → Given
given_in row =
    ("target_ols", get_or row 0 0)
    ∷ ("ES_count", get_or row 1 0)
    ∷ ("numEsInOp", get_or row 2 0)
    ∷ ("avg_bit_rate_info_flag", get_or row 3 0)
    ∷ ("max_bit_rate_info_flag", get_or row 4 0)
    ∷ ("constant_frame_rate_info_idc", get_or row 5 0)
    ∷ ("applicable_temporal_id", get_or row 6 0)
    ∷ ("frame_rate_indicator", get_or row 7 0)
    ∷ ("avg_bit_rate", get_or row 8 0)
    ∷ ("max_bit_rate", get_or row 9 0)
    ∷ []

abbrev pub references_counted : List ℕ → ℕ
references_counted row = given_to "ES_count" (given_in row)

abbrev pub layers_counted : List ℕ → ℕ
layers_counted row = given_to "numEsInOp" (given_in row)

-- the items of a list of bytes, each by the names of its table's lines
abbrev pub item_in : Table → ℕ → Given
item_in t byte = read_by t (byte ∷ [])

-- a reference as it is written
abbrev pub reference_bytes : ℕ → List ℕ
reference_bytes byte = write_by reference (item_in reference byte)

-- the two lists of a point, by the names of their counts
abbrev pub lists_in : List ℕ → List ℕ → Lists
lists_in references layers name = cond (eqt name "ES_count") (map (item_in reference) references) (map (item_in flags) layers)

-- ---- the bytes

-- the two lists with their counts, and the rates: the point in two
abbrev pub list_parts : List Part
list_parts = lines point_head ∷ repeated "ES_count" reference ∷ lines flags_count ∷ repeated "numEsInOp" flags ∷ []

abbrev pub rate_parts : List Part
rate_parts = lines rates ∷ when has_frame_rate frame_rate ∷ when has_average_rate average_rate ∷ when has_maximum_rate maximum_rate ∷ []

unfoldable pub list_bytes : List ℕ → List ℕ → List ℕ → List ℕ
list_bytes row references layers = parts_bytes (given_in row) (lists_in references layers) list_parts

unfoldable pub rate_bytes : List ℕ → List ℕ
rate_bytes row = parts_bytes (given_in row) (lists_in [] []) rate_parts

unfoldable pub point_bytes : List ℕ → List ℕ → List ℕ → List ℕ
point_bytes row references layers = parts_bytes (given_in row) (lists_in references layers) point_syntax

-- ---- 25

unfoldable pub row_too_wide : List ℕ → Bool
row_too_wide row = any (part_too_wide (given_in row)) point_syntax

-- a byte of the references holds their two lines and nothing else: its first bit, which the table reserves, is not given
abbrev pub reference_too_wide : ℕ → Bool
reference_too_wide byte = not (eqb (byte % 128) byte)

-- ---- how many bytes a point takes, its two lists aside

abbrev pub part_size : Given → Part → ℕ
part_size given (lines t) = bytes t
part_size given (repeated name t) = 0
part_size given (when test t) = cond (test given) (bytes t) 0

abbrev pub size_of_parts : Given → List Part → ℕ
size_of_parts given [] = 0
size_of_parts given (part ∷ parts) = part_size given part + size_of_parts given parts

unfoldable pub fields_size : List ℕ → ℕ
fields_size row = size_of_parts (given_in row) point_syntax
