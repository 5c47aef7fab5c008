-- HOW AN OPERATION POINT DESCRIPTOR IS WRITTEN from its caller's lists: the head of every descriptor, the extension tag, and the payload by the tables by which
-- it is read: what stands before the points, and the points, each with as many references and layers as its row counts.
-- Assumes nothing.
use Rattle.std.specs.Prelude.{ℕ, ◌+◌, ◌/◌, List, [], ◌∷◌, ◌++◌, map, length, take, drop}
use Rattle.syntax.specs.Table.{Table, fixed, write_table}
use Rattle.syntax.specs.Named.{Given, read_by}
use Rattle.syntax.specs.Filled.{bytes_in}
use Rattle.descriptor_heads.specs.Head.{head_table}
use Rattle.operation_points.specs.Tables.{profile, head_syntax}
use Rattle.point_fields.specs.WrittenParts.{Lists, parts_bytes}
use Rattle.point_fields.specs.Fields.{references_counted, layers_counted, point_bytes}
use Rattle.point_weights.specs.Rows.{twelves, rows_in}

-- 'tag 63, extension tag 0x05, as Table 2-106 has it'
abbrev pub extension_tag : Table
extension_tag = fixed 8 0x05 ∷ []

-- ---- before the points: the profiles by their bytes, 12 each

abbrev pub head_given : ℕ → ℕ → Given
head_given profiles points = ("num_ptl", profiles / 12) ∷ ("operation_points_count", points) ∷ []

abbrev pub head_lists : List ℕ → Lists
head_lists profiles name = map (read_by profile) (twelves (length profiles / 12) profiles)

unfoldable pub head_bytes : List ℕ → ℕ → List ℕ
head_bytes profiles points = parts_bytes (head_given (length profiles) points) (head_lists profiles) head_syntax

-- ---- the points, 'of all points in order'

abbrev pub points_bytes : List (List ℕ) → List ℕ → List ℕ → List ℕ
points_bytes [] references layers = []
points_bytes (row ∷ rows) references layers =
    point_bytes row (take (references_counted row) references) (take (layers_counted row) layers)
    ++ points_bytes rows (drop (references_counted row) references) (drop (layers_counted row) layers)

-- ---- the whole of it

-- what stands before the points, of a descriptor with so many bytes behind its head
abbrev pub before_points : List ℕ → ℕ → ℕ → List ℕ
before_points profiles points behind = bytes_in (head_table 63 behind) ++ (write_table extension_tag [] ++ head_bytes profiles points)

abbrev pub payload_bytes : List ℕ → List ℕ → List ℕ → List ℕ → List ℕ
payload_bytes profiles points references layers = head_bytes profiles (length points / 12) ++ points_bytes (rows_in points) references layers

unfoldable pub descriptor_bytes : List ℕ → List ℕ → List ℕ → List ℕ → List ℕ
descriptor_bytes profiles points references layers =
    bytes_in (head_table 63 (1 + length (payload_bytes profiles points references layers)))
    ++ (write_table extension_tag [] ++ payload_bytes profiles points references layers)
