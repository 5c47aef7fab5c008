-- How many bytes are written: the tables with loops and conditions, a point, the points, the payload.
-- Assumes nothing.
use Prim.Native.Nat.{ℕ, zero, suc, ◌+◌, ◌*◌, ◌/◌, ◌%◌}
use mathlib.Core.Path.{◌≡◌, refl, ap, ap₂, ◌∙◌}
use mathlib.Core.Bool.{Bool, true, false, cond}
use mathlib.Core.List.{List, [], ◌∷◌}
use native.Mathlib.Omega.{arith}
use lib.ListN.{length, take, drop, length-append, length-drop, length-map}
use lib.Seq.{length-take-le}
use Rattle.combinators.specs.Lists.{gather}
use Rattle.syntax.specs.Table.{Table, bytes}
use Rattle.syntax.specs.Named.{Given, values_by, read_by, write_by}
use Rattle.syntax.proofs.Laws.{length_written}
use Rattle.operation_points.specs.Parts.{Part, lines, repeated, when}
use Rattle.operation_points.specs.Tables.{profile, reference, flags, head_syntax, point_syntax}
use Rattle.point_fields.specs.WrittenParts.{Lists, part_bytes, parts_bytes}
use Rattle.point_fields.specs.Fields.{given_in, item_in, lists_in, references_counted, layers_counted, point_bytes, part_size, size_of_parts, fields_size}
use Rattle.point_weights.specs.Rows.{twelves, rows_in, total}
use Rattle.point_writer.specs.Layout.{head_given, head_lists, head_bytes, points_bytes, payload_bytes}

-- ---- parts

abbrev list_size : Lists → Part → ℕ
list_size lists (lines t) = 0
list_size lists (repeated name t) = length (lists name) * bytes t
list_size lists (when test t) = 0

abbrev list_sizes : Lists → List Part → ℕ
list_sizes lists [] = 0
list_sizes lists (part ∷ parts) = list_size lists part + list_sizes lists parts

pub length_items : (t : Table) (items : List Given) → length (gather (write_by t) items) ≡ length items * bytes t
length_items t [] = (let none : 0 ≡ 0 * bytes t = omega arith in none)
length_items t (item ∷ items) =
    length-append (write_by t item) (gather (write_by t) items)
    ∙ ap₂ (λ (a b : ℕ). a + b) (length_written t (values_by t item)) (length_items t items)
    ∙ (let more : bytes t + length items * bytes t ≡ suc (length items) * bytes t = omega arith in more)

length_part : (given : Given) (lists : Lists) (part : Part) → length (part_bytes given lists part) ≡ part_size given part + list_size lists part
length_part given lists (lines t) = length_written t (values_by t given) ∙ omega arith
length_part given lists (repeated name t) = length_items t (lists name) ∙ omega arith
length_part given lists (when test t) = go (test given)
  where
    go : (b : Bool) → length (cond b (write_by t given) []) ≡ cond b (bytes t) 0 + 0
    go true = length_written t (values_by t given) ∙ omega arith
    go false = refl

length_parts : (given : Given) (lists : Lists) (parts : List Part)
    → length (parts_bytes given lists parts) ≡ size_of_parts given parts + list_sizes lists parts
length_parts given lists [] = refl
length_parts given lists (part ∷ parts) =
    length-append (part_bytes given lists part) (parts_bytes given lists parts)
    ∙ ap₂ (λ (a b : ℕ). a + b) (length_part given lists part) (length_parts given lists parts)
    ∙ regroup (part_size given part) (list_size lists part) (size_of_parts given parts) (list_sizes lists parts)
  where
    regroup : (a b c d : ℕ) → a + b + (c + d) ≡ a + c + (b + d)
    regroup a b c d = omega arith

-- ---- a point, and points

pub length_point : (row references layers : List ℕ) → length (point_bytes row references layers) ≡ fields_size row + (length references + length layers)
unfolding point_bytes fields_size
length_point row references layers =
    length_parts (given_in row) (lists_in references layers) point_syntax
    ∙ ap (λ (n : ℕ). size_of_parts (given_in row) point_syntax + n)
    (ap₂ (λ (a b : ℕ). 0 + (a * 1 + (0 + (b * 1 + 0)))) (length-map references (item_in reference)) (length-map layers (item_in flags))
    ∙ (let tidy : 0 + (length references * 1 + (0 + (length layers * 1 + 0))) ≡ length references + length layers = omega arith in tidy))

pub length_points : (rows : List (List ℕ)) (references layers : List ℕ) → total references_counted rows ≡ length references
    → total layers_counted rows ≡ length layers → length (points_bytes rows references layers) ≡ total fields_size rows + (length references + length layers)
length_points [] references layers r l = omega arith
length_points (row ∷ rows) references layers r l =
    let es : ℕ = references_counted row in
    let n : ℕ = layers_counted row in
    let less = length-drop es references in
    let fewer = length-drop n layers in
    let some = length-take-le es references (omega arith) in
    let few = length-take-le n layers (omega arith) in
    let first = length_point row (take es references) (take n layers) in
    let others = length_points rows (drop es references) (drop n layers) (omega arith) (omega arith) in
    length-append (point_bytes row (take es references) (take n layers)) (points_bytes rows (drop es references) (drop n layers))
    ∙ ap₂ (λ (a b : ℕ). a + b) first others
    ∙ omega arith

-- ---- the payload

length_twelves : (n : ℕ) (l : List ℕ) → length (twelves n l) ≡ n
length_twelves zero l = refl
length_twelves (suc n) l = ap suc (length_twelves n (drop 12 l))

pub length_head : (profiles : List ℕ) (points : ℕ) → length profiles % 12 ≡ 0 → length (head_bytes profiles points) ≡ 2 + length profiles
unfolding head_bytes
length_head profiles points whole =
    length_parts (head_given (length profiles) points) (head_lists profiles) head_syntax
    ∙ ap (λ (n : ℕ). 1 + (0 + (1 + 0)) + (0 + (n * 12 + (0 + 0))))
    (length-map (twelves (length profiles / 12) profiles) (read_by profile) ∙ length_twelves (length profiles / 12) profiles)
    ∙ omega arith

pub length_payload : (profiles points references layers : List ℕ) → length profiles % 12 ≡ 0 → total references_counted (rows_in points) ≡ length references
    → total layers_counted (rows_in points) ≡ length layers
    → 1 + length (payload_bytes profiles points references layers)
    ≡ 3 + length profiles + total references_counted (rows_in points) + total layers_counted (rows_in points) + total fields_size (rows_in points)
length_payload profiles points references layers whole r l =
    let head = length_head profiles (length points / 12) whole in
    let rest = length_points (rows_in points) references layers r l in
    let all = length-append (head_bytes profiles (length points / 12)) (points_bytes (rows_in points) references layers) in
    omega arith
