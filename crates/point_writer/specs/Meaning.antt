-- WHAT WRITING AN OPERATION POINT DESCRIPTOR MEANS, in the words of W-205 and by the value of a descriptor (operation_points/specs/Values.antt): which lists are the
-- rows of a value, the bytes of a value, and the answer with what the buffer then holds. proofs/Meant.antt has the law that joins this to what is computed: the
-- computed answer has this meaning, and no other answer has it.
-- Assumes nothing.
use Rattle.std.specs.Prelude.{ℕ, ◌+◌, ◌%◌, ◌≤◌, ◌<◌, cond, ◌≡◌, List, [], ◌∷◌, ◌++◌, map, length, drop, Err, Ok}
use lib.Text.{eqt}
use Rattle.combinators.specs.Lists.{Nth}
use Rattle.syntax.specs.Table.{Written}
use Rattle.syntax.specs.Named.{Given, WrittenBy}
use Rattle.syntax.specs.Filled.{bit_of, Filled}
use Rattle.descriptor_heads.specs.Head.{head_table}
use Rattle.operation_points.specs.declared.Reference.{Reference}
use Rattle.operation_points.specs.declared.LayerFlags.{LayerFlags}
use Rattle.operation_points.specs.Tables.{head_syntax, point_syntax}
use Rattle.operation_points.specs.Values.{FrameRate, no_frame_rate, constant, PointValue, DescriptorValue, numbers_of, reference_bytes, flags_in}
use Rattle.vocabulary.specs.declared.refusal.Refusal.TheVariants.{TooWide, ReservedEsCount, NoRoom}
use Rattle.point_fields.specs.WrittenParts.{Lists, FitParts, WritesParts}
use Rattle.point_fields.specs.Fields.{given_in}
use Rattle.point_weights.specs.Answer.{Written as Answer}
use Rattle.point_writer.specs.Layout.{extension_tag, head_given, head_lists}

-- ---- what a value gives to the names of the table's lines

abbrev pub reference_given : Reference → Given
reference_given r = ("prepend_dependencies", bit_of r.prepend_dependencies) ∷ ("ES_reference", r.es_reference) ∷ []

abbrev pub flags_given : LayerFlags → Given
flags_given f =
    ("necessary_layer_flag", bit_of f.necessary_layer_flag) ∷ ("output_layer_flag", bit_of f.output_layer_flag) ∷ ("ptl_ref_idx", f.ptl_ref_idx) ∷ []

-- a point's lines, by the names of its numbers, and its two lists
abbrev pub value_given : PointValue → Given
value_given v = given_in (numbers_of v)

abbrev pub value_lists : PointValue → Lists
value_lists v name = cond (eqt name "ES_count") (map reference_given v.references) (map flags_given v.layers)

-- ---- values that can be written

-- 'frame_rate_indicator is there exactly when the idc is not 0'
abbrev pub Shaped : FrameRate → Type 0
Shaped no_frame_rate = Unit {0}
Shaped (constant idc indicator) = 0 < idc

-- no value is too wide for its field, the two counts among them
pub record PointFits (v : PointValue) : Type 0 where
  pub fits : FitParts (value_given v) (value_lists v) point_syntax
  pub shaped : Shaped v.frame_rate

pub data EachFits : List PointValue → Type 0 where
  none : EachFits []
  point_then : {v : PointValue} {vs : List PointValue} → PointFits v → EachFits vs → EachFits (v ∷ vs)

pub record ValueFits (v : DescriptorValue) : Type 0 where
  pub whole : length v.profiles % 12 ≡ 0
  pub counts : FitParts (head_given (length v.profiles) (length v.points)) (head_lists v.profiles) head_syntax
  pub points : EachFits v.points

-- ---- the lists of a value: the rows of its points, in which the last two numbers are any, and their references and layers, 'of all points in order'

-- The bytes of a point's two lists. A reference has a reserved bit, which is not given; every byte is that of a layer.
pub record ListsOf (v : PointValue) (references layers : List ℕ) : Type 0 where
  pub references_are : references ≡ reference_bytes v
  pub layers_are : map flags_in layers ≡ v.layers

pub data Rows : List PointValue → List ℕ → List ℕ → List ℕ → Type 0 where
  none : Rows [] [] [] []
  row_then : {v : PointValue} {vs : List PointValue} {points references layers : List ℕ} (members closed : ℕ) (its_references its_layers : List ℕ)
      → ListsOf v its_references its_layers → Rows vs points references layers
      → Rows (v ∷ vs) ((numbers_of v ++ (members ∷ closed ∷ [])) ++ points) (its_references ++ references) (its_layers ++ layers)

-- The lists that a caller gives are those of a value that can be written.
pub record Gives (profiles points references layers : List ℕ) (v : DescriptorValue) : Type 0 where
  pub profiles_are : v.profiles ≡ profiles
  pub rows : Rows v.points points references layers
  pub fits : ValueFits v

-- 41: 'ES_count 0xFF' is reserved
pub data SomeReserved (vs : List PointValue) : Type 0 where
  reserved_at : {k : ℕ} {v : PointValue} → Nth vs k v → length v.references ≡ 255 → SomeReserved vs

-- ---- THE BYTES

pub data WritesPoints : List PointValue → List ℕ → Type 0 where
  nothing : WritesPoints [] []
  point_then : {v : PointValue} {vs : List PointValue} {l rest : List ℕ} → WritesParts (value_given v) (value_lists v) point_syntax l → WritesPoints vs rest
      → WritesPoints (v ∷ vs) (l ++ rest)

pub data WritesPayload (v : DescriptorValue) : List ℕ → Type 0 where
  head_then : {head points : List ℕ} → WritesParts (head_given (length v.profiles) (length v.points)) (head_lists v.profiles) head_syntax head
      → WritesPoints v.points points → WritesPayload v (head ++ points)

-- the head, which counts the bytes behind it, and the extension tag before the payload
pub data WritesDescriptor (v : DescriptorValue) : List ℕ → Type 0 where
  descriptor : {head tag payload : List ℕ}
      → (let table : Filled = head_table 63 (length (tag ++ payload)) in WrittenBy table.table table.given head)
      → Written extension_tag [] tag → WritesPayload v payload → WritesDescriptor v (head ++ (tag ++ payload))

-- ---- THE ANSWER, and what the buffer then holds: on a refusal what it held, and on acceptance the bytes, and beyond them what it held.

pub data Answers (profiles points references layers old : List ℕ) : Answer → List ℕ → Type 0 where
  -- 25 'for given values and counts'
  no_value : ((v : DescriptorValue) → Gives profiles points references layers v → ⊥) → Answers profiles points references layers old (Err TooWide) old
  -- 'then 41 for 255 references'
  reserves : {v : DescriptorValue} → Gives profiles points references layers v → SomeReserved v.points
      → Answers profiles points references layers old (Err ReservedEsCount) old
  -- 'then 25 for a length above 255'
  too_long_lem : {v : DescriptorValue} {payload : List ℕ} → Gives profiles points references layers v → (SomeReserved v.points → ⊥) → WritesPayload v payload
      → 255 < 1 + length payload → Answers profiles points references layers old (Err TooWide) old
  -- 'then 17'
  no_room : {v : DescriptorValue} {bytes : List ℕ} → Gives profiles points references layers v → (SomeReserved v.points → ⊥) → WritesDescriptor v bytes
      → length old < length bytes → Answers profiles points references layers old (Err NoRoom) old
  -- the number of bytes written
  accepts : {v : DescriptorValue} {bytes : List ℕ} → Gives profiles points references layers v → (SomeReserved v.points → ⊥) → WritesDescriptor v bytes
      → length bytes ≤ length old → Answers profiles points references layers old (Ok (length bytes)) (bytes ++ drop (length bytes) old)
