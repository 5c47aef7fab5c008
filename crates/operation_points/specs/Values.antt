-- THE VALUE of an operation point and of its descriptor: what reading tells and what writing is given, without the reserved bits, the counts (which are
-- the lengths of the lists) and the places. The shape excludes what the table cannot say: a frame_rate_indicator without its idc, a bit rate without its
-- flag. Below it what the value of a payload is, by the walk of specs/Points.antt, and the numbers of a point as the lists for C have them.
-- Assumes nothing.
use Rattle.std.specs.Prelude.{ℕ, zero, suc, ◌+◌, ◌*◌, ◌/◌, Bool, cond, List, [], ◌∷◌, ◌++◌, map, ltb, length, take, drop, Err, None, Ok, Some}
use Rattle.syntax.specs.Table.{bytes}
use Rattle.syntax.specs.Named.{read_by}
use Rattle.operation_points.specs.Tables.{profiles_count, profile, point_head, reference, flags}
use Rattle.operation_points.specs.Points.{head_of, first_point, reference_from, flags_from}
use Rattle.operation_points.specs.declared.Head.{Head}
use Rattle.operation_points.specs.Answer.{HeadRead, FirstPoint}
use Rattle.operation_points.specs.declared.Point.{Point}
use Rattle.operation_points.specs.declared.Reference.{Reference}
use Rattle.operation_points.specs.declared.LayerFlags.{LayerFlags}

-- ---- the value

-- constant_frame_rate_info_idc with frame_rate_indicator: 0 without one, or 1 to 3 with it
pub data FrameRate : Type 0 where
  no_frame_rate : FrameRate
  constant : (idc indicator : ℕ) → FrameRate

-- a bit rate with its flag
pub data BitRate : Type 0 where
  no_bit_rate : BitRate
  rate : ℕ → BitRate

pub record PointValue : Type 0 where
  pub target_ols : ℕ
  pub references : List Reference
  pub layers : List LayerFlags
  pub temporal_id : ℕ
  pub frame_rate : FrameRate
  pub average : BitRate
  pub maximum : BitRate

-- The profile structures stand by their bytes, 12 each, kept whole and not looked into.
pub record DescriptorValue : Type 0 where
  pub profiles : List ℕ
  pub points : List PointValue

-- ---- the value of a payload

abbrev pub frame_rate_of : ℕ → ℕ → FrameRate
frame_rate_of idc indicator = cond (ltb 0 idc) (constant idc indicator) no_frame_rate

abbrev pub bit_rate_of : Bool → ℕ → BitRate
bit_rate_of there number = cond there (rate number) no_bit_rate

-- the bytes of a point's two lists, in the bytes that begin with it
abbrev pub references_in : Point → List ℕ → List ℕ
references_in point left = take point.es_count (drop (bytes point_head) left)

abbrev pub layers_in : Point → List ℕ → List ℕ
layers_in point left = take point.num_es_in_op (drop point.flags_at left)

abbrev pub reference_in : ℕ → Reference
reference_in byte = reference_from (read_by reference (byte ∷ []))

abbrev pub flags_in : ℕ → LayerFlags
flags_in byte = flags_from (read_by flags (byte ∷ []))

abbrev pub point_value : Point → List ℕ → PointValue
point_value point left =
    record {
      target_ols = point.target_ols;
      references = map reference_in (references_in point left);
      layers = map flags_in (layers_in point left);
      temporal_id = point.applicable_temporal_id;
      frame_rate = frame_rate_of point.constant_frame_rate_info_idc point.frame_rate_indicator;
      average = bit_rate_of point.avg_bit_rate_info_flag point.avg_bit_rate;
      maximum = bit_rate_of point.max_bit_rate_info_flag point.max_bit_rate;
    }

-- what is found of each point that stands there, in order
abbrev pub points_by : {A : Type 0} → FirstPoint → (Point → A) → (ℕ → List A) → List A
points_by (Ok point) found behind = found point ∷ behind point.size
points_by (Err fault) found behind = []

abbrev pub each_point : {A : Type 0} → (Point → List ℕ → A) → ℕ → List ℕ → List A
each_point found zero left = []
each_point found (suc count) left =
    points_by (first_point left) (λ point. found point left) (λ size. each_point found count (drop size left))

abbrev pub points_in : ℕ → List ℕ → List PointValue
points_in count left = each_point point_value count left

-- the bytes of the profile structures, behind their count
abbrev pub profiles_in : Head → List ℕ → List ℕ
profiles_in head payload = take (head.num_ptl * bytes profile) (drop (bytes profiles_count) payload)

abbrev pub value_after : HeadRead → List ℕ → DescriptorValue
value_after None payload = record { profiles = []; points = [] }
value_after (Some head) payload =
    record { profiles = profiles_in head payload; points = points_in head.operation_points_count (drop head.points_at payload) }

-- Of a payload whose fields fill it exactly. (Of others it is what was read before the misfit, which nothing answers.)
abbrev pub value_of : List ℕ → DescriptorValue
value_of payload = value_after (head_of payload) payload

-- ---- as lists for C

abbrev pub reference_byte : Reference → ℕ
reference_byte r = cond r.prepend_dependencies 64 0 + r.es_reference

abbrev pub flags_byte : LayerFlags → ℕ
flags_byte f = cond f.necessary_layer_flag 128 0 + cond f.output_layer_flag 64 0 + f.ptl_ref_idx

abbrev pub idc_of : FrameRate → ℕ
idc_of no_frame_rate = 0
idc_of (constant idc indicator) = idc

abbrev pub indicator_of : FrameRate → ℕ
indicator_of no_frame_rate = 0
indicator_of (constant idc indicator) = indicator

abbrev pub flag_of : BitRate → ℕ
flag_of no_bit_rate = 0
flag_of (rate number) = 1

abbrev pub number_of : BitRate → ℕ
number_of no_bit_rate = 0
number_of (rate number) = number

-- The numbers of a point, by the table's names: target_ols, ES_count, numEsInOp, avg_bit_rate_info_flag, max_bit_rate_info_flag,
-- constant_frame_rate_info_idc, applicable_temporal_id, frame_rate_indicator, avg_bit_rate, max_bit_rate; 0 for what is not there.
abbrev pub numbers_of : PointValue → List ℕ
numbers_of value =
    value.target_ols
    ∷ length value.references
    ∷ length value.layers
    ∷ flag_of value.average
    ∷ flag_of value.maximum
    ∷ idc_of value.frame_rate
    ∷ value.temporal_id
    ∷ indicator_of value.frame_rate
    ∷ number_of value.average
    ∷ number_of value.maximum
    ∷ []

-- and its row, with what is worked out: how many members its stream list has, and whether that is closed under embedding
abbrev pub row_of : ℕ → Bool → PointValue → List ℕ
row_of members closed value = numbers_of value ++ (members ∷ cond closed 1 0 ∷ [])

abbrev pub reference_bytes : PointValue → List ℕ
reference_bytes value = map reference_byte value.references

abbrev pub layer_bytes : PointValue → List ℕ
layer_bytes value = map flags_byte value.layers

-- of a descriptor: num_ptl, operation_points_count
abbrev pub counts_of : DescriptorValue → List ℕ
counts_of value = length value.profiles / bytes profile ∷ length value.points ∷ []
