-- WHAT THE FIELDS SAY, in the words of Table 2-111bis and 2.6.101 of source 000 and of W-205: the values of a point and of a descriptor, by the names of the
-- table's lines, with no word of how they are found. proofs/Fields.antt has the laws that join this to the values that are computed, both ways.
-- Assumes nothing.
use Rattle.std.specs.Prelude.{ℕ, suc, ◌+◌, ◌*◌, ◌<◌, List, [], ◌∷◌, ◌++◌, ◌≡◌, length, drop}
use Prim.Native.String.{String}
use Rattle.combinators.specs.Lists.{Nth}
use Rattle.syntax.specs.Table.{Table, bytes}
use Rattle.syntax.specs.Named.{Given, given_to, read_by}
use Rattle.operation_points.specs.Tables.{profiles_count, profile, point_head, reference, flags_count, flags}
use Rattle.operation_points.specs.Points.{reference_from, flags_from}
use Rattle.operation_points.specs.Values.{FrameRate, no_frame_rate, constant, BitRate, no_bit_rate, rate, PointValue, DescriptorValue}
use Rattle.operation_points.specs.Meaning.{BeginsWith, Descriptor}

-- 'for (i = 0; i < count; i++) { .. }': so many structures of a table from a place of the bytes on, each with its own lines
pub record Repeats {A : Type 0} (t : Table) (from : Given → A) (count at : ℕ) (l : List ℕ) (list : List A) : Type 0 where
  pub many : length list ≡ count
  pub each : (k : ℕ) (x : A) → Nth list k x → x ≡ from (read_by t (drop (at + k * bytes t) l))

-- frame_rate_indicator is there where constant_frame_rate_info_idc is not 0
pub data HasFrameRate (given : Given) : FrameRate → Type 0 where
  no_indicator : given_to "constant_frame_rate_info_idc" given ≡ 0 → HasFrameRate given no_frame_rate
  indicator : 0 < given_to "constant_frame_rate_info_idc" given
      → HasFrameRate given (constant (given_to "constant_frame_rate_info_idc" given) (given_to "frame_rate_indicator" given))

-- a bit rate is there where its flag is 1
pub data HasBitRate (flag name : String) (given : Given) : BitRate → Type 0 where
  flag_not_1 : (given_to flag given ≡ 1 → ⊥) → HasBitRate flag name given no_bit_rate
  flag_1 : given_to flag given ≡ 1 → HasBitRate flag name given (rate (given_to name given))

-- THE FIELDS OF A POINT, all but the reserved bits: its bytes, which give the table's lines these numbers, have this value. 'numEsInOp frames the flags'.
pub record PointHas (given : Given) (point : List ℕ) (value : PointValue) : Type 0 where
  pub target_ols : value.target_ols ≡ given_to "target_ols" given
  pub references : Repeats reference reference_from (given_to "ES_count" given) (bytes point_head) point value.references
  pub layers : Repeats flags flags_from (given_to "numEsInOp" given) (bytes point_head + (given_to "ES_count" given * bytes reference + bytes flags_count)) point
      value.layers
  pub temporal_id : value.temporal_id ≡ given_to "applicable_temporal_id" given
  pub frame_rate : HasFrameRate given value.frame_rate
  pub average : HasBitRate "avg_bit_rate_info_flag" "avg_bit_rate" given value.average
  pub maximum : HasBitRate "max_bit_rate_info_flag" "max_bit_rate" given value.maximum

-- so many points, one after another, and nothing else: in order, each with its fields
pub data PointsHave : ℕ → List ℕ → List PointValue → Type 0 where
  no_more : PointsHave 0 [] []
  point_then : {count : ℕ} {given : Given} {left : List ℕ} {value : PointValue} {values : List PointValue} (point behind : List ℕ)
      → BeginsWith given point behind left → PointHas given point value → PointsHave count behind values → PointsHave (suc count) left (value ∷ values)

-- 'num_ptl structures of 12 bytes, kept whole and not looked into', behind their number
pub record ProfilesOf (given : Given) (payload profiles : List ℕ) : Type 0 where
  pub counted : List ℕ
  pub behind : List ℕ
  pub split : payload ≡ counted ++ (profiles ++ behind)
  pub one_byte : length counted ≡ bytes profiles_count
  pub many : length profiles ≡ given_to "num_ptl" given * bytes profile

-- A DESCRIPTOR'S PAYLOAD has this value: its fields fill it exactly, and it has these profile structures and these points.
pub record PayloadHas (payload : List ℕ) (value : DescriptorValue) : Type 0 where
  pub filled : Descriptor (λ count left. PointsHave count left value.points) payload
  pub profiles_are : ProfilesOf filled.given payload value.profiles
