-- What stands at a place of the program's loop: the head of a payload, and a point, with its value.
-- Assumes nothing.
use Rattle.std.specs.Prelude.{ℕ, ◌<◌, false, List, [], ◌∷◌, ◌≡◌, length, get_or, drop, Err, None, Ok, Some}
use Rattle.operation_points.specs.declared.Head.{Head}
use Rattle.operation_points.specs.Answer.{HeadRead, FirstPoint}
use Rattle.operation_points.specs.declared.Point.{Point}
use Rattle.operation_points.specs.Points.{head_of, first_point}
use Rattle.operation_points.specs.Values.{PointValue, point_value, profiles_in}

abbrev pub blank_point : Point
blank_point =
    record {
      target_ols = 0;
      es_count = 0;
      num_es_in_op = 0;
      flags_at = 0;
      avg_bit_rate_info_flag = false;
      max_bit_rate_info_flag = false;
      constant_frame_rate_info_idc = 0;
      applicable_temporal_id = 0;
      frame_rate_indicator = 0;
      avg_bit_rate = 0;
      max_bit_rate = 0;
      size = 0;
    }

abbrev pub point_or : FirstPoint → Point
point_or (Ok point) = point
point_or (Err fault) = blank_point

abbrev pub head_or : HeadRead → Head
head_or (Some head) = head
head_or None = record { num_ptl = 0; operation_points_count = 0; points_at = 0 }

-- ---- at a place

abbrev pub point_at : List ℕ → ℕ → Point
point_at program at = point_or (first_point (drop at program))

abbrev pub value_at : List ℕ → ℕ → PointValue
value_at program at = point_value (point_at program at) (drop at program)

abbrev pub head_at : List ℕ → ℕ → Head
head_at program at = head_or (head_of (drop at program))

abbrev pub profiles_at : List ℕ → ℕ → List ℕ
profiles_at program at = profiles_in (head_at program at) (drop at program)

abbrev pub counts_at : List ℕ → ℕ → List ℕ
counts_at program at = (head_at program at).num_ptl ∷ (head_at program at).operation_points_count ∷ []

-- ---- places at which a point stands, and a payload

pub record IsPoint (program : List ℕ) (at : ℕ) : Type 0 where
  pub point : Point
  pub reads : first_point (drop at program) ≡ Ok point

pub record IsPayload (program : List ℕ) (at : ℕ) : Type 0 where
  pub head : Head
  pub reads : head_of (drop at program) ≡ Some head

abbrev pub AllPoints : List ℕ → List ℕ → Type 0
AllPoints program places = (k : ℕ) → k < length places → IsPoint program (get_or places k 0)

abbrev pub AllPayloads : List ℕ → List ℕ → Type 0
AllPayloads program places = (k : ℕ) → k < length places → IsPayload program (get_or places k 0)
