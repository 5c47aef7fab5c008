-- The table at unknown bytes: what the code reads off single bytes is what the lines are given.
-- Assumes nothing.
use Prim.Native.Nat.{ℕ, ◌+◌, ◌*◌, ◌/◌, ◌%◌, ◌^◌, ◌<◌}
use mathlib.Core.Bool.{Bool, true, false, cond}
use mathlib.Core.List.{List, [], ◌∷◌, ◌++◌}
use mathlib.Core.Path.{◌≡◌, refl, ap, ap₂, ◌∙◌}
use native.Mathlib.Nat.{add-zero}
use native.Mathlib.Omega.{arith}
use lib.Dec.{eqb, ltb}
use lib.ListN.{get_or, drop}
use lib.Seq.{get_or-drop}
use Rattle.syntax.specs.Table.{AreBytes, number}
use Rattle.syntax.specs.Named.{Given, given_to, named, read_by}
use Rattle.operation_points.specs.Parts.{lines, repeated, when, walked}
use Rattle.operation_points.specs.Tables.{profiles_count, points_count, head_syntax, point_head, reference, flags_count, flags, rates, frame_rate, average_rate, maximum_rate, has_frame_rate, has_average_rate, has_maximum_rate, point_syntax}
use Rattle.operation_points.specs.Points.{point_from, reference_from, flags_from}
use Rattle.operation_points.specs.declared.Point.{Point}
use Rattle.operation_points.specs.declared.Reference.{Reference}
use Rattle.operation_points.specs.declared.LayerFlags.{LayerFlags}

-- ---- where the parts of a point stand, by the byte of its rates and the place of that

abbrev pub average_at : ℕ → ℕ → ℕ
average_at at byte = at + 1 + cond (ltb 0 (byte / 8 % 4)) 2 0

abbrev pub maximum_at : ℕ → ℕ → ℕ
maximum_at at byte = average_at at byte + cond (eqb (byte / 64 % 2) 1) 3 0

abbrev pub end_at : ℕ → ℕ → ℕ
end_at at byte = maximum_at at byte + cond (eqb (byte / 32 % 2) 1) 3 0

abbrev pub rates_at : ℕ → ℕ → ℕ
rates_at es num = 2 + es + 1 + num

-- ---- numbers of two and of three bytes

abbrev pub twelve : List ℕ → ℕ → ℕ
twelve l at = get_or l at 0 % 16 * 256 + get_or l (at + 1) 0

abbrev pub twenty_four : List ℕ → ℕ → ℕ
twenty_four l at = get_or l at 0 * 65536 + get_or l (at + 1) 0 * 256 + get_or l (at + 2) 0

-- what the lines of a point are given
abbrev pub point_given : ℕ → ℕ → ℕ → ℕ → Bool → ℕ → Bool → ℕ → Bool → ℕ → Given
point_given target es num byte b₁ frame b₂ average b₃ maximum =
    ((("target_ols", target)
    ∷ ("ES_count", es)
    ∷ ("numEsInOp", num)
    ∷ ("avg_bit_rate_info_flag", byte / 64 % 2)
    ∷ ("max_bit_rate_info_flag", byte / 32 % 2)
    ∷ ("constant_frame_rate_info_idc", byte / 8 % 4)
    ∷ ("applicable_temporal_id", byte % 8)
    ∷ cond b₁ (("frame_rate_indicator", frame) ∷ []) [])
    ++ cond b₂ (("avg_bit_rate", average) ∷ []) [])
    ++ cond b₃ (("max_bit_rate", maximum) ∷ []) []

frame_given : (target es num byte frame average maximum : ℕ) (b₁ b₂ b₃ : Bool)
    → given_to "frame_rate_indicator" (point_given target es num byte b₁ frame b₂ average b₃ maximum) ≡ cond b₁ frame 0
frame_given target es num byte frame average maximum true b₂ b₃ = refl
frame_given target es num byte frame average maximum false true true = refl
frame_given target es num byte frame average maximum false true false = refl
frame_given target es num byte frame average maximum false false true = refl
frame_given target es num byte frame average maximum false false false = refl

average_given : (target es num byte frame average maximum : ℕ) (b₁ b₂ b₃ : Bool)
    → given_to "avg_bit_rate" (point_given target es num byte b₁ frame b₂ average b₃ maximum) ≡ cond b₂ average 0
average_given target es num byte frame average maximum true true b₃ = refl
average_given target es num byte frame average maximum true false true = refl
average_given target es num byte frame average maximum true false false = refl
average_given target es num byte frame average maximum false true b₃ = refl
average_given target es num byte frame average maximum false false true = refl
average_given target es num byte frame average maximum false false false = refl

maximum_given : (target es num byte frame average maximum : ℕ) (b₁ b₂ b₃ : Bool)
    → given_to "max_bit_rate" (point_given target es num byte b₁ frame b₂ average b₃ maximum) ≡ cond b₃ maximum 0
maximum_given target es num byte frame average maximum true true true = refl
maximum_given target es num byte frame average maximum true true false = refl
maximum_given target es num byte frame average maximum true false true = refl
maximum_given target es num byte frame average maximum true false false = refl
maximum_given target es num byte frame average maximum false true true = refl
maximum_given target es num byte frame average maximum false true false = refl
maximum_given target es num byte frame average maximum false false true = refl
maximum_given target es num byte frame average maximum false false false = refl

-- a point as the code makes it
abbrev pub point_by : ℕ → ℕ → ℕ → ℕ → ℕ → ℕ → ℕ → ℕ → Point
point_by target es num byte frame average maximum size =
    record {
      target_ols = target;
      es_count = es;
      num_es_in_op = num;
      flags_at = 2 + es + 1;
      avg_bit_rate_info_flag = eqb (byte / 64 % 2) 1;
      max_bit_rate_info_flag = eqb (byte / 32 % 2) 1;
      constant_frame_rate_info_idc = byte / 8 % 4;
      applicable_temporal_id = byte % 8;
      frame_rate_indicator = frame;
      avg_bit_rate = average;
      max_bit_rate = maximum;
      size = size;
    }

module _ (l : List ℕ) (b : AreBytes l) where
  -- a byte behind a place
  behind : (at j : ℕ) → get_or (drop at l) j 0 ≡ get_or l (at + j) 0
  behind at j = get_or-drop at l j 0

  first_behind : (at : ℕ) → get_or (drop at l) 0 0 ≡ get_or l at 0
  first_behind at = behind at 0 ∙ ap (λ (n : ℕ). get_or l n 0) (add-zero at)

  -- ---- the lines, at a place

  pub es_count_at : named "ES_count" point_head (number 2 l) ≡ get_or l 1 0
  es_count_at = omega (arith, b 0, b 1)

  target_at : named "target_ols" point_head (number 2 l) ≡ get_or l 0 0
  target_at = omega (arith, b 0, b 1)

  module _ (at : ℕ) where
    num_at : named "numEsInOp" flags_count (number 1 (drop at l)) ≡ get_or l at 0 % 64
    num_at = omega (arith, first_behind at)

    average_flag_at : named "avg_bit_rate_info_flag" rates (number 1 (drop at l)) ≡ get_or l at 0 / 64 % 2
    average_flag_at = omega (arith, first_behind at)

    maximum_flag_at : named "max_bit_rate_info_flag" rates (number 1 (drop at l)) ≡ get_or l at 0 / 32 % 2
    maximum_flag_at = omega (arith, first_behind at)

    idc_at : named "constant_frame_rate_info_idc" rates (number 1 (drop at l)) ≡ get_or l at 0 / 8 % 4
    idc_at = omega (arith, first_behind at)

    temporal_at : named "applicable_temporal_id" rates (number 1 (drop at l)) ≡ get_or l at 0 % 8
    temporal_at = omega (arith, first_behind at)

    frame_at : named "frame_rate_indicator" frame_rate (number 2 (drop at l)) ≡ twelve l at
    frame_at = omega (arith, first_behind at, behind at 1, b at, b (at + 1))

    average_at_lem : named "avg_bit_rate" average_rate (number 3 (drop at l)) ≡ twenty_four l at
    average_at_lem = omega (arith, first_behind at, behind at 1, behind at 2, b at, b (at + 1), b (at + 2))

    maximum_at_lem : named "max_bit_rate" maximum_rate (number 3 (drop at l)) ≡ twenty_four l at
    maximum_at_lem = omega (arith, first_behind at, behind at 1, behind at 2, b at, b (at + 1), b (at + 2))

  -- ---- the walk over a point

  abbrev four : ℕ → ℕ → ℕ → ℕ → ℕ → ℕ → ℕ → Given
  four target es num average maximum idc temporal =
      ("target_ols", target)
      ∷ ("ES_count", es)
      ∷ ("numEsInOp", num)
      ∷ ("avg_bit_rate_info_flag", average)
      ∷ ("max_bit_rate_info_flag", maximum)
      ∷ ("constant_frame_rate_info_idc", idc)
      ∷ ("applicable_temporal_id", temporal)
      ∷ []

  -- behind the head: to the flags' count
  from_head : walked point_syntax [] 0 l
      ≡ walked (lines flags_count ∷ repeated "numEsInOp" flags ∷ lines rates ∷ when has_frame_rate frame_rate ∷ when has_average_rate average_rate ∷ when has_maximum_rate maximum_rate ∷ [])
      (("target_ols", get_or l 0 0) ∷ ("ES_count", get_or l 1 0) ∷ []) (2 + get_or l 1 0) l
  from_head =
      let once : 2 + get_or l 1 0 * 1 ≡ 2 + get_or l 1 0 = omega arith in
      ap₂ (λ (x y : ℕ). walked (lines flags_count ∷ repeated "numEsInOp" flags ∷ lines rates ∷ when has_frame_rate frame_rate ∷ when has_average_rate average_rate ∷ when has_maximum_rate maximum_rate ∷ [])
      (("target_ols", x) ∷ ("ES_count", y) ∷ []) (2 + y * 1) l) target_at es_count_at
      ∙ ap (λ (n : ℕ). walked (lines flags_count ∷ repeated "numEsInOp" flags ∷ lines rates ∷ when has_frame_rate frame_rate ∷ when has_average_rate average_rate ∷ when has_maximum_rate maximum_rate ∷ [])
      (("target_ols", get_or l 0 0) ∷ ("ES_count", get_or l 1 0) ∷ []) n l) once

  -- behind the flags: to the rates
  from_count : (target es at : ℕ)
      → walked (lines flags_count ∷ repeated "numEsInOp" flags ∷ lines rates ∷ when has_frame_rate frame_rate ∷ when has_average_rate average_rate ∷ when has_maximum_rate maximum_rate ∷ [])
      (("target_ols", target) ∷ ("ES_count", es) ∷ []) at l
      ≡ walked (lines rates ∷ when has_frame_rate frame_rate ∷ when has_average_rate average_rate ∷ when has_maximum_rate maximum_rate ∷ [])
      (("target_ols", target) ∷ ("ES_count", es) ∷ ("numEsInOp", get_or l at 0 % 64) ∷ []) (at + 1 + get_or l at 0 % 64) l
  from_count target es at =
      let once : at + 1 + get_or l at 0 % 64 * 1 ≡ at + 1 + get_or l at 0 % 64 = omega arith in
      ap (λ (n : ℕ). walked (lines rates ∷ when has_frame_rate frame_rate ∷ when has_average_rate average_rate ∷ when has_maximum_rate maximum_rate ∷ [])
      (("target_ols", target) ∷ ("ES_count", es) ∷ ("numEsInOp", n) ∷ []) (at + 1 + n * 1) l) (num_at at)
      ∙ ap (λ (k : ℕ). walked (lines rates ∷ when has_frame_rate frame_rate ∷ when has_average_rate average_rate ∷ when has_maximum_rate maximum_rate ∷ [])
      (("target_ols", target) ∷ ("ES_count", es) ∷ ("numEsInOp", get_or l at 0 % 64) ∷ []) k l) once

  -- behind the rates' byte
  from_rates : (target es num at : ℕ)
      → walked (lines rates ∷ when has_frame_rate frame_rate ∷ when has_average_rate average_rate ∷ when has_maximum_rate maximum_rate ∷ [])
      (("target_ols", target) ∷ ("ES_count", es) ∷ ("numEsInOp", num) ∷ []) at l
      ≡ walked (when has_frame_rate frame_rate ∷ when has_average_rate average_rate ∷ when has_maximum_rate maximum_rate ∷ [])
      (four target es num (get_or l at 0 / 64 % 2) (get_or l at 0 / 32 % 2) (get_or l at 0 / 8 % 4) (get_or l at 0 % 8)) (at + 1) l
  from_rates target es num at =
      λ i. walked (when has_frame_rate frame_rate ∷ when has_average_rate average_rate ∷ when has_maximum_rate maximum_rate ∷ [])
      (four target es num (average_flag_at at i) (maximum_flag_at at i) (idc_at at i) (temporal_at at i)) (at + 1) l

  -- the rest
  from_flags : (target es num at byte : ℕ)
      → walked (when has_frame_rate frame_rate ∷ when has_average_rate average_rate ∷ when has_maximum_rate maximum_rate ∷ [])
      (four target es num (byte / 64 % 2) (byte / 32 % 2) (byte / 8 % 4) (byte % 8)) (at + 1) l
      ≡ record {
        end = end_at at byte;
        given = point_given target es num byte (ltb 0 (byte / 8 % 4)) (twelve l (at + 1)) (eqb (byte / 64 % 2) 1) (twenty_four l (average_at at byte))
            (eqb (byte / 32 % 2) 1) (twenty_four l (maximum_at at byte));
      }
  from_flags target es num at byte =
      λ i. record {
        end = end_at at byte;
        given = point_given target es num byte (ltb 0 (byte / 8 % 4)) (frame_at (at + 1) i) (eqb (byte / 64 % 2) 1) (average_at_lem (average_at at byte) i)
            (eqb (byte / 32 % 2) 1) (maximum_at_lem (maximum_at at byte) i);
      }

  pub walked_point : walked point_syntax [] 0 l
      ≡ (let es = get_or l 1 0 in
      let num = get_or l (2 + get_or l 1 0) 0 % 64 in
      let at = rates_at (get_or l 1 0) (get_or l (2 + get_or l 1 0) 0 % 64) in
      let byte = get_or l (rates_at (get_or l 1 0) (get_or l (2 + get_or l 1 0) 0 % 64)) 0 in
      record {
        end = end_at at byte;
        given = point_given (get_or l 0 0) es num byte (ltb 0 (byte / 8 % 4)) (twelve l (at + 1)) (eqb (byte / 64 % 2) 1) (twenty_four l (average_at at byte))
            (eqb (byte / 32 % 2) 1) (twenty_four l (maximum_at at byte));
      })
  walked_point =
      from_head
      ∙ from_count (get_or l 0 0) (get_or l 1 0) (2 + get_or l 1 0)
      ∙ from_rates (get_or l 0 0) (get_or l 1 0) (get_or l (2 + get_or l 1 0) 0 % 64) (rates_at (get_or l 1 0) (get_or l (2 + get_or l 1 0) 0 % 64))
      ∙ from_flags (get_or l 0 0) (get_or l 1 0) (get_or l (2 + get_or l 1 0) 0 % 64) (rates_at (get_or l 1 0) (get_or l (2 + get_or l 1 0) 0 % 64))
      (get_or l (rates_at (get_or l 1 0) (get_or l (2 + get_or l 1 0) 0 % 64)) 0)

  -- ---- before the points

  pub walked_head : walked head_syntax [] 0 l
      ≡ record {
        end = 1 + get_or l 0 0 % 64 * 12 + 1;
        given = ("num_ptl", get_or l 0 0 % 64) ∷ ("operation_points_count", get_or l (1 + get_or l 0 0 % 64 * 12) 0) ∷ [];
      }
  walked_head =
      ap (λ (n : ℕ). walked (lines points_count ∷ []) (("num_ptl", n) ∷ []) (1 + n * 12) l) first
      ∙ ap (λ (n : ℕ). record { end = 1 + get_or l 0 0 % 64 * 12 + 1; given = ("num_ptl", get_or l 0 0 % 64) ∷ ("operation_points_count", n) ∷ [] })
      (last (1 + get_or l 0 0 % 64 * 12))
    where
      first : named "num_ptl" profiles_count (number 1 l) ≡ get_or l 0 0 % 64
      first = omega (arith, b 0)

      last : (at : ℕ) → named "operation_points_count" points_count (number 1 (drop at l)) ≡ get_or l at 0
      last at = omega (arith, first_behind at, b at)

-- ---- the point's fields

pub point_from_lem : (target es num byte frame average maximum size : ℕ) (b₁ b₂ b₃ : Bool)
    → point_from (record { end = size; given = point_given target es num byte b₁ frame b₂ average b₃ maximum })
    ≡ point_by target es num byte (cond b₁ frame 0) (cond b₂ average 0) (cond b₃ maximum 0) size
point_from_lem target es num byte frame average maximum size b₁ b₂ b₃ =
    λ i. record {
      target_ols = target;
      es_count = es;
      num_es_in_op = num;
      flags_at = once i;
      avg_bit_rate_info_flag = eqb (byte / 64 % 2) 1;
      max_bit_rate_info_flag = eqb (byte / 32 % 2) 1;
      constant_frame_rate_info_idc = byte / 8 % 4;
      applicable_temporal_id = byte % 8;
      frame_rate_indicator = frame_given target es num byte frame average maximum b₁ b₂ b₃ i;
      avg_bit_rate = average_given target es num byte frame average maximum b₁ b₂ b₃ i;
      max_bit_rate = maximum_given target es num byte frame average maximum b₁ b₂ b₃ i;
      size = size;
    }
  where
    once : 2 + (es * 1 + 1) ≡ 2 + es + 1
    once = omega arith

-- ---- the members of the two lists

pub reference_at : (byte : ℕ) → byte < 256
    → ◌≡◌ {A = Reference} (record { prepend_dependencies = eqb (byte / 64 % 2) 1; es_reference = byte % 64 }) (reference_from (read_by reference (byte ∷ [])))
reference_at byte h = λ i. record { prepend_dependencies = eqb (flag i) 1; es_reference = index i }
  where
    flag : byte / 64 % 2 ≡ (byte * 256 ^ 0 + 0) / 2 ^ 6 % 2 ^ 1
    flag = omega arith

    index : byte % 64 ≡ (byte * 256 ^ 0 + 0) / 2 ^ 0 % 2 ^ 6
    index = omega arith

pub flags_at : (byte : ℕ) → byte < 256
    → ◌≡◌ {A = LayerFlags} (record { necessary_layer_flag = eqb (byte / 128) 1; output_layer_flag = eqb (byte / 64 % 2) 1; ptl_ref_idx = byte % 64 })
    (flags_from (read_by flags (byte ∷ [])))
flags_at byte h = λ i. record { necessary_layer_flag = eqb (necessary i) 1; output_layer_flag = eqb (output i) 1; ptl_ref_idx = index i }
  where
    necessary : byte / 128 ≡ (byte * 256 ^ 0 + 0) / 2 ^ 7 % 2 ^ 1
    necessary = omega arith

    output : byte / 64 % 2 ≡ (byte * 256 ^ 0 + 0) / 2 ^ 6 % 2 ^ 1
    output = omega arith

    index : byte % 64 ≡ (byte * 256 ^ 0 + 0) / 2 ^ 0 % 2 ^ 6
    index = omega arith
