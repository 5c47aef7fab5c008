-- Payloads behind the extension tag, each computed from the definitions.
-- Assumes nothing.
use Rattle.std.specs.Prelude.{Err, Ok, Some}
use mathlib.Core.Bool.{true, false}
use mathlib.Core.List.{[], ◌∷◌, ◌++◌}
use mathlib.Core.Path.{◌≡◌, refl}
use lib.ListN.{replicate}
use Rattle.operation_points.specs.Points.{head_of, first_point, filling_of}
use Rattle.operation_points.specs.declared.PointFault.TheVariants.{DoesNotFit, ReservedCount}

-- No profile, no point: num_ptl 0 with its reserved bits at 1, operation_points_count 0. A byte less, or one more, does not fill.
nothing : filling_of (0xC0 ∷ 0 ∷ []) ≡ Ok tt
unfolding head_of
nothing = refl

no_count : filling_of (0xC0 ∷ []) ≡ Err DoesNotFit
unfolding head_of
no_count = refl

no_bytes : filling_of [] ≡ Err DoesNotFit
unfolding head_of
no_bytes = refl

one_behind : filling_of (0xC0 ∷ 0 ∷ 0 ∷ []) ≡ Err DoesNotFit
unfolding head_of
one_behind = refl

-- Two profiles are 24 bytes: each is there, though the table prints `i++, i++`.
two_profiles : head_of (0xC2 ∷ (replicate 24 0 ++ (5 ∷ []))) ≡ Some (record { num_ptl = 2; operation_points_count = 5; points_at = 26 })
unfolding head_of
two_profiles = refl

-- A point with one reference (prepend 1, index 3), flags for one stream, both rates and a frame rate.
full : first_point (7 ∷ 1 ∷ 0xC3 ∷ 0xC1 ∷ 0xC0 ∷ 0xFA ∷ 0xF0 ∷ 0x32 ∷ 0x00 ∷ 0x27 ∷ 0x10 ∷ 0x01 ∷ 0x00 ∷ 0x00 ∷ [])
    ≡ Ok (record {
      target_ols = 7;
      es_count = 1;
      num_es_in_op = 1;
      flags_at = 4;
      avg_bit_rate_info_flag = true;
      max_bit_rate_info_flag = true;
      constant_frame_rate_info_idc = 3;
      applicable_temporal_id = 2;
      frame_rate_indicator = 50;
      avg_bit_rate = 10000;
      max_bit_rate = 65536;
      size = 14;
    })
unfolding first_point
full = refl

-- a byte less: no point
cut_short : first_point (7 ∷ 1 ∷ 0xC3 ∷ 0xC1 ∷ 0xC0 ∷ 0xFA ∷ 0xF0 ∷ 0x32 ∷ 0x00 ∷ 0x27 ∷ 0x10 ∷ 0x01 ∷ 0x00 ∷ []) ≡ Err DoesNotFit
unfolding first_point
cut_short = refl

-- no optional field: the maximum alone is the last
maximum_alone : first_point (0 ∷ 0 ∷ 0xC0 ∷ 0xA6 ∷ 0x00 ∷ 0x01 ∷ 0x02 ∷ 9 ∷ [])
    ≡ Ok (record {
      target_ols = 0;
      es_count = 0;
      num_es_in_op = 0;
      flags_at = 3;
      avg_bit_rate_info_flag = false;
      max_bit_rate_info_flag = true;
      constant_frame_rate_info_idc = 0;
      applicable_temporal_id = 6;
      frame_rate_indicator = 0;
      avg_bit_rate = 0;
      max_bit_rate = 258;
      size = 7;
    })
unfolding first_point
maximum_alone = refl

-- 41: a reserved ES_count ends the descriptor, whatever stands behind it; 40 where a point before it does not fit, or none is left to be read
reserved_count : filling_of (0xC0 ∷ 1 ∷ 0 ∷ 0xFF ∷ []) ≡ Err ReservedCount
unfolding head_of first_point
reserved_count = refl

reserved_second : filling_of (0xC0 ∷ 2 ∷ 0 ∷ 0 ∷ 0xC0 ∷ 0x80 ∷ 0 ∷ 0xFF ∷ 1 ∷ []) ≡ Err ReservedCount
unfolding head_of first_point
reserved_second = refl

reserved_not_reached : filling_of (0xC0 ∷ 1 ∷ 0 ∷ 0 ∷ 0xC0 ∷ 0x80 ∷ 0 ∷ 0xFF ∷ []) ≡ Err DoesNotFit
unfolding head_of first_point
reserved_not_reached = refl
