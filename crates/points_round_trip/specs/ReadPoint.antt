-- READING A POINT THAT WAS WRITTEN: the point as it is read. That it gives back its value, whatever stands behind it, stands in proofs/ReadPoint.antt.
-- Assumes nothing.
use Rattle.std.specs.Prelude.{ℕ, ◌+◌, ◌*◌, ◌≡◌, Bool, true, false, eqb, ltb}
use Rattle.std.proofs.Math.Path.{refl}
use Rattle.std.proofs.Math.Bool.{cond}
use mathlib.Core.List.{List, [], ◌∷◌, ◌++◌}
use Rattle.std.proofs.Math.ListN.{length}
use Rattle.syntax.specs.Named.{Given}
use Rattle.operation_points.specs.Tables.{point_syntax}
use Rattle.operation_points.specs.Points.{point_from}
use Rattle.operation_points.specs.Values.{PointValue, idc_of, indicator_of, flag_of, number_of}
use Rattle.operation_points.specs.declared.Point.{Point}
use Rattle.point_fields.specs.WrittenParts.{parts_bytes}
use Rattle.point_writer.specs.Meaning.{value_given, value_lists, PointFits}

-- ---- the lines by their names, those that may be there among them

abbrev pub seven : ℕ → ℕ → ℕ → ℕ → ℕ → ℕ → ℕ → Given
seven t e n a m c i =
    ("target_ols", t)
    ∷ ("ES_count", e)
    ∷ ("numEsInOp", n)
    ∷ ("avg_bit_rate_info_flag", a)
    ∷ ("max_bit_rate_info_flag", m)
    ∷ ("constant_frame_rate_info_idc", c)
    ∷ ("applicable_temporal_id", i)
    ∷ []

pub found : (t e n a m c i f x y size : ℕ) (there average maximum : Bool)
    → point_from (record {
      end = size;
      given = ((seven t e n a m c i ++ cond there (("frame_rate_indicator", f) ∷ []) []) ++ cond average (("avg_bit_rate", x) ∷ []) []) ++ cond maximum (("max_bit_rate", y) ∷ []) [];
    })
    ≡ record {
      target_ols = t;
      es_count = e;
      num_es_in_op = n;
      flags_at = 2 + (e * 1 + 1);
      avg_bit_rate_info_flag = eqb a 1;
      max_bit_rate_info_flag = eqb m 1;
      constant_frame_rate_info_idc = c;
      applicable_temporal_id = i;
      frame_rate_indicator = cond there f 0;
      avg_bit_rate = cond average x 0;
      max_bit_rate = cond maximum y 0;
      size = size;
    }
found t e n a m c i f x y size true true true = refl
found t e n a m c i f x y size true true false = refl
found t e n a m c i f x y size true false true = refl
found t e n a m c i f x y size true false false = refl
found t e n a m c i f x y size false true true = refl
found t e n a m c i f x y size false true false = refl
found t e n a m c i f x y size false false true = refl
found t e n a m c i f x y size false false false = refl

module _ (v : PointValue) (known : PointFits v) where
  abbrev pub bytes_of : List ℕ
  bytes_of = parts_bytes (value_given v) (value_lists v) point_syntax

  -- the point as it is read
  abbrev pub point_read : Point
  point_read =
      record {
        target_ols = v.target_ols;
        es_count = length v.references;
        num_es_in_op = length v.layers;
        flags_at = 2 + (length v.references * 1 + 1);
        avg_bit_rate_info_flag = eqb (flag_of v.average) 1;
        max_bit_rate_info_flag = eqb (flag_of v.maximum) 1;
        constant_frame_rate_info_idc = idc_of v.frame_rate;
        applicable_temporal_id = v.temporal_id;
        frame_rate_indicator = cond (ltb 0 (idc_of v.frame_rate)) (indicator_of v.frame_rate) 0;
        avg_bit_rate = cond (eqb (flag_of v.average) 1) (number_of v.average) 0;
        max_bit_rate = cond (eqb (flag_of v.maximum) 1) (number_of v.maximum) 0;
        size = length bytes_of;
      }
