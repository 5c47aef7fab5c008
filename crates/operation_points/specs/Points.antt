-- What the walk over a descriptor's payload answers: what stands before its points, its first point, and whether its fields fill it.
-- Assumes nothing.
use Rattle.std.specs.Prelude.{ℕ, zero, suc, ◌+◌, ◌*◌, Bool, cond, ◌&&◌, List, [], eqb, leb, length, drop, Err, None, Ok, Some}
use Rattle.syntax.specs.Table.{bytes}
use Rattle.syntax.specs.Named.{Given, given_to, read_by}
use Rattle.operation_points.specs.Parts.{Walked, walked}
use Rattle.operation_points.specs.Tables.{head_syntax, point_syntax, point_head, reference, flags_count, has_average_rate, has_maximum_rate}
use Rattle.operation_points.specs.declared.Head.{Head}
use Rattle.operation_points.specs.Answer.{HeadRead, FirstPoint, Filling}
use Rattle.operation_points.specs.declared.Point.{Point}
use Rattle.operation_points.specs.declared.PointFault.TheVariants.{DoesNotFit, ReservedCount}
use Rattle.operation_points.specs.declared.Reference.{Reference}
use Rattle.operation_points.specs.declared.LayerFlags.{LayerFlags}

-- ---- before the points

abbrev pub head_from : Walked → Head
head_from w =
    record {
      num_ptl = given_to "num_ptl" w.given;
      operation_points_count = given_to "operation_points_count" w.given;
      points_at = w.end;
    }

abbrev pub head_in : List ℕ → Walked → HeadRead
head_in payload w = cond (leb w.end (length payload)) (Some (head_from w)) None

unfoldable pub head_of : List ℕ → HeadRead
head_of payload = head_in payload (walked head_syntax [] 0 payload)

-- ---- one point

-- Each line by its name, and 0 for a line that is not there; the place of the list of flags, after the references and their count; and where it ends.
abbrev pub point_from : Walked → Point
point_from w =
    record {
      target_ols = given_to "target_ols" w.given;
      es_count = given_to "ES_count" w.given;
      num_es_in_op = given_to "numEsInOp" w.given;
      flags_at = bytes point_head + (given_to "ES_count" w.given * bytes reference + bytes flags_count);
      avg_bit_rate_info_flag = has_average_rate w.given;
      max_bit_rate_info_flag = has_maximum_rate w.given;
      constant_frame_rate_info_idc = given_to "constant_frame_rate_info_idc" w.given;
      applicable_temporal_id = given_to "applicable_temporal_id" w.given;
      frame_rate_indicator = given_to "frame_rate_indicator" w.given;
      avg_bit_rate = given_to "avg_bit_rate" w.given;
      max_bit_rate = given_to "max_bit_rate" w.given;
      size = w.end;
    }

-- 'The value 0xff is reserved': a point's head that says so
abbrev pub is_reserved : List ℕ → Bool
is_reserved left = leb (bytes point_head) (length left) && eqb (given_to "ES_count" (read_by point_head left)) 0xFF

abbrev pub point_in : List ℕ → Walked → FirstPoint
point_in left w = cond (is_reserved left) (Err ReservedCount) (cond (leb w.end (length left)) (Ok (point_from w)) (Err DoesNotFit))

unfoldable pub first_point : List ℕ → FirstPoint
first_point left = point_in left (walked point_syntax [] 0 left)

-- ---- the whole payload

-- so many points, and nothing behind them
abbrev pub filling_by : FirstPoint → (ℕ → Filling) → Filling
filling_by (Ok point) after = after point.size
filling_by (Err fault) after = Err fault

abbrev pub points_filling : ℕ → List ℕ → Filling
points_filling zero left = cond (eqb (length left) 0) (Ok tt) (Err DoesNotFit)
points_filling (suc count) left = filling_by (first_point left) (λ size. points_filling count (drop size left))

abbrev pub filling_after : HeadRead → List ℕ → Filling
filling_after None payload = Err DoesNotFit
filling_after (Some head) payload = points_filling head.operation_points_count (drop head.points_at payload)

-- 40, 41, or that the fields fill the payload exactly
abbrev pub filling_of : List ℕ → Filling
filling_of payload = filling_after (head_of payload) payload

-- ---- the members of a point's two lists, one byte each

abbrev pub reference_from : Given → Reference
reference_from given = record { prepend_dependencies = eqb (given_to "prepend_dependencies" given) 1; es_reference = given_to "ES_reference" given }

abbrev pub flags_from : Given → LayerFlags
flags_from given =
    record {
      necessary_layer_flag = eqb (given_to "necessary_layer_flag" given) 1;
      output_layer_flag = eqb (given_to "output_layer_flag" given) 1;
      ptl_ref_idx = given_to "ptl_ref_idx" given;
    }
