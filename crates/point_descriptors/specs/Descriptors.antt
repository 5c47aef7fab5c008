-- The operation point descriptors of a program's own descriptor loop: which descriptors are such, what their payloads are, the verdict on all of them, and
-- the places of their payloads and of their points in the loop.
-- Assumes nothing.
use Rattle.std.specs.Prelude.{ℕ, zero, suc, ◌+◌, Bool, cond, ◌&&◌, List, [], ◌∷◌, ◌++◌, map, eqb, ltb, length, get_or, drop, Err, None, Ok, Some}
use Rattle.combinators.specs.Padding.{pad_to}
use Rattle.framing.specs.Pieces.{Item, whole, broken, cut}
use Rattle.descriptor_heads.specs.Head.{descriptor_tag, descriptor_length}
use Rattle.operation_points.specs.Answer.{HeadRead, FirstPoint, Filling}
use Rattle.operation_points.specs.declared.PointFault.TheVariants.{DoesNotFit, ReservedCount}
use Rattle.operation_points.specs.Points.{head_of, first_point, filling_of}
use Rattle.point_descriptors.specs.declared.Found.{Found}

-- ---- the loop's descriptors

abbrev pub descriptors_of : List ℕ → List Item
descriptors_of program = cut 2 descriptor_length program

-- What is found of each descriptor, in order, by its place, its tag and its body. Bytes that hold no whole descriptor have none.
abbrev pub each : {A : Type 0} → (ℕ → ℕ → List ℕ → List A) → ℕ → List Item → List A
each found at [] = []
each found at (whole head body ∷ items) = found at (descriptor_tag head) body ++ each found (at + (2 + length body)) items
each found at (broken ∷ items) = []

-- 'tag 63, extension tag 0x05, as Table 2-106 has it': behind the extension tag stands the payload
abbrev pub is_points : ℕ → List ℕ → Bool
is_points tag body = eqb tag 63 && (ltb 0 (length body) && eqb (get_or body 0 0) 5)

abbrev pub payload_if : ℕ → ℕ → List ℕ → List (List ℕ)
payload_if at tag body = cond (is_points tag body) (drop 1 body ∷ []) []

-- THE PAYLOADS of the operation point descriptors, in order
abbrev pub payloads_in : List ℕ → List (List ℕ)
payloads_in program = each payload_if 0 (descriptors_of program)

-- ---- the verdict

abbrev pub filling_if : ℕ → List ℕ → Filling
filling_if tag body = cond (is_points tag body) (filling_of (drop 1 body)) (Ok tt)

abbrev pub filling_in : Item → Filling
filling_in (whole head body) = filling_if (descriptor_tag head) body
filling_in broken = Err DoesNotFit

-- the lower number of two: 40 before 41
abbrev pub worse : Filling → Filling → Filling
worse (Err DoesNotFit) other = Err DoesNotFit
worse (Ok _) other = other
worse (Err ReservedCount) (Err DoesNotFit) = Err DoesNotFit
worse (Err ReservedCount) (Ok _) = Err ReservedCount
worse (Err ReservedCount) (Err ReservedCount) = Err ReservedCount

abbrev pub worst : Filling → List Filling → Filling
worst so_far [] = so_far
worst so_far (other ∷ others) = worst (worse so_far other) others

-- '40: .. that loop over 1,008 bytes'
abbrev pub too_long : List ℕ → Bool
too_long program = ltb 1008 (length program)

-- THE VERDICT on the program's loop: 40, 41, or neither
abbrev pub program_filling : List ℕ → Filling
program_filling program = cond (too_long program) (Err DoesNotFit) (worst (Ok tt) (map filling_in (descriptors_of program)))

-- ---- places

-- of a payload: behind the head of two bytes and the extension tag
abbrev pub payload_place : ℕ → ℕ → List ℕ → List ℕ
payload_place at tag body = cond (is_points tag body) ((at + 3) ∷ []) []

-- of so many points from a place on, which begins these bytes
abbrev pub places_by : FirstPoint → ℕ → (ℕ → List ℕ) → List ℕ
places_by (Ok point) at behind = at ∷ behind point.size
places_by (Err fault) at behind = []

abbrev pub point_places : ℕ → ℕ → List ℕ → List ℕ
point_places zero at left = []
point_places (suc count) at left = places_by (first_point left) at (λ size. point_places count (at + size) (drop size left))

abbrev pub point_places_after : HeadRead → ℕ → List ℕ → List ℕ
point_places_after None base payload = []
point_places_after (Some head) base payload =
    point_places head.operation_points_count (base + head.points_at) (drop head.points_at payload)

-- of the points of a payload that stands at a place
abbrev pub point_places_in : ℕ → List ℕ → List ℕ
point_places_in base payload = point_places_after (head_of payload) base payload

abbrev pub point_places_if : ℕ → ℕ → List ℕ → List ℕ
point_places_if at tag body = cond (is_points tag body) (point_places_in (at + 3) (drop 1 body)) []

abbrev pub payloads_at : List ℕ → List ℕ
payloads_at program = each payload_place 0 (descriptors_of program)

abbrev pub points_at : List ℕ → List ℕ
points_at program = each point_places_if 0 (descriptors_of program)

-- ---- all of it, as the one pass answers

unfoldable pub no_places : List ℕ
no_places = pad_to 336 0 []

abbrev pub found_with : Filling → List ℕ → List ℕ → Found
found_with filling payloads points =
    record {
      filling = filling;
      descriptors = length payloads;
      payloads = pad_to 336 0 payloads;
      count = length points;
      points = pad_to 336 0 points;
    }

abbrev pub found_in : List ℕ → Found
found_in program =
    cond (too_long program) (found_with (Err DoesNotFit) [] [])
    (found_with (worst (Ok tt) (map filling_in (descriptors_of program))) (payloads_at program) (points_at program))
