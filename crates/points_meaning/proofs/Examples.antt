-- Examples, computed from the bytes: two views without a hierarchy descriptor, of which the second rests on the first, and a program's loop of one descriptor.
-- Assumes nothing.
use Prim.Native.Nat.{ℕ}
use mathlib.Core.Bool.{true, false}
use mathlib.Core.List.{List, [], ◌∷◌, ◌++◌}
use mathlib.Core.Path.{◌≡◌, refl}
use Rattle.vocabulary.specs.declared.refusal.Refusal.TheVariants.{PointsDoNotFit, ReservedEsCount, UnknownReference, DoesNotFit}
use Rattle.sets.specs.Sets.{members_of}
use Rattle.loop_layers.specs.Examples.{first_view, two_views}
use Rattle.operation_points.specs.Points.{head_of, first_point}
use Rattle.operation_points.specs.Values.{PointValue, no_frame_rate, no_bit_rate}
use Rattle.program_points.specs.Told.{points_read}
use Rattle.points_meaning.specs.Telling.{Answer, refused, told, telling}

abbrev answer : List ℕ → List ℕ → Answer
answer program bytes = telling program (points_read program bytes)

-- a point of one reference, without layer flags and rates
abbrev point : ℕ → ℕ → List ℕ
point target reference = target ∷ 1 ∷ reference ∷ 0xC0 ∷ 0x80 ∷ []

-- reserved 1, prepend_dependencies, ES_reference
abbrev prepending : ℕ
prepending = 0b11000001

abbrev alone : ℕ
alone = 0b10000001

-- a point that stops at a reserved ES_count
abbrev reserved : List ℕ
reserved = 1 ∷ 0xFF ∷ 0 ∷ 0 ∷ 0 ∷ []

-- a descriptor of two points and no profile structure, behind one of another tag and one of tag 63 without a byte
abbrev descriptor : List ℕ → List ℕ → List ℕ
descriptor first second = 9 ∷ 1 ∷ 0xFF ∷ 63 ∷ 0 ∷ 63 ∷ 13 ∷ 5 ∷ 0xC0 ∷ 2 ∷ (first ++ second)

abbrev value : ℕ → Rattle.operation_points.specs.declared.Reference.Reference → PointValue
value target reference =
    record {
      target_ols = target;
      references = reference ∷ [];
      layers = [];
      temporal_id = 0;
      frame_rate = no_frame_rate;
      average = no_bit_rate;
      maximum = no_bit_rate;
    }

abbrev first_value : PointValue
first_value = value 7 (record { prepend_dependencies = true; es_reference = 1 })

abbrev second_value : PointValue
second_value = value 8 (record { prepend_dependencies = false; es_reference = 1 })

-- with its dependency before it the second view is closed, and by itself it is not
two_points : answer (descriptor (point 7 prepending) (point 8 alone)) two_views
    ≡ told (record {
      descriptors = record { profiles = []; points = first_value ∷ second_value ∷ [] } ∷ [];
      profiles = [];
      points = record { fields = first_value; streams = 0 ∷ 1 ∷ []; closed = true } ∷ record { fields = second_value; streams = 1 ∷ []; closed = false } ∷ [];
    })
unfolding head_of first_point members_of
two_points = refl

-- 42: of one view alone nothing is implied, so that there is no layer 1
no_layer_lem : answer (descriptor (point 7 prepending) (point 8 alone)) first_view ≡ refused UnknownReference
unfolding head_of first_point
no_layer_lem = refl

-- A layer 2 that embeds layer 1, which the loop has not: 42 where it is to be prepended, and not where it is not.
abbrev second_alone : List ℕ
second_alone = 0x1F ∷ 0xE1 ∷ 0x02 ∷ 0xF0 ∷ 0x06 ∷ 0x04 ∷ 0x04 ∷ 0xD1 ∷ 0xC2 ∷ 0x41 ∷ 0xC3 ∷ []

to_be_prepended : answer (63 ∷ 8 ∷ 5 ∷ 0xC0 ∷ 1 ∷ point 7 0b11000010) second_alone ≡ refused UnknownReference
unfolding head_of first_point
to_be_prepended = refl

not_prepended : answer (63 ∷ 8 ∷ 5 ∷ 0xC0 ∷ 1 ∷ point 7 0b10000010) second_alone
    ≡ told (record {
      descriptors = record { profiles = []; points = value 7 (record { prepend_dependencies = false; es_reference = 2 }) ∷ [] } ∷ [];
      profiles = [];
      points =
          record { fields = value 7 (record { prepend_dependencies = false; es_reference = 2 }); streams = 2 ∷ []; closed = false } ∷ [];
    })
unfolding head_of first_point members_of
not_prepended = refl

-- 41 before 42: a reserved ES_count behind a point whose reference is absent
reserved_before_absent : answer (descriptor (point 8 alone) reserved) first_view ≡ refused ReservedEsCount
unfolding head_of first_point
reserved_before_absent = refl

-- 40 before 41: a lone tag byte behind the descriptor
lone_tag_byte : answer (descriptor reserved reserved ++ (63 ∷ [])) two_views ≡ refused PointsDoNotFit
unfolding head_of first_point
lone_tag_byte = refl

-- length 1: no payload, 40
no_payload : answer (63 ∷ 1 ∷ 5 ∷ []) two_views ≡ refused PointsDoNotFit
unfolding head_of
no_payload = refl

-- the elementary-stream loop's own number first
loop_first : answer (63 ∷ 1 ∷ 5 ∷ []) (0x1B ∷ 0xE1 ∷ 0x00 ∷ 0xF0 ∷ []) ≡ refused (DoesNotFit 0)
unfolding head_of
loop_first = refl
