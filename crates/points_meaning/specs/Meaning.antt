-- WHAT IS RIGHT, in the words of W-205, with no word of how it is found. proofs/Meant.antt has the laws that join this to what is computed: the computed answer
-- has this meaning, and no other answer has it.
-- Assumes nothing.
use Rattle.std.specs.Prelude.{ℕ, ◌<◌, true, List, [], ◌∷◌, map, ◌↔◌, ◌≡◌, length, Err}
use Rattle.combinators.specs.Lists.{Nth, gather}
use Rattle.framing.specs.Pieces.{Item, whole, broken, Cuts}
use Rattle.vocabulary.specs.declared.refusal.Refusal.{Refusal}
use Rattle.vocabulary.specs.declared.refusal.Refusal.TheVariants.{PointsDoNotFit, ReservedEsCount, UnknownReference}
use Rattle.vocabulary.specs.declared.stream_types.Reading.TheVariants.{Edition2015}
use Rattle.descriptor_heads.specs.Head.{descriptor_tag, descriptor_length}
use Rattle.closure.specs.declared.Layers.{Layers}
use Rattle.loop_entries.specs.declared.Stream.{Stream}
use Rattle.loop_entries.specs.Entries.{entry_of}
use Rattle.es_loop.specs.Reading.{refused_with, accepted}
use Rattle.es_loop.specs.Meaning as Loop
use Rattle.loop_layers.specs.Meaning.{LayersOf}
use Rattle.stream_lists.specs.Lists.{set_of}
use Rattle.stream_lists.specs.Meaning.{Lists, NoLayer, Closed}
use Rattle.operation_points.specs.declared.PointFault.TheVariants as PointFault
use Rattle.operation_points.specs.Values.{PointValue, DescriptorValue, reference_bytes}
use Rattle.operation_points.specs.Meaning.{Fills}
use Rattle.points_meaning.specs.Fields.{PayloadHas}
use Rattle.points_meaning.specs.Telling.{PointTold, Answer, refused, told}

-- each of a list, in order, with one of another
pub data InOrder {A B : Type 0} (R : A → B → Type 0) : List A → List B → Type 0 where
  nothing : InOrder R [] []
  next : {x : A} {y : B} {xs : List A} {ys : List B} → R x y → InOrder R xs ys → InOrder R (x ∷ xs) (y ∷ ys)

-- ---- the program's own descriptor loop, cut into its descriptors

-- 'operation point descriptor (tag 63, extension tag 0x05, as Table 2-106 has it)': behind the extension tag stands its payload
pub data HoldsPoints : Item → List ℕ → Type 0 where
  tag_63_and_5 : {head payload : List ℕ} → descriptor_tag head ≡ 63 → HoldsPoints (whole head (5 ∷ payload)) payload

-- 'every operation point descriptor .. in order'; 'Tag 63 of length 0, and other tags, are skipped'
pub data Payloads : List Item → List (List ℕ) → Type 0 where
  no_more : Payloads [] []
  skips : {item : Item} {items : List Item} {payloads : List (List ℕ)} → ((payload : List ℕ) → HoldsPoints item payload → ⊥) → Payloads items payloads
      → Payloads (item ∷ items) payloads
  holds : {item : Item} {items : List Item} {payload : List ℕ} {payloads : List (List ℕ)} → HoldsPoints item payload → Payloads items payloads
      → Payloads (item ∷ items) (payload ∷ payloads)

-- ---- the numbers

-- 40: 'an operation point descriptor whose fields don't fill its length exactly; any descriptor of the program's loop that runs past it (a lone tag byte too); or
-- that loop over 1,008 bytes'
pub data DoesNotFit (program : List ℕ) (items : List Item) : Type 0 where
  too_long_lem : 1008 < length program → DoesNotFit program items
  runs_past : {k : ℕ} → Nth items k broken → DoesNotFit program items
  not_filled : {k : ℕ} {item : Item} {payload : List ℕ} → Nth items k item → HoldsPoints item payload → Fills payload (Err PointFault.DoesNotFit) → DoesNotFit program items

-- 41: 'ES_count 0xFF', which 'ends that descriptor without a 40 of its own for what stands behind it'
pub data ReservedCount (items : List Item) : Type 0 where
  reserved_count : {k : ℕ} {item : Item} {payload : List ℕ} → Nth items k item → HoldsPoints item payload → Fills payload (Err PointFault.ReservedCount) → ReservedCount items

-- 42: 'a reference, or a dependency to be prepended, that is no layer of the loop', of any point
pub data NotInLoop (layers : Layers) (points : List PointValue) : Type 0 where
  not_in_loop : {k j reference : ℕ} {point : PointValue} → Nth points k point → Nth (reference_bytes point) j reference → NoLayer layers reference
      → NotInLoop layers points

-- ---- what is told

-- the values of the loop's operation point descriptors
pub record ValuesOf (items : List Item) (values : List DescriptorValue) : Type 0 where
  pub payloads : List (List ℕ)
  pub in_loop : Payloads items payloads
  pub have : InOrder PayloadHas payloads values

-- all their points, in order
abbrev pub points_of : List DescriptorValue → List PointValue
points_of values = gather (λ value. value.points) values

-- 'each point's stream list', and whether it is closed under embedding
pub record Listed (layers : Layers) (point : PointValue) (t : PointTold) : Type 0 where
  pub fields : t.fields ≡ point
  pub list : Lists layers [] (reference_bytes point) t.streams
  pub closed : (t.closed ≡ true) ↔ Closed layers (set_of t.streams)

-- THE ANSWER in the layers of an elementary-stream loop, of the descriptors of the program's: '40, 41, 42, lowest first over all descriptors'
pub data AnswersIn (layers : Layers) (program : List ℕ) (items : List Item) : Answer → Type 0 where
  answers_40 : DoesNotFit program items → AnswersIn layers program items (refused PointsDoNotFit)
  answers_41 : (DoesNotFit program items → ⊥) → ReservedCount items → AnswersIn layers program items (refused ReservedEsCount)
  answers_42 : {values : List DescriptorValue} → (DoesNotFit program items → ⊥) → (ReservedCount items → ⊥) → ValuesOf items values
      → NotInLoop layers (points_of values) → AnswersIn layers program items (refused UnknownReference)
  -- 'profile arrays gathered over the descriptors in order'
  tells : {values : List DescriptorValue} {points : List PointTold} → (DoesNotFit program items → ⊥) → (ReservedCount items → ⊥) → ValuesOf items values
      → (NotInLoop layers (points_of values) → ⊥) → InOrder (Listed layers) (points_of values) points
      → AnswersIn layers program items
      (told (record { descriptors = values; profiles = gather (λ value. value.profiles) values; points = points }))

-- A loop that the 2015 reading accepts, and its layers.
pub record InLayers (bytes : List ℕ) (layers : Layers) : Type 0 where
  pub streams : List Stream
  pub accepts : Loop.Answers Edition2015 bytes (accepted streams)
  pub layers_are : LayersOf (map entry_of streams) layers

-- THE ANSWER to a program's own descriptor loop and its elementary-stream loop: 'the elementary-stream loop's numbers first'.
pub data Answers (program bytes : List ℕ) : Answer → Type 0 where
  loop_refused : {refusal : Refusal} → Loop.Answers Edition2015 bytes (refused_with refusal) → Answers program bytes (refused refusal)
  loop_accepted : {layers : Layers} {items : List Item} {answer : Answer} → InLayers bytes layers → Cuts 2 descriptor_length program items
      → AnswersIn layers program items answer → Answers program bytes answer
