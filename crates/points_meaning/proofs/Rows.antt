-- The lists for C are the same by what is told and by what is computed: `points_list_lem`, `references_list_lem`, `layers_list_lem`, `streams_list_lem`, and how many points, `points_long`.
-- (The list of the descriptors and that of the profile structures are the same as they stand.)
-- Assumes nothing.
use Prim.Native.Nat.{ℕ}
use mathlib.Core.List.{List, [], ◌∷◌, ◌++◌}
use mathlib.Core.Path.{◌≡◌, refl, sym, ap, ap₂, ◌∙◌}
use lib.ListN.{length, take, length-map}
use lib.Seq.{take_at}
use Rattle.combinators.specs.Lists.{gather, gather_map}
use Rattle.closure.specs.declared.Layers.{Layers}
use Rattle.stream_lists.specs.declared.ListBuilt.{ListBuilt}
use Rattle.stream_lists.specs.Meaning as Built
use Rattle.stream_lists.proofs.Meant.{list_meant}
use Rattle.operation_points.specs.Values.{PointValue, row_of, reference_bytes, layer_bytes}
use Rattle.program_points.specs.Told.{points_in, streams_of, closed_of, row_in}
use Rattle.points_meaning.specs.Telling.{PointTold, point_told, program_told}
use Rattle.points_meaning.specs.Rows.{point_row, points_list, references_list, layers_list, streams_list}

module _ (layers : Layers) where
  -- the count of a list that was built is its length
  counted : {references : List ℕ} {a : ListBuilt} → Built.Answers layers references a → length (take a.list.count a.list.members) ≡ a.list.count
  counted (Built.refused n p) = refl
  counted (Built.built {list} f l) = ap length (take_at list _ (length list) refl)

  row_told : (value : PointValue) → row_in layers value ≡ point_row (point_told layers value)
  row_told value =
      ap (λ (n : ℕ). row_of n (closed_of layers value) value) (sym (counted (list_meant layers (reference_bytes value))))

  gather_same : (f g : PointValue → List ℕ) → ((v : PointValue) → f v ≡ g v) → (l : List PointValue) → gather f l ≡ gather g l
  gather_same f g e [] = refl
  gather_same f g e (x ∷ l) = ap₂ (λ (a b : List ℕ). a ++ b) (e x) (gather_same f g e l)

  module _ (program : List ℕ) where
    pub points_list_lem : gather (row_in layers) (points_in program) ≡ points_list (program_told layers program)
    points_list_lem =
        gather_same (row_in layers) (λ v. point_row (point_told layers v)) row_told (points_in program)
        ∙ sym (gather_map point_row (point_told layers) (points_in program))

    pub references_list_lem : gather reference_bytes (points_in program) ≡ references_list (program_told layers program)
    references_list_lem = sym (gather_map (λ (p : PointTold). reference_bytes p.fields) (point_told layers) (points_in program))

    pub layers_list_lem : gather layer_bytes (points_in program) ≡ layers_list (program_told layers program)
    layers_list_lem = sym (gather_map (λ (p : PointTold). layer_bytes p.fields) (point_told layers) (points_in program))

    pub streams_list_lem : gather (streams_of layers) (points_in program) ≡ streams_list (program_told layers program)
    streams_list_lem = sym (gather_map (λ (p : PointTold). p.streams) (point_told layers) (points_in program))

    pub points_long : length (points_in program) ≡ length (program_told layers program).points
    points_long = sym (length-map (points_in program) (point_told layers))
