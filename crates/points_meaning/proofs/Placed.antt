-- The places of an accepted answer are those of what is told: `placed`, of every program's loop that is bytes.
-- Assumes nothing.
use Rattle.std.specs.Prelude.{Err, Ok}
use Prim.Native.Nat.{ℕ}
use mathlib.Core.Bool.{Bool, true, false, cond}
use mathlib.Core.List.{List, [], ◌∷◌, map}
use mathlib.Core.Path.{◌≡◌, refl, sym, ap, ◌∙◌, subst}
use native.Mathlib.Omega.{arith}
use lib.ListN.{length, take, length-map}
use Rattle.combinators.specs.Lists.{any, gather_map}
use Rattle.syntax.specs.Table.{AreBytes}
use Rattle.vocabulary.specs.declared.refusal.Refusal.TheVariants.{UnknownReference}
use Rattle.vocabulary.specs.declared.stream_types.Reading.TheVariants.{Edition2015}
use Rattle.closure.specs.declared.Layers.{Layers}
use Rattle.es_loop.specs.Answer.{Outcome}
use Rattle.loop_layers.specs.Closures.{loop_layers}
use Rattle.operation_points.specs.Answer.{Filling}
use Rattle.operation_points.specs.declared.PointFault.TheVariants as PointFault
use Rattle.operation_points.specs.Values.{PointValue, reference_bytes, layer_bytes}
use Rattle.point_descriptors.specs.Descriptors.{program_filling, found_in}
use Rattle.program_points.specs.declared.PointsRead.{PointsRead}
use Rattle.program_points.specs.Places.{value_at}
use Rattle.program_points.specs.Told.{points_in, profiles_in, is_absent, tally_of, Filled, refused_points, by_filling, by_outcome, points_read}
use Rattle.program_points.proofs.Filled.{values_taken, profiles_taken, points_many, filling_is}
use Rattle.points_meaning.specs.Telling.{PointTold, ProgramTold, told, point_told, program_told, telling}
use Rattle.points_meaning.specs.Telling as Telling
use Rattle.points_meaning.specs.Meaning.{Answers}
use Rattle.points_meaning.specs.Placed.{Placed}
use Rattle.points_meaning.proofs.Meant.{points_only}

module _ (program : List ℕ) (b : AreBytes program) where
  abbrev Right : PointsRead → Type 0
  Right read = Placed program read (program_told read.layers program)

  module _ (layers : Layers) where
    told_fields : (points : List PointValue) → map (λ (p : PointTold). p.fields) (map (point_told layers) points) ≡ points
    told_fields [] = refl
    told_fields (x ∷ points) = ap (λ (l : List PointValue). x ∷ l) (told_fields points)

    right : program_filling program ≡ Ok tt
        → Right (record { outcome = Ok tt; layers = layers; found = found_in program; profile_bytes = length (profiles_in program); tally = tally_of layers (points_in program) })
    right e =
        let filled : Filled program (found_in program) = record { is_found = refl; exact = filling_is program (found_in program) refl ∙ e } in
        let values = values_taken program b (found_in program) filled in
        record {
          fields = values ∙ sym (told_fields (points_in program));
          profiles = profiles_taken program b (found_in program) filled;
          many = points_many program b (found_in program) filled
              ∙ sym (length-map (take (found_in program).count (found_in program).points) (value_at program))
              ∙ ap length values
              ∙ sym (length-map (points_in program) (point_told layers));
          profile_bytes = refl;
          references = ap length (sym (gather_map (λ (p : PointTold). reference_bytes p.fields) (point_told layers) (points_in program)));
          layer_flags = ap length (sym (gather_map (λ (p : PointTold). layer_bytes p.fields) (point_told layers) (points_in program)));
          streams = ap length (sym (gather_map (λ (p : PointTold). p.streams) (point_told layers) (points_in program)));
        }

    by_filling_lem : (f : Filling) → program_filling program ≡ f → (by_filling f layers program).outcome ≡ Ok tt → Right (by_filling f layers program)
    by_filling_lem (Err PointFault.DoesNotFit) e o = let z : ◌≡◌ {A = ℕ} 0 1 = cc in absurd (omega arith)
    by_filling_lem (Err PointFault.ReservedCount) e o = let z : ◌≡◌ {A = ℕ} 0 1 = cc in absurd (omega arith)
    by_filling_lem (Ok _) e o = go (any (is_absent layers) (points_in program)) o
      where
        by_absent : Bool → PointsRead
        by_absent c =
            cond c (refused_points UnknownReference layers (found_in program))
            (record { outcome = Ok tt; layers = layers; found = found_in program; profile_bytes = length (profiles_in program); tally = tally_of layers (points_in program) })

        go : (c : Bool) → (by_absent c).outcome ≡ Ok tt → Right (by_absent c)
        go true o = let z : ◌≡◌ {A = ℕ} 0 1 = cc in absurd (omega arith)
        go false o = right e

  by_outcome_lem : (outcome : Outcome) (layers : Layers) → (by_outcome outcome layers program).outcome ≡ Ok tt → Right (by_outcome outcome layers program)
  by_outcome_lem (Err refusal) layers o = let z : ◌≡◌ {A = ℕ} 0 1 = cc in absurd (omega arith)
  by_outcome_lem (Ok _) layers o = by_filling_lem layers (program_filling program) refl o

  -- by what is computed,
  placed_read : (bytes : List ℕ) → (points_read program bytes).outcome ≡ Ok tt → Right (points_read program bytes)
  placed_read bytes o = by_outcome_lem (loop_layers Edition2015 bytes).outcome (loop_layers Edition2015 bytes).layers o

  -- and so of what is told
  pub placed : {bytes : List ℕ} {t : ProgramTold} → Answers program bytes (told t) → Placed program (points_read program bytes) t
  placed {bytes} {t} a = go (points_read program bytes) (points_only program bytes a) (placed_read bytes)
    where
      go : (read : PointsRead) → told t ≡ telling program read → (read.outcome ≡ Ok tt → Right read) → Placed program read t
      go read e f = by read.outcome refl e
        where
          by : (o : Outcome) → read.outcome ≡ o → told t ≡ Telling.by_outcome o read.layers program → Placed program read t
          by (Err refusal) p e = let z : ◌≡◌ {A = ℕ} 0 1 = cc in absurd (omega arith)
          by (Ok _) p e =
              let same : t ≡ program_told read.layers program = cc in
              subst (Placed program read) (sym same) (f p)
