-- What is right, in the words of Table 2-111bis and of W-205, with no word of how it is found.
-- proofs/Meant.antt has the laws that join this to what is computed, both ways.
-- Assumes nothing.
use Rattle.std.specs.Prelude.{ℕ, suc, List, [], ◌++◌, ◌≡◌, length, Err, Ok}
use Rattle.syntax.specs.Table.{bytes}
use Rattle.syntax.specs.Named.{Given, given_to, read_by}
use Rattle.operation_points.specs.Parts.{Parses}
use Rattle.operation_points.specs.Tables.{head_syntax, point_syntax, point_head}
use Rattle.operation_points.specs.Points.{point_from}
use Rattle.operation_points.specs.Answer.{FirstPoint, Filling}
use Rattle.operation_points.specs.declared.PointFault.TheVariants.{DoesNotFit, ReservedCount}

-- Bytes begin with the head of a point whose ES_count is 0xFF, which is reserved.
pub record BeginsReserved (left : List ℕ) : Type 0 where
  pub head : List ℕ
  pub behind : List ℕ
  pub split : left ≡ head ++ behind
  pub whole : length head ≡ bytes point_head
  pub reserved : given_to "ES_count" (read_by point_head head) ≡ 0xFF

-- Bytes begin with a point: its parts in the table's order, which give its lines these numbers; its ES_count is not reserved.
pub record BeginsWith (given : Given) (point behind left : List ℕ) : Type 0 where
  pub split : left ≡ point ++ behind
  pub parses : Parses point_syntax [] point given
  pub allowed : BeginsReserved left → ⊥

-- THE FIRST POINT: its fields by their names; or its ES_count is reserved; or no point stands there.
pub data First (left : List ℕ) : FirstPoint → Type 0 where
  reads : {given : Given} (point behind : List ℕ) → BeginsWith given point behind left
      → First left (Ok (point_from (record { end = length point; given = given })))
  reserves : BeginsReserved left → First left (Err ReservedCount)
  fits_not : (BeginsReserved left → ⊥) → ((given : Given) (point behind : List ℕ) → BeginsWith given point behind left → ⊥) → First left (Err DoesNotFit)

-- so many points, one after another, and nothing else
pub data Points : ℕ → List ℕ → Type 0 where
  none : Points 0 []
  point_then : {count : ℕ} {given : Given} {left : List ℕ} (point behind : List ℕ) → BeginsWith given point behind left → Points count behind
      → Points (suc count) left

-- 41: of so many points, one has a reserved ES_count, after points that are whole
pub data Stops : ℕ → List ℕ → Type 0 where
  here : {count : ℕ} {left : List ℕ} → BeginsReserved left → Stops (suc count) left
  point_then : {count : ℕ} {given : Given} {left : List ℕ} (point behind : List ℕ) → BeginsWith given point behind left → Stops count behind
      → Stops (suc count) left

-- A payload in two: what stands before the points, and then as many as it says, of which this holds.
pub record Descriptor (Rest : ℕ → List ℕ → Type 0) (payload : List ℕ) : Type 0 where
  pub given : Given
  pub head : List ℕ
  pub points : List ℕ
  pub split : payload ≡ head ++ points
  pub parses : Parses head_syntax [] head given
  pub rest : Rest (given_to "operation_points_count" given) points

-- THE VERDICT: the fields fill the payload exactly; or 41, a reserved ES_count, which ends the descriptor; or else 40.
pub data Fills (payload : List ℕ) : Filling → Type 0 where
  exact : Descriptor Points payload → Fills payload (Ok tt)
  reserved : Descriptor Stops payload → Fills payload (Err ReservedCount)
  inexact : (Descriptor Points payload → ⊥) → (Descriptor Stops payload → ⊥) → Fills payload (Err DoesNotFit)
