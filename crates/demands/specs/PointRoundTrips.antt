-- WHAT IS SHOWN OF WRITING OPERATION POINTS (document 02, W-205), beside what the call promises (Demand1.antt): 'Round trip both ways for the writer's own shape', of right
-- answers, by their meaning.
-- Assumes nothing.
use Rattle.std.specs.Prelude.{ℕ, ◌+◌, ◌≤◌, ◌≡◌, List, ◌∷◌, ◌++◌, length, take, drop, Ok}
use Rattle.std.proofs.Common.{sym, ◌∙◌, ap, subst}
use Rattle.combinators.specs.Lists.{gather}
use Rattle.syntax.specs.Table.{AreBytes}
use Rattle.operation_points.specs.Values.{PointValue, DescriptorValue, value_of, reference_bytes, layer_bytes}
use Rattle.point_weights.specs.Answer.{Written}
use Rattle.point_writer.specs.Writing.{answer, content}
use Rattle.point_writer.specs.Meaning.{Gives, ValueFits}
use Rattle.point_writer.specs.Meaning as Writing
use Rattle.point_writer.proofs.Meant.{answer_meant, answer_only}
use Rattle.points_round_trip.specs.ReadBack.{ReadBack}
use Rattle.points_round_trip.proofs.ReadBack.{written_read}
use Rattle.points_round_trip.specs.OwnShape.{OwnPayload}
use Rattle.points_round_trip.specs.Rewriting.{rows_of}
use Rattle.points_round_trip.proofs.Rewriting.{own_lists, rewritten}

pub record PointRoundTrips : Type 0 where
  -- what was written is read back: a program's loop that is the descriptor alone has one payload, is not refused, and the payload's value is the one that was given
  pub read_back : (profiles points references layers old : List ℕ) (v : DescriptorValue) → Gives profiles points references layers v → AreBytes v.profiles
      → {n : ℕ} {new : List ℕ} → Writing.Answers profiles points references layers old (Ok n) new → ReadBack v (take n new)
  -- what was read of a payload in the writer's own shape is written as it was
  pub written_again : (profiles points references layers old payload : List ℕ) → OwnPayload payload → AreBytes payload → 1 + length payload ≤ 255
      → Gives profiles points references layers (value_of payload) → 3 + length payload ≤ length old
      → Writing.Answers profiles points references layers old (Ok (3 + length payload)) ((63 ∷ (1 + length payload) ∷ 5 ∷ payload) ++ drop (3 + length payload) old)
  -- and every value that can be written has lists, those that reading lays, whatever two numbers stand for what is worked out
  pub has_lists : (members closed : PointValue → ℕ) (v : DescriptorValue) → ValueFits v
      → Gives v.profiles (rows_of members closed v.points) (gather reference_bytes v.points) (gather layer_bytes v.points) v

pub point_round_trips : PointRoundTrips
point_round_trips =
    record {
      read_back = λ profiles points references layers old v g b {n} {new} a.
          let only = answer_only profiles points references layers old a in
          subst (λ (l : List ℕ). ReadBack v (take n l)) (sym only.holds) (written_read profiles points references layers old v g b n (sym only.answers));
      written_again = λ profiles points references layers old payload own b short g room.
          let again = rewritten profiles points references layers old payload own b short g room in
          subst (λ (l : List ℕ). Writing.Answers profiles points references layers old (Ok (3 + length payload)) l) (sym again.holds)
          (subst (λ (w : Written). Writing.Answers profiles points references layers old w (content profiles points references layers old)) (sym again.answers)
          (answer_meant profiles points references layers old));
      has_lists = own_lists;
    }
