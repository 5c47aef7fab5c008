-- The promise of the function for C that writes an operation point descriptor.
-- Assumes nothing.
use Rattle.std.specs.Prelude.{ℕ, ◌+◌, ◌≤◌, Bool, true, false, cond, List, ◌↔◌, ◌≡◌, refl, ltb, length, Err, Ok}
use Rattle.std.proofs.Common.{sym, ◌∙◌, ap, subst, arith}
use borrow.Author.Tests.{ltb-false}
use Rattle.combinators.specs.Bools.{either_way, or_else}
use Rattle.vocabulary.specs.declared.refusal.Refusal.{Refusal}
use Rattle.vocabulary.specs.declared.refusal.Refusal.TheVariants.{TooWide, ReservedEsCount, NoRoom}
use Rattle.c_answers.specs.Answers.{Reply, reply}
use Rattle.point_weights.specs.Answer.{Written}
use Rattle.point_weights.specs.Rows.{rows_in, counts_wrong, points_wrong, is_reserved, length_for, judged}
use Rattle.combinators.specs.Lists.{any}
use Rattle.point_writer.specs.Layout.{descriptor_bytes}
use Rattle.point_writer.specs.Writing.{in_room, answer, content_after, content}
use Rattle.point_writer.specs.Meaning as Writing
use Rattle.point_writer.proofs.Meant as writing
use Rattle.thoquenry_points_written.specs.Writing.{points_written, write_points}
use Rattle.promised.specs.Calls.{is_listed, Promised}
use Rattle.demands.specs.Told.{Told, counts, refuses, Says, for_c}
use Rattle.demands.proofs.ToldShown.{code, leaves, number_told, Fits, told_promised}
use Rattle.demands.specs.PointsWritten.{WritePointsGiven, descriptor_told, TellsDescriptor, thq_write_points}

module _ (given : WritePointsGiven) where
  abbrev written : Written
  written = answer (length given.out) given.profiles given.points given.references given.layers

  abbrev left : List ℕ
  left = content given.profiles given.points given.references given.layers given.out

  abbrev told_write_points : Told (List ℕ)
  told_write_points = descriptor_told written left

  writing_tells : (w : Written) (bytes : List ℕ)
      → (points_written w ≡ code (descriptor_told w (content_after w bytes given.out))) × (content_after w bytes given.out ≡ leaves (descriptor_told w (content_after w bytes given.out)) given.out)
  writing_tells (Ok count) bytes = (refl, refl)
  writing_tells (Err refusal) bytes = (refl, refl)

  replied : (points_written written ≡ code told_write_points) × (left ≡ leaves told_write_points given.out)
  replied = writing_tells written (descriptor_bytes given.profiles given.points given.references given.layers)

  told_exactly : (answer : ℕ) (after : List ℕ) → Says told_write_points given.out answer after ↔ TellsDescriptor given answer after
  told_exactly answer after = (
    λ s. record {
      written = written;
      left = left;
      right = writing.answer_meant given.profiles given.points given.references given.layers given.out;
      said = s;
    },
    λ t. (let only = writing.answer_only given.profiles given.points given.references given.layers given.out t.right in
        subst (λ (l : List ℕ). Says (descriptor_told written l) given.out answer after) only.holds
        (subst (λ (w : Written). Says (descriptor_told w t.left) given.out answer after) only.answers t.said)),
  )

  -- each refusal is listed, at place 0, and no more than 257 bytes are counted
  abbrev Good : Written → Type 0
  Good w = (l : List ℕ) → (is_listed thq_write_points.numbers (number_told (descriptor_told w l)) ≡ true) × Fits (descriptor_told w l)

  written_good : Good written
  unfolding judged
  written_good =
      either_way (λ (w : Written). Good (in_room (length given.out) w)) (counts_wrong (length given.profiles) (length given.points)) (Err TooWide) _
      (λ l. (refl, omega arith))
      (either_way (λ (w : Written). Good (in_room (length given.out) w)) (points_wrong (rows_in given.points) given.references (length given.layers)) (Err TooWide) _
      (λ l. (refl, omega arith))
      (either_way (λ (w : Written). Good (in_room (length given.out) w)) (any is_reserved (rows_in given.points)) (Err ReservedEsCount) _
      (λ l. (refl, omega arith))
      (or_else (λ (w : Written). Good (in_room (length given.out) w)) (ltb 255 (length_for (rows_in given.points) (length given.profiles))) (Err TooWide)
      (Ok (2 + length_for (rows_in given.points) (length given.profiles))) (λ l. (refl, omega arith))
      (λ e. either_way Good (ltb (length given.out) (2 + length_for (rows_in given.points) (length given.profiles))) (Err NoRoom)
      (Ok (2 + length_for (rows_in given.points) (length given.profiles))) (λ l. (refl, omega arith))
      (λ l. (refl, (let short = ltb-false 255 (length_for (rows_in given.points) (length given.profiles)) e in omega arith)))))))

pub thq_points_written : Promised (for_c thq_write_points)
thq_points_written =
    told_promised thq_write_points told_write_points (record {
      asks_nothing = λ run. tt;
      ensured = λ run e. (let r = replied (thq_write_points.given run) in (ap (λ (x : Reply). x.answer) e ∙ r.0, ap (λ (x : Reply). x.buffer) e ∙ r.1));
      exactly = told_exactly;
      fits = λ given. (written_good given (left given)).1;
      listed = λ given. (written_good given (left given)).0;
      without_0 = refl;
    })
