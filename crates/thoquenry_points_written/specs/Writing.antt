-- thq_write_points: its answer, and what its buffer holds afterwards.
-- Assumes nothing.
use Rattle.std.specs.Prelude.{ℕ, List, length, Err, Ok}
use Rattle.c_answers.specs.Answers.{accepted, refused, Reply, reply}
use Rattle.point_weights.specs.Answer.{Written}
use Rattle.point_writer.specs.Writing.{answer, content}

-- 'Counts the bytes written to `out`.'
abbrev pub points_written : Written → ℕ
points_written (Ok count) = accepted count
points_written (Err refusal) = refused refusal

-- 'Refusals: 25 for given values and counts; then 41; then 25 for a length above 255; then 17.'
abbrev pub write_points : List ℕ → List ℕ → List ℕ → List ℕ → List ℕ → Reply
write_points profiles points references layers out =
    reply (points_written (answer (length out) profiles points references layers)) (content profiles points references layers out)
