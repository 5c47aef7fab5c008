-- What is judged of a table before any unit is looked for: 13, of its shape and then of its rows, and 14, each at its first row.
-- Assumes nothing.
use Rattle.std.specs.Prelude.{ℕ, cond, ltb, Result, Ok, Err}
use Rattle.vocabulary.specs.declared.refusal.Refusal.{Refusal}
use Rattle.vocabulary.specs.declared.refusal.Refusal.TheVariants.{OutOfRange, TimeOrderBroken}
use Rattle.rows.specs.Table.{Table, rows_in, wrong_shape, first_out_of_range, first_broken}

-- A table in range and in order is `Ok tt`.
abbrev pub Verdict : Type 0
Verdict = Result (Unit {0}) Refusal

abbrev pub verdict_of : ℕ → Table → ℕ → Verdict
verdict_of most t closure =
    cond (wrong_shape most t) (Err (OutOfRange 0))
    (cond (ltb (first_out_of_range t) (rows_in t)) (Err (OutOfRange (first_out_of_range t)))
    (cond (ltb (first_broken t closure) (rows_in t)) (Err (TimeOrderBroken (first_broken t closure))) (Ok tt)))
