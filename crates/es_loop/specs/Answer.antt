-- The answers on a loop as a whole: that it is accepted, and what judging it found; or the refusal.
-- Assumes nothing.
use Rattle.std.specs.Prelude.{ℕ, Bool, Result, Ok}
use Rattle.vocabulary.specs.declared.refusal.Refusal.{Refusal}
use Rattle.es_loop.specs.declared.verdict.Judged.{Judged}

-- Accepted is `Ok tt`.
abbrev pub Outcome : Type 0
Outcome = Result (Unit {0}) Refusal

abbrev pub Verdict : Type 0
Verdict = Result Judged Refusal

-- accepted, with so many entries, and the two views without a hierarchy descriptor among them or not
abbrev pub entries_judged : ℕ → Bool → Verdict
entries_judged count pair = Ok (record { count = count; pair = pair })
