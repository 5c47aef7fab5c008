-- An array of marks, one for each key: what was seen before is found in one look.
-- Assumes nothing.
use Rattle.std.specs.Prelude.{ℕ, ◌+◌, ◌<◌, ◌≡◌, Bool, true, false, ◌||◌, List, eqb, length, get_or, set, replicate}
use Rattle.std.proofs.Common.{sym, ◌∙◌, ap, arith, add-one, eq-eqb, ne_eqb, length-set, get_or-set_same, get_or-set_other}
use Rattle.std.proofs.Math.Bool.{or-true, or-false}
use Rattle.std.proofs.Math.Decide.{ℕ_discrete}
use Rattle.std.proofs.lemmas.List.{length-replicate, get_or-replicate}
use Rattle.combinators.specs.Below.{some}

-- After n elements a key is marked exactly where one of them has it.
pub record Marks (size : ℕ) (key : ℕ → ℕ) (n : ℕ) (marks : List Bool) : Type 0 where
  pub long : length marks ≡ size
  pub marked : (p : ℕ) → p < size → get_or marks p false ≡ some (λ j. eqb (key j) p) n

pub marks_start : (size : ℕ) (key : ℕ → ℕ) → Marks size key 0 (replicate size false)
marks_start size key = record { long = length-replicate size false; marked = λ p h. get_or-replicate size p false false h }

-- one element more: its key is marked
pub marks_step : (size : ℕ) (key : ℕ → ℕ) (n : ℕ) (marks : List Bool) (k : ℕ) → Marks size key n marks → key n ≡ k
    → Marks size key (n + 1) (set marks k true)
marks_step size key n marks k m e = record { long = length-set marks k true ∙ m.long; marked = λ p h. rw (add-one n) (at p h (ℕ_discrete p k)) }
  where
    at : (p : ℕ) → p < size → Dec (p ≡ k) → get_or (set marks k true) p false ≡ some (λ j. eqb (key j) p) n || eqb (key n) p
    at p h (yes q) =
        rw q
        (get_or-set_same marks k true false (omega (arith, m.long))
        ∙ sym (ap (λ (b : Bool). some (λ j. eqb (key j) k) n || b) (eq-eqb (key n) k e) ∙ or-true (some (λ j. eqb (key j) k) n)))
    at p h (no q) =
        get_or-set_other marks k p true false q ∙ m.marked p h
        ∙ sym (ap (λ (b : Bool). some (λ j. eqb (key j) p) n || b) (ne_eqb (key n) p (λ r. q (sym r ∙ e))) ∙ or-false (some (λ j. eqb (key j) p) n))
