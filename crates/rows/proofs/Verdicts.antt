-- The verdict on a table, case by case: which tests lead to each, and what is known of a table in range and in order.
-- Assumes nothing.
use Rattle.std.specs.Prelude.{Ok, Err}
use Prim.Native.Nat.{ℕ, ◌≤◌, ◌<◌}
use mathlib.Core.Bool.{Bool, true, false, not, cond, ◌||◌}
use mathlib.Core.Path.{◌≡◌, refl, sym, ◌∙◌, ap, subst}
use borrow.Author.Tests.{lt-ltb, le-ltb, ltb-false, eqb-true, not-false}
use lib.Dec.{eqb, ltb}
use lib.ListN.{length}
use Rattle.combinators.specs.Bools.{neither_left, neither_right}
use Rattle.rows.specs.Table.{Table, rows_in, wrong_shape, first_out_of_range, first_broken}
use Rattle.rows.specs.Verdicts.{Verdict, verdict_of}
use Rattle.vocabulary.specs.declared.refusal.Refusal.TheVariants.{OutOfRange, TimeOrderBroken}

-- ---- which tests lead to each verdict

module _ (most : ℕ) (t : Table) (closure : ℕ) where
  abbrev past_range : Verdict
  past_range = cond (ltb (first_broken t closure) (rows_in t)) (Err (TimeOrderBroken (first_broken t closure))) (Ok tt)

  abbrev past_shape : Verdict
  past_shape = cond (ltb (first_out_of_range t) (rows_in t)) (Err (OutOfRange (first_out_of_range t))) past_range

  pub is_misshapen : wrong_shape most t ≡ true → Err (OutOfRange 0) ≡ verdict_of most t closure
  is_misshapen e = sym (ap (λ (b : Bool). cond b (Err (OutOfRange 0)) past_shape) e)

  module _ (shape : wrong_shape most t ≡ false) where
    after_shape : past_shape ≡ verdict_of most t closure
    after_shape = sym (ap (λ (b : Bool). cond b (Err (OutOfRange 0)) past_shape) shape)

    pub is_outside : (k : ℕ) → k ≡ first_out_of_range t → k < rows_in t → Err (OutOfRange k) ≡ verdict_of most t closure
    is_outside k e h =
        ap (λ (k : ℕ). Err (OutOfRange k)) e
        ∙ sym (ap (λ (b : Bool). cond b (Err (OutOfRange (first_out_of_range t))) past_range)
        (lt-ltb (first_out_of_range t) (rows_in t) (subst (λ (k : ℕ). k < rows_in t) e h)))
        ∙ after_shape

    module _ (in_range : rows_in t ≤ first_out_of_range t) where
      after_range : past_range ≡ verdict_of most t closure
      after_range =
          sym (ap (λ (b : Bool). cond b (Err (OutOfRange (first_out_of_range t))) past_range) (le-ltb (first_out_of_range t) (rows_in t) in_range)) ∙ after_shape

      pub is_broken : (k : ℕ) → k ≡ first_broken t closure → k < rows_in t → Err (TimeOrderBroken k) ≡ verdict_of most t closure
      is_broken k e h =
          ap (λ (k : ℕ). Err (TimeOrderBroken k)) e
          ∙ sym (ap (λ (b : Bool). cond b (Err (TimeOrderBroken (first_broken t closure))) (Ok tt))
          (lt-ltb (first_broken t closure) (rows_in t) (subst (λ (k : ℕ). k < rows_in t) e h)))
          ∙ after_range

      pub is_in_order : rows_in t ≤ first_broken t closure → Ok tt ≡ verdict_of most t closure
      is_in_order h =
          sym (ap (λ (b : Bool). cond b (Err (TimeOrderBroken (first_broken t closure))) (Ok tt)) (le-ltb (first_broken t closure) (rows_in t) h)) ∙ after_range

-- ---- what is known of a table in range and in order

-- what a right shape means
module _ (most : ℕ) (t : Table) (shape : wrong_shape most t ≡ false) where
  shape_rest : (not (eqb (length t.matches) (rows_in t)) || ltb most (rows_in t)) ≡ false
  shape_rest =
      neither_right (not (eqb (length t.decodings) (rows_in t))) (not (eqb (length t.matches) (rows_in t)) || ltb most (rows_in t)) shape

  pub shape_decoded : length t.decodings ≡ rows_in t
  shape_decoded =
      eqb-true (length t.decodings) (rows_in t) (not-false (eqb (length t.decodings) (rows_in t))
      (neither_left (not (eqb (length t.decodings) (rows_in t))) (not (eqb (length t.matches) (rows_in t)) || ltb most (rows_in t)) shape))

  pub shape_matched : length t.matches ≡ rows_in t
  shape_matched =
      eqb-true (length t.matches) (rows_in t) (not-false (eqb (length t.matches) (rows_in t))
      (neither_left (not (eqb (length t.matches) (rows_in t))) (ltb most (rows_in t)) shape_rest))

  pub shape_short : rows_in t ≤ most
  shape_short = ltb-false most (rows_in t) (neither_right (not (eqb (length t.matches) (rows_in t))) (ltb most (rows_in t)) shape_rest)

pub record Sound (most : ℕ) (t : Table) (closure : ℕ) : Type 0 where
  pub shape : wrong_shape most t ≡ false
  pub range : rows_in t ≤ first_out_of_range t
  pub order : rows_in t ≤ first_broken t closure

none_passed : (b₁ b₂ b₃ : Bool) (i j : ℕ) → ◌≡◌ {A = Verdict} (cond b₁ (Err (OutOfRange 0)) (cond b₂ (Err (OutOfRange i)) (cond b₃ (Err (TimeOrderBroken j)) (Ok tt)))) (Ok tt)
    → (b₁ ≡ false) × (b₂ ≡ false) × (b₃ ≡ false)
none_passed true b₂ b₃ i j e = cc
none_passed false true b₃ i j e = cc
none_passed false false true i j e = cc
none_passed false false false i j e = (refl, refl, refl)

pub sound : (most : ℕ) (t : Table) (closure : ℕ) → verdict_of most t closure ≡ Ok tt → Sound most t closure
sound most t closure e =
    let w = none_passed (wrong_shape most t) (ltb (first_out_of_range t) (rows_in t)) (ltb (first_broken t closure) (rows_in t)) (first_out_of_range t) (first_broken t closure) e in
    record {
      shape = w.0;
      range = ltb-false (first_out_of_range t) (rows_in t) w.1;
      order = ltb-false (first_broken t closure) (rows_in t) w.2;
    }
