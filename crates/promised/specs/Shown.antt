-- How a call's promise is shown, and laws of listed numbers.
-- Assumes nothing.
use Rattle.std.specs.Prelude.{ℕ, true, List, ◌++◌, ◌≡◌, refl}
use Rattle.std.proofs.Math.Option.{Option, none, some, some-ne-none}
use Rattle.std.proofs.Common.{sym, ◌∙◌, ap, subst₂}
use Rattle.combinators.specs.Bools.{either_left, either_right}
use Rattle.combinators.specs.Members.{member, member_append}
use Rattle.promised.specs.Calls.{Call, is_listed, Promised}

-- By a definition that computes the answer, and one for the buffers, which are the function's by its contract.
pub record Computed (call : Call) (answerTo : call.Given → call.Answer) (left_by : call.Given → call.Buffers) : Type 0 where
  pub asks_nothing : (run : call.Ran) → call.Asks run
  pub ensured : (run : call.Ran) → call.Ensures run → (call.answer run ≡ answerTo (call.given run)) × (call.after run ≡ left_by (call.given run))
  pub right : (given : call.Given) → call.Means given (answerTo given) (left_by given)
  pub nothing_else : (given : call.Given) {answer : call.Answer} {after : call.Buffers} → call.Means given answer after
      → (answer ≡ answerTo given) × (after ≡ left_by given)
  pub listed : (given : call.Given) → is_listed call.numbers (call.number_in (answerTo given)) ≡ true
  pub untouched : (given : call.Given) (number : ℕ) → call.number_in (answerTo given) ≡ some number → left_by given ≡ call.before given

pub promised : {call : Call} {answerTo : call.Given → call.Answer} {left_by : call.Given → call.Buffers} → Computed call answerTo left_by
    → Promised call
promised {call} {answerTo} {left_by} c =
    record {
      asks_nothing = c.asks_nothing;
      right = λ run e. along run e (c.right (call.given run));
      one = λ given. record { answer = answerTo given; after = left_by given; means = c.right given };
      no_other = λ given means others. same given means others;
      listed = λ run e. ap (λ (answer : call.Answer). is_listed call.numbers (call.number_in answer)) (c.ensured run e).0 ∙ c.listed (call.given run);
      untouched = λ run e number refused. (c.ensured run e).1
          ∙ c.untouched (call.given run) number (sym (ap call.number_in (c.ensured run e).0) ∙ refused);
    }
  where
    along : (run : call.Ran) → call.Ensures run → call.Means (call.given run) (answerTo (call.given run)) (left_by (call.given run))
        → call.Means (call.given run) (call.answer run) (call.after run)
    along run e means = subst₂ (call.Means (call.given run)) (sym (c.ensured run e).0) (sym (c.ensured run e).1) means

    same : (given : call.Given) {answer other : call.Answer} {after beside : call.Buffers} → call.Means given answer after
        → call.Means given other beside → (answer ≡ other) × (after ≡ beside)
    same given means others =
        let first = c.nothing_else given means in
        let second = c.nothing_else given others in
        (first.0 ∙ sym second.0, first.1 ∙ sym second.1)

-- a number of either list is one of the two together
pub listed_first : (first second : List ℕ) (number : Option ℕ) → is_listed first number ≡ true → is_listed (first ++ second) number ≡ true
listed_first first second none e = refl
listed_first first second (some number) e = member_append number first second ∙ either_left (member number first) (member number second) e

pub listed_second : (first second : List ℕ) (number : Option ℕ) → is_listed second number ≡ true → is_listed (first ++ second) number ≡ true
listed_second first second none e = refl
listed_second first second (some number) e = member_append number first second ∙ either_right (member number first) (member number second) e

-- an answer that is no refusal
pub not_refused : {number : ℕ} {A : Type 0} → ◌≡◌ {A = Option ℕ} none (some number) → A
not_refused {number} e = absurd (some-ne-none number (sym e))
