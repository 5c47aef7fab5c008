-- How the promise of a function for C is shown: by what it tells of a call of the library, whose promise is shown.
-- Assumes nothing.
use Rattle.std.specs.Prelude.{ℕ, ◌<◌, ◌^◌, Bool, true, false, cond, List, ◌↔◌, ◌≡◌, refl, eqb, None, Some}
use Rattle.std.proofs.Math.Option.{Option, none, some}
use Rattle.std.proofs.Common.{sym, ◌∙◌, ap, subst₂, arith, eqb-true}
use Rattle.combinators.specs.Bools.{both_ways, either_way}
use Rattle.combinators.specs.Members.{member}
use Rattle.vocabulary.specs.declared.stream_types.Reading.{Reading}
use Rattle.vocabulary.specs.declared.stream_types.Reading.TheVariants.{Edition2009, Edition2015}
use Rattle.vocabulary.specs.Refusals.{number_of, place_of}
use Rattle.c_answers.specs.Answer.{Asked}
use Rattle.c_answers.specs.Answers.{accepted, refused, not_a_call as not_a_call_code, asked_for}
use Rattle.c_answers.proofs.Macros.{refused_number, refused_place, accepted_number, accepted_count}
use Rattle.promised.specs.Calls.{Call, is_listed, Promised}
use Rattle.promised.specs.Shown.{Computed, promised, not_refused}
use Rattle.demands.specs.Told.{Told, counts, refuses, not_a_call, Reads, Says, Retells, If, ByYear, ForC, told_number, for_c}

module _ {B : Type 0} where
  -- the number that is answered, what the buffers then hold, and the number of a refusal
  abbrev pub code : Told B → ℕ
  code (counts count left) = accepted count
  code (refuses refusal) = refused refusal
  code not_a_call = not_a_call_code

  abbrev pub leaves : Told B → B → B
  leaves (counts count left) before = left
  leaves (refuses refusal) before = before
  leaves not_a_call before = before

  abbrev pub number_told : Told B → Option ℕ
  number_told (counts count left) = none
  number_told (refuses refusal) = some (number_of refusal)
  number_told not_a_call = some 255

  -- a value that a caller gets back whole
  abbrev pub Fits : Told B → Type 0
  Fits (counts count left) = count < 2 ^ 56
  Fits (refuses refusal) = place_of refusal < 2 ^ 56
  Fits not_a_call = Unit {0}

  says : (t : Told B) (before : B) → Fits t → Says t before (code t) (leaves t before)
  says (counts count left) before h = record { number_read = accepted_number count; value_read = accepted_count count h; left_so = refl }
  says (refuses refusal) before h = record { number_read = refused_number refusal; value_read = refused_place refusal h; left_so = refl }
  says not_a_call before h = record { number_read = refl; value_read = refl; left_so = refl }

  reads_one : {number value : ℕ} {left : B} {answer other : ℕ} {after beside : B} → Reads number value left answer after
      → Reads number value left other beside → (answer ≡ other) × (after ≡ beside)
  reads_one {number} {value} {left} {answer} {other} r s =
      let a = r.number_read in
      let b = r.value_read in
      let c = s.number_read in
      let d = s.value_read in
      let same : answer ≡ other = omega arith in
      (same, r.left_so ∙ sym s.left_so)

  says_one : (t : Told B) (before : B) (answer other : ℕ) (after beside : B) → Says t before answer after → Says t before other beside
      → (answer ≡ other) × (after ≡ beside)
  says_one (counts count left) before answer other after beside r s = reads_one r s
  says_one (refuses refusal) before answer other after beside r s = reads_one r s
  says_one not_a_call before answer other after beside r s = reads_one r s

  kept : (t : Told B) (before : B) (number : ℕ) → number_told t ≡ some number → leaves t before ≡ before
  kept (counts count left) before number e = not_refused e
  kept (refuses refusal) before number e = refl
  kept not_a_call before number e = refl

-- a number of a list that 0 does not stand in
not_0 : (n : ℕ) (numbers : List ℕ) → member n numbers ≡ true → member 0 numbers ≡ false → cond (eqb n 0) none (some n) ≡ some n
not_0 n numbers e f = by (eqb n 0) refl
  where
    by : (b : Bool) → eqb n 0 ≡ b → cond b none (some n) ≡ some n
    by true zeroth = both_ways (sym (ap (λ (k : ℕ). member k numbers) (eqb-true n 0 zeroth)) ∙ e) f
    by false other = refl

number_told_lem : {B : Type 0} (t : Told B) (numbers : List ℕ) → is_listed numbers (number_told t) ≡ true → member 0 numbers ≡ false → told_number (code t) ≡ number_told t
number_told_lem (counts count left) numbers e f = ap (λ (n : ℕ). cond (eqb n 0) none (some n)) (accepted_number count)
number_told_lem (refuses refusal) numbers e f =
    ap (λ (n : ℕ). cond (eqb n 0) none (some n)) (refused_number refusal) ∙ not_0 (number_of refusal) numbers e f
number_told_lem not_a_call numbers e f = refl

-- A function for C tells `told` of what it is given, and so its promise is kept.
pub record ToldBy (f : ForC) (told : f.Given → Told f.Buffers) : Type 0 where
  pub asks_nothing : (run : f.Ran) → f.Asks run
  pub ensured : (run : f.Ran) → f.Ensures run
      → (f.answer run ≡ code (told (f.given run))) × (f.after run ≡ leaves (told (f.given run)) (f.before (f.given run)))
  pub exactly : (given : f.Given) (answer : ℕ) (after : f.Buffers) → Says (told given) (f.before given) answer after ↔ f.Means given answer after
  pub fits : (given : f.Given) → Fits (told given)
  pub listed : (given : f.Given) → is_listed f.numbers (number_told (told given)) ≡ true
  pub without_0 : member 0 f.numbers ≡ false

pub told_promised : (f : ForC) (told : f.Given → Told f.Buffers) → ToldBy f told → Promised (for_c f)
told_promised f told c =
    promised (record {
      asks_nothing = c.asks_nothing;
      ensured = c.ensured;
      right = right;
      nothing_else = λ given {answer} {after} means. says_one (told given) (f.before given) answer (code (told given)) after
          (leaves (told given) (f.before given)) ((c.exactly given answer after).1 means) (says (told given) (f.before given) (c.fits given));
      listed = λ given. ap (is_listed f.numbers) (number given) ∙ c.listed given;
      untouched = λ given n e. kept (told given) (f.before given) n (sym (number given) ∙ e);
    })
  where
    right : (given : f.Given) → f.Means given (code (told given)) (leaves (told given) (f.before given))
    right given = (c.exactly given (code (told given)) (leaves (told given) (f.before given))).0 (says (told given) (f.before given) (c.fits given))

    number : (given : f.Given) → told_number (code (told given)) ≡ number_told (told given)
    number given = number_told_lem (told given) f.numbers (c.listed given) c.without_0

-- ---- what is told, case by case

pub if_told : {B : Type 0} (test : Bool) (t u : Told B) (before : B) (answer : ℕ) (after : B) {P Q : Type 0} → (Says t before answer after ↔ P)
    → (Says u before answer after ↔ Q) → Says (cond test t u) before answer after ↔ If test P Q
if_told true t u before answer after p q = p
if_told false t u before answer after p q = q

pub retold : {call : Call} {answerTo : call.Given → call.Answer} {left_by : call.Given → call.Buffers} → Computed call answerTo left_by
    → (given : call.Given) {B : Type 0} (told : call.Answer → call.Buffers → Told B) (before : B) (answer : ℕ) (after : B)
    → Says (told (answerTo given) (left_by given)) before answer after ↔ Retells call given told before answer after
retold {call} {answerTo} {left_by} c given told before answer after = (
  λ s. record { found = record { answer = answerTo given; after = left_by given; means = c.right given }; said = s },
  λ r. subst₂ (λ (a : call.Answer) (b : call.Buffers). Says (told a b) before answer after) (c.nothing_else given r.found.means).0
      (c.nothing_else given r.found.means).1 r.said,
)

abbrev pub told_by_year : {B : Type 0} → ℕ → (Reading → Told B) → Told B
told_by_year year t = cond (eqb year 2009) (t Edition2009) (cond (eqb year 2015) (t Edition2015) not_a_call)

pub each_year : {B : Type 0} (P : Told B → Type 0) (year : ℕ) (t : Reading → Told B) → ((reading : Reading) → P (t reading)) → P not_a_call → P (told_by_year year t)
each_year P year t each neither =
    either_way P (eqb year 2009) (t Edition2009) (cond (eqb year 2015) (t Edition2015) not_a_call) (each Edition2009)
    (either_way P (eqb year 2015) (t Edition2015) not_a_call (each Edition2015) neither)

pub by_year : {B : Type 0} (year : ℕ) (t : Reading → Told B) {Of : Reading → Type 0} (before : B) (answer : ℕ) (after : B)
    → ((reading : Reading) → Says (t reading) before answer after ↔ Of reading)
    → Says (told_by_year year t) before answer after ↔ ByYear year Of (Says not_a_call before answer after)
by_year year t before answer after each =
    if_told (eqb year 2009) (t Edition2009) (cond (eqb year 2015) (t Edition2015) not_a_call) before answer after (each Edition2009)
    (if_told (eqb year 2015) (t Edition2015) not_a_call before answer after (each Edition2015) (λ s. s, λ s. s))

pub asked : {B : Type 0} (P : Asked → Told B → Type 0) (t : Reading → Told B) (year : ℕ) → ((reading : Reading) → P (Some reading) (t reading))
    → P None not_a_call → P (asked_for year) (told_by_year year t)
asked {B} P t year each neither = by (eqb year 2009) (eqb year 2015)
  where
    by : (a b : Bool) → P (cond a (Some Edition2009) (cond b (Some Edition2015) None)) (cond a (t Edition2009) (cond b (t Edition2015) not_a_call))
    by true b = each Edition2009
    by false true = each Edition2015
    by false false = neither
