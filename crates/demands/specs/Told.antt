-- WHAT A FUNCTION FOR C TELLS with its one number, in the words of include/thoquenry.h, and what is then in its buffers.
-- Assumes nothing.
use Rattle.std.specs.Prelude.{ℕ, ◌/◌, ◌%◌, Bool, true, false, cond, List, ◌≡◌, eqb}
use Rattle.std.proofs.Math.Option.{Option, none, some}
use Rattle.vocabulary.specs.declared.refusal.Refusal.{Refusal}
use Rattle.vocabulary.specs.declared.stream_types.Reading.{Reading}
use Rattle.vocabulary.specs.declared.stream_types.Reading.TheVariants.{Edition2009, Edition2015}
use Rattle.vocabulary.specs.Refusals.{number_of, place_of}
use Rattle.promised.specs.Calls.{Call, Right}

-- A call is accepted, with what it counts and what its buffers then hold; or it refuses; or 'the reading is neither THQ_2009 nor THQ_2015'.
pub data Told (B : Type 0) : Type 0 where
  counts : ℕ → B → Told B
  refuses : Refusal → Told B
  not_a_call : Told B

-- 'THQ_NUMBER(answer)', 'THQ_VALUE(answer)', and what the buffers hold
pub record Reads {B : Type 0} (number value : ℕ) (left : B) (answer : ℕ) (after : B) : Type 0 where
  pub number_read : answer % 256 ≡ number
  pub value_read : answer / 256 ≡ value
  pub left_so : after ≡ left

-- '0 where the call is accepted, or else the number of the refusal', and 'the place of the refusal, or what the function says that it counts'.
-- 'After a refusal every output buffer holds what it held.'
abbrev pub Says : {B : Type 0} → Told B → B → ℕ → B → Type 0
Says (counts count left) before answer after = Reads 0 count left answer after
Says (refuses refusal) before answer after = Reads (number_of refusal) (place_of refusal) before answer after
Says not_a_call before answer after = Reads 255 0 before answer after

-- It tells the right answer of a call of the library, by `told`.
pub record Retells (call : Call) (given : call.Given) {B : Type 0} (told : call.Answer → call.Buffers → Told B) (before : B) (answer : ℕ) (after : B) : Type 0 where
  pub found : Right call given
  pub said : Says (told found.answer found.after) before answer after

-- the one or the other
abbrev pub If : Bool → Type 0 → Type 0 → Type 0
If true Then Otherwise = Then
If false Then Otherwise = Otherwise

-- Of a function that is told the year of its reading: by the reading of that year, or of neither.
abbrev pub ByYear : ℕ → (Reading → Type 0) → Type 0 → Type 0
ByYear year Of Neither = If (eqb year 2009) (Of Edition2009) (If (eqb year 2015) (Of Edition2015) Neither)

-- A FUNCTION FOR C as a call: its answer is one number.
pub record ForC : Type 1 where
  pub Ran : Type 0
  pub Asks : Ran → Type 0
  pub Ensures : Ran → Type 0
  pub Given : Type 0
  pub Buffers : Type 0
  pub given : Ran → Given
  pub answer : Ran → ℕ
  pub before : Given → Buffers
  pub after : Ran → Buffers
  pub numbers : List ℕ
  pub Means : Given → ℕ → Buffers → Type 0

-- the number of an answer that refuses
abbrev pub told_number : ℕ → Option ℕ
told_number answer = cond (eqb (answer % 256) 0) none (some (answer % 256))

abbrev pub for_c : ForC → Call
for_c f =
    record {
      Ran = f.Ran;
      Asks = f.Asks;
      Ensures = f.Ensures;
      Given = f.Given;
      Answer = ℕ;
      Buffers = f.Buffers;
      given = f.given;
      answer = f.answer;
      before = f.before;
      after = f.after;
      number_in = told_number;
      numbers = f.numbers;
      Means = f.Means;
    }
