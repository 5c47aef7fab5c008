-- THE ANSWER OF A CALL as one number of 64 bits, as include/thoquenry.h says: THQ_NUMBER(answer), the remainder by 256, is 0 where the call is accepted, or else the
-- number of the refusal; THQ_VALUE(answer), the quotient, is the place of the refusal, or what the function counts.
-- Assumes nothing.
use Rattle.std.specs.Prelude.{ℕ, ◌+◌, ◌*◌, ◌%◌, ◌^◌, cond, List, eqb, None, Some}
use Rattle.vocabulary.specs.declared.refusal.Refusal.{Refusal}
use Rattle.vocabulary.specs.declared.stream_types.Reading.TheVariants.{Edition2009, Edition2015}
use Rattle.vocabulary.specs.Refusals.{number_of, place_of}
use Rattle.c_answers.specs.Answer.{Asked}

-- 8 bits for the number and 56 for the value
abbrev pub answer_of : ℕ → ℕ → ℕ
answer_of number value = number + 256 * (value % 2 ^ 56)

abbrev pub accepted : ℕ → ℕ
accepted count = answer_of 0 count

abbrev pub refused : Refusal → ℕ
refused refusal = answer_of (number_of refusal) (place_of refusal)

-- THQ_NOT_A_CALL: 'the reading is neither THQ_2009 nor THQ_2015'
abbrev pub not_a_call : ℕ
not_a_call = answer_of 255 0

abbrev pub asked_for : ℕ → Asked
asked_for reading = cond (eqb reading 2009) (Some Edition2009) (cond (eqb reading 2015) (Some Edition2015) None)

-- What a call leaves: its answer, and the final content of its buffer.
pub record Reply : Type 0 where
  pub answer : ℕ
  pub buffer : List ℕ

abbrev pub reply : ℕ → List ℕ → Reply
reply answer buffer = record { answer = answer; buffer = buffer }

-- 'After a refusal every output buffer holds what it held.'
abbrev pub unchanged : Refusal → List ℕ → Reply
unchanged refusal buffer = reply (refused refusal) buffer
