-- What a caller's two macros make of an answer: THQ_NUMBER and THQ_VALUE give back what was put in, as long as the value has 56 bits.
-- Assumes nothing.
use Prim.Native.Nat.{ℕ, ◌/◌, ◌%◌, ◌^◌, ◌<◌}
use mathlib.Core.Path.{◌≡◌}
use native.Mathlib.Omega.{arith}
use Rattle.vocabulary.specs.declared.refusal.Refusal.{Refusal}
use Rattle.vocabulary.specs.Refusals.{number_of, place_of}
use Rattle.vocabulary.proofs.Numbers.{number_small}
use Rattle.c_answers.specs.Answers.{answer_of, accepted, refused}

number_of_lem : (number value : ℕ) → number < 256 → answer_of number value % 256 ≡ number
number_of_lem number value h = omega arith

value_of : (number value : ℕ) → number < 256 → value < 2 ^ 56 → answer_of number value / 256 ≡ value
value_of number value h k = omega arith

pub refused_number : (refusal : Refusal) → refused refusal % 256 ≡ number_of refusal
refused_number refusal = number_of_lem (number_of refusal) (place_of refusal) (number_small refusal)

pub refused_place : (refusal : Refusal) → place_of refusal < 2 ^ 56 → refused refusal / 256 ≡ place_of refusal
refused_place refusal h = value_of (number_of refusal) (place_of refusal) (number_small refusal) h

pub accepted_number : (count : ℕ) → accepted count % 256 ≡ 0
accepted_number count = number_of_lem 0 count (omega arith)

pub accepted_count : (count : ℕ) → count < 2 ^ 56 → accepted count / 256 ≡ count
accepted_count count h = value_of 0 count (omega arith) h
