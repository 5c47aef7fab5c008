-- A CALL OF THE LIBRARY: a function, as its own contract speaks of it, and what is promised of every call alike.
-- Assumes nothing.
use Rattle.std.specs.Prelude.{ℕ, Bool, true, List, ◌≡◌}
use Rattle.std.proofs.Math.Option.{Option, none, some}
use contract.Lifetimes.{Lfts}
use borrow.Fn.Kinds.{ParamKind, ResultKind, Dens, res_t, ended_of}
use denote.Triple.Clauses.{AtExit}
use Rattle.combinators.specs.Members.{member}

-- One run of a function: what it is handed, what it answers, and what it was handed as that stands when it returns. `n`, `ps` and `r` are its
-- signature, and what is said of a run by the function's contract is `Pre` and `Post` of the module `Reads` that the prover makes of it.
pub record Run (n : ℕ) (ps : List (ParamKind n)) (r : ResultKind n) : Type 0 where
  pub lifetimes : Lfts n
  pub handed : Dens lifetimes ps
  pub answer : (res_t r lifetimes).Denot
  pub left : AtExit (ended_of n ps r) lifetimes

-- A CALL: `Asks` is what the function's contract requires, `Ensures` what it ensures. A run is seen as what was given, the answer, and what the
-- output buffers hold before and after; `number_in` is the number of an answer that refuses, and `numbers` lists those of the call. `Means` is what
-- is right, in the words of document 01. A function of Rattle that is proved ends.
pub record Call : Type 1 where
  pub Ran : Type 0
  pub Asks : Ran → Type 0
  pub Ensures : Ran → Type 0
  pub Given : Type 0
  pub Answer : Type 0
  pub Buffers : Type 0
  pub given : Ran → Given
  pub answer : Ran → Answer
  pub before : Given → Buffers
  pub after : Ran → Buffers
  pub number_in : Answer → Option ℕ
  pub numbers : List ℕ
  pub Means : Given → Answer → Buffers → Type 0

-- an answer that is a refusal has one of the numbers that are listed for the call
abbrev pub is_listed : List ℕ → Option ℕ → Bool
is_listed numbers none = true
is_listed numbers (some number) = member number numbers

-- an answer that is right, with what the buffers then hold
pub record Right (call : Call) (given : call.Given) : Type 0 where
  pub answer : call.Answer
  pub after : call.Buffers
  pub means : call.Means given answer after

-- THE PROMISE, for whatever the call is handed: its function asks nothing, and whatever the function's contract ensures is right, answer and
-- buffers; there is one answer that is right, and no other; a refusal has a listed number, 'and the output buffers then hold what they held before'.
pub record Promised (call : Call) : Type 0 where
  pub asks_nothing : (run : call.Ran) → call.Asks run
  pub right : (run : call.Ran) → call.Ensures run → call.Means (call.given run) (call.answer run) (call.after run)
  pub one : (given : call.Given) → Right call given
  pub no_other : (given : call.Given) {answer other : call.Answer} {after beside : call.Buffers} → call.Means given answer after
      → call.Means given other beside → (answer ≡ other) × (after ≡ beside)
  pub listed : (run : call.Ran) → call.Ensures run → is_listed call.numbers (call.number_in (call.answer run)) ≡ true
  pub untouched : (run : call.Ran) → call.Ensures run → (number : ℕ) → call.number_in (call.answer run) ≡ some number
      → call.after run ≡ call.before (call.given run)
