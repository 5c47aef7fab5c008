-- `loop_faults::refusal_of` meets its contract: the number that was matched is the refusal's place in the list.
-- Assumes nothing.
use Prim.Native.Nat.{ℕ, zero, suc}
use mathlib.Core.Path.{◌≡◌, refl, sym, ap}
use mathlib.Core.Logic.{◌≢◌}
use Rattle.vocabulary.specs.declared.refusal.Refusal.TheVariants.{LoopTooLong}
use Rattle.loop_faults.specs.Conditions.{refusal_of}
use Rattle.loop_faults.proofs.refusal_of.Goals as goal

-- a number that is none of these has no refusal of its own
other : (n place : ℕ) → n ≢ 2 → n ≢ 3 → n ≢ 4 → n ≢ 5 → n ≢ 6 → n ≢ 7 → n ≢ 8 → n ≢ 9 → refusal_of n place ≡ LoopTooLong
other zero place a b c d e f g h = refl
other (suc zero) place a b c d e f g h = refl
other (suc (suc zero)) place a b c d e f g h = absurd (a refl)
other (suc (suc (suc zero))) place a b c d e f g h = absurd (b refl)
other (suc (suc (suc (suc zero)))) place a b c d e f g h = absurd (c refl)
other (suc (suc (suc (suc (suc zero))))) place a b c d e f g h = absurd (d refl)
other (suc (suc (suc (suc (suc (suc zero)))))) place a b c d e f g h = absurd (e refl)
other (suc (suc (suc (suc (suc (suc (suc zero))))))) place a b c d e f g h = absurd (f refl)
other (suc (suc (suc (suc (suc (suc (suc (suc zero)))))))) place a b c d e f g h = absurd (g refl)
other (suc (suc (suc (suc (suc (suc (suc (suc (suc zero))))))))) place a b c d e f g h = absurd (h refl)
other (suc (suc (suc (suc (suc (suc (suc (suc (suc (suc n)))))))))) place a b c d e f g h = refl

pub returns-in-2 : goal.returns-in-2
returns-in-2 c = sym (ap (λ (n : ℕ). refusal_of n c.args.place) c.in-2.is)

pub returns-in-3 : goal.returns-in-3
returns-in-3 c = sym (ap (λ (n : ℕ). refusal_of n c.args.place) c.in-3.is)

pub returns-in-4 : goal.returns-in-4
returns-in-4 c = sym (ap (λ (n : ℕ). refusal_of n c.args.place) c.in-4.is)

pub returns-in-5 : goal.returns-in-5
returns-in-5 c = sym (ap (λ (n : ℕ). refusal_of n c.args.place) c.in-5.is)

pub returns-in-6 : goal.returns-in-6
returns-in-6 c = sym (ap (λ (n : ℕ). refusal_of n c.args.place) c.in-6.is)

pub returns-in-7 : goal.returns-in-7
returns-in-7 c = sym (ap (λ (n : ℕ). refusal_of n c.args.place) c.in-7.is)

pub returns-in-8 : goal.returns-in-8
returns-in-8 c = sym (ap (λ (n : ℕ). refusal_of n c.args.place) c.in-8.is)

pub returns-in-9 : goal.returns-in-9
returns-in-9 c = sym (ap (λ (n : ℕ). refusal_of n c.args.place) c.in-9.is)

pub returns-in_default : goal.returns-in_default
returns-in_default c =
    let a = c.args in
    let r = c.in_default.in_default-own.rest in
    sym (other a.number a.place r.0.0.0.0.0.0.0.1 r.0.0.0.0.0.0.1 r.0.0.0.0.0.1 r.0.0.0.0.1 r.0.0.0.1 r.0.0.1 r.0.1 r.1)
