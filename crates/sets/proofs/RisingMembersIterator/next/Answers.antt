-- The walk over the members of a set gives the lowest of those that are left, and nothing once none is.
-- Assumes nothing.
use Prim.Native.Nat.{ℕ, ◌^◌, ◌<◌}
use mathlib.Core.List.{List, [], ◌∷◌}
use mathlib.Core.Path.{◌≡◌, sym, ap, ap₂, ◌∙◌}
use native.Mathlib.Omega.{arith}
use Rattle.sets.specs.Sets.{lowest, rest, members_of}
use Rattle.sets.proofs.Members.{members_none, members_next, fewer_left}
use Rattle.sets.proofs.RisingMembersIterator.next.Goals as goal

pub returns-then-self-eq0-clause-steps : goal.returns-then-self-eq0-clause-steps
returns-then-self-eq0-clause-steps c =
    let none : members_of c.args.self.now.left ≡ [] = ap members_of c.if-self-eq0.true ∙ members_none in (none, none)

pub returns-clause-steps : goal.returns-clause-steps
returns-clause-steps c =
    let s = c.args.self.now.left in
    members_next s (omega arith) c.if-self-eq0.false
    ∙ ap₂ (λ (m : ℕ) (l : ℕ). m ∷ members_of l) (sym c.lowest-member.ensures) (sym c.rest-self.ensures)

pub returns-clause-goes : goal.returns-clause-goes
returns-clause-goes c =
    let s = c.args.self.now.left in
    let fewer = fewer_left s (omega arith) c.if-self-eq0.false in
    record { on = λ f. (tt, tt, rw c.rest-self.ensures fewer); keeps = tt; rests = λ f. tt }
