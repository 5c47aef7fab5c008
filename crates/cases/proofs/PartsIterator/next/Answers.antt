-- `Parts::next` meets its contract: it gives the first part of what is left, and what it leaves has one part less.
-- Assumes nothing.
use Rattle.std.proofs.Common.{rules, ◌-◌, ◌≡◌, ◌<◌, ◌∷◌, length, take}
use lib.ListN.{drop}
use Rattle.cases.specs.Parts.{parts_of}
use Rattle.cases.proofs.Cuts.{first_then_rest, fewer_parts}
use Rattle.cases.proofs.PartsIterator.next.Goals as goal

given : (c : goal.After-self-2-1) → let text = c.args.self.now.rest.now in let mark = c.args.self.now.mark in
    parts_of mark text ≡ take c.first_part-part.result.size text ∷ parts_of mark (take (length text - c.first_part-part.result.step) (drop c.first_part-part.result.step text))
given c =
    let some : 0 < length c.args.self.now.rest.now = search rules in
    first_then_rest c.args.self.now.mark c.args.self.now.rest.now c.first_part-part.result.size c.first_part-part.result.step some c.first_part-part.ensures.size_value c.first_part-part.ensures.step_value

pub returns-clause-steps : goal.returns-clause-steps
returns-clause-steps c = given c

pub returns-clause-goes : goal.returns-clause-goes
returns-clause-goes c = record { on = λ f. (tt, tt, fewer_parts _ _ _ (given c)); keeps = tt; rests = λ f. tt }
