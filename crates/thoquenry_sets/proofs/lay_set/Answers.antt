-- `lay_set` meets its contract: the rows, the stored numbers, and the count.
-- Assumes nothing.
use Prim.Native.Nat.{ℕ}
use mathlib.Core.Path.{ap, ap₂, ◌∙◌}
use Rattle.sets.specs.Sets.{size}
use Rattle.c_answers.specs.Answers.{accepted}
use Rattle.thoquenry_sets.specs.Calls.{set_reply, set_laid}
use Rattle.thoquenry_sets.proofs.lay_set.Goals as goal

pub returns : goal.returns
unfolding set_laid
returns c =
    ap (λ (a : ℕ). set_reply a c.lay_entries.new.rows c.lay_stored.new.stored) (c.accepted.ensures ∙ ap accepted c.size.ensures)
    ∙ ap₂ (set_reply (accepted (size c.args.«set».layers.present))) c.lay_entries.ensures c.lay_stored.ensures
