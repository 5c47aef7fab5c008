-- `stream_lists::no_layer` meets its contract. Assumes nothing.
use Prim.Native.Nat.{ℕ}
use mathlib.Core.Path.{sym, ap, ◌∙◌}
use Rattle.sets.specs.Sets.{without}
use Rattle.stream_lists.proofs.Building.{absent_itself, absent_dependency}
use Rattle.stream_lists.proofs.no_layer.Goals as goal

pub returns-then-not-member : goal.returns-then-not-member
returns-then-not-member c = let a = c.args in absent_itself a.layers a.reference (sym c.member.ensures ∙ c.if-not-member.true)

pub returns : goal.returns
returns c = let a = c.args in absent_dependency a.layers a.reference _ (sym c.member.ensures ∙ c.if-not-member.false) (c.without.ensures ∙ ap (λ (n : ℕ). without n a.layers.present) c.asked.ensures)
