-- `packet_states::put_counts` meets its contract: the ends from the front on, the numbers behind them. Assumes nothing.
use Prim.Native.Nat.{ℕ}
use mathlib.Core.List.{List, [], ◌∷◌, ◌++◌}
use mathlib.Core.Path.{ap₂, ◌∙◌}
use Rattle.packet_states.proofs.Copies.{both_stored}
use Rattle.packet_states.proofs.put_counts.Goals as goal

pub returns : goal.returns
returns c =
    let a = c.args in
    let p = a.progress in
    both_stored a.ends.now
    (p.part ∷ p.number ∷ c.from.result ∷ p.found.fault.packet ∷ c.from-2.result ∷ p.found.refusal.packet ∷ p.found.rows ∷ a.no_room ∷ [])
    a.counts.now c.requires.0 c.requires.1 c.put_ends.ensures c.put_numbers.ensures
    ∙ ap₂
    (λ (fault refusal : ℕ). a.ends.now
    ++ (p.part ∷ p.number ∷ fault ∷ p.found.fault.packet ∷ refusal ∷ p.found.refusal.packet ∷ p.found.rows ∷ a.no_room ∷ []))
    c.from.ensures c.from-2.ensures
