-- What the whole import leaves for C, where the number of places is written otherwise.
-- Assumes nothing.
use Prim.Native.Nat.{ℕ}
use mathlib.Core.List.{List}
use mathlib.Core.Path.{◌≡◌, ap, ◌∙◌}
use lib.IntN.{ℤ}
use Rattle.unit_lists.specs.Sequence.{Lists, lists}
use Rattle.summed_joins.specs.Replies.{import_placed}

pub placed_are : (bytes : List ℕ) (target : ℕ) (packets numbers : List ℕ) (lags : List ℤ) (sizes summary : List ℕ) (n m : ℕ) {r : ℕ} {new : Lists} {sum : List ℕ} → n ≡ m
    → r ≡ (import_placed n bytes target packets (lists numbers lags sizes) summary).answer → new ≡ (import_placed n bytes target packets (lists numbers lags sizes) summary).after
    → sum ≡ (import_placed n bytes target packets (lists numbers lags sizes) summary).summary
    → (r ≡ (import_placed m bytes target packets (lists numbers lags sizes) summary).answer)
    × ((new ≡ (import_placed m bytes target packets (lists numbers lags sizes) summary).after) × (sum ≡ (import_placed m bytes target packets (lists numbers lags sizes) summary).summary))
placed_are bytes target packets numbers lags sizes summary n m same a l s = (
  a ∙ ap (λ (k : ℕ). (import_placed k bytes target packets (lists numbers lags sizes) summary).answer) same,
  (
    l ∙ ap (λ (k : ℕ). (import_placed k bytes target packets (lists numbers lags sizes) summary).after) same,
    s ∙ ap (λ (k : ℕ). (import_placed k bytes target packets (lists numbers lags sizes) summary).summary) same,
  ),
)
