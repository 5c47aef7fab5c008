-- What the layers of a closure rest on is what they rest on among themselves: whatever one of them names is one of them.
-- Assumes nothing.
use Prim.Native.Nat.{ℕ, ◌<◌}
use mathlib.Core.Bool.{Bool, true, false, cond, ◌&&◌}
use mathlib.Core.Path.{◌≡◌, refl, sym, ap, ap₂, ◌∙◌}
use borrow.Author.Tests.{lt-ltb}
use lib.Dec.{ltb}
use Rattle.combinators.specs.Bools.{both_right, same_test}
use Rattle.combinators.specs.Each.{each_below, length_each, each_at, each_only}
use Rattle.sets.specs.Sets.{has}
use Rattle.sets.proofs.Laws.{same_members}
use Rattle.closure.specs.declared.Layers.{Layers}
use Rattle.closure.specs.Closures.{is_layer, rested_on}
use Rattle.closure.specs.Meaning.{Names, RestsOn, itself, by}
use Rattle.closure.proofs.Reached.{layer_below_64, member_rests_on, rests_on_member}
use Rattle.kept_closures.specs.Kept.{layers_by, fresh_of}
use Rattle.heads.specs.Orderly.{Closed}
use Rattle.join_answers.specs.Joining.{own_set}

module _ (layers : Layers) (target closure : ℕ) (closed : Closed layers target closure) where
  -- the layers of the closure alone
  abbrev among : Layers
  among = layers_by closure layers.embedded

  is_one : (i : ℕ) → has closure i ≡ true → is_layer layers i ≡ true
  is_one i m = closed.whole.in_loop i ((closed.whole.members i).0 m)

  named_too : (i j : ℕ) → has closure i ≡ true → Names layers i j → has closure j ≡ true
  named_too i j m n = (closed.whole.members j).1 (by ((closed.whole.members i).0 m) n)

  layer_among : (i : ℕ) → has closure i ≡ true → is_layer among i ≡ true
  layer_among i m = ap₂ (λ (a b : Bool). a && b) (lt-ltb i 64 (layer_below_64 layers i (is_one i m))) m

  in_closure : (i : ℕ) → is_layer among i ≡ true → has closure i ≡ true
  in_closure i e = both_right (ltb i 64) (has closure i) e

  of_all : {i j : ℕ} → RestsOn among i j → RestsOn layers i j
  of_all itself = itself
  of_all (by {i = k} r n) = by (of_all r) (record { in_loop = is_one k (in_closure k n.in_loop); embedded = n.embedded; lower = n.lower })

  of_these : {i j : ℕ} → has closure i ≡ true → RestsOn layers i j → RestsOn among i j × (has closure j ≡ true)
  of_these m itself = (itself, m)
  of_these m (by {i = k} {j = j} r n) =
      let w = of_these m r in
      (by w.0 (record { in_loop = layer_among k w.1; embedded = n.embedded; lower = n.lower }), named_too k j w.1 n)

  same_rest : (i : ℕ) → has closure i ≡ true → rested_on among i ≡ rested_on layers i
  same_rest i m =
      same_members (rested_on among i) (rested_on layers i)
      (λ j. same_test (has (rested_on among i) j) (has (rested_on layers i) j)
      (λ e. rests_on_member layers i j (of_all (member_rests_on among i j e)))
      (λ e. rests_on_member among i j (of_these m (member_rests_on layers i j e)).0))

  pub own_is : each_below (fresh_of among) 64 ≡ each_below (own_set layers closure) 64
  own_is = each_only (own_set layers closure) (each_below (fresh_of among) 64) 64 0 (length_each (fresh_of among) 64) (λ i h. each_at (fresh_of among) 64 i 0 h ∙ here i h (has closure i) refl)
    where
      here : (i : ℕ) → i < 64 → (b : Bool) → has closure i ≡ b → fresh_of among i ≡ own_set layers closure i
      here i h true m =
          ap (λ (b : Bool). cond b (rested_on among i) 0) (layer_among i m)
          ∙ same_rest i m
          ∙ ap (λ (b : Bool). cond b (rested_on layers i) 0) (sym m)
      here i h false m =
          ap (λ (b : Bool). cond b (rested_on among i) 0) (ap₂ (λ (a b : Bool). a && b) (lt-ltb i 64 h) m)
          ∙ ap (λ (b : Bool). cond b (rested_on layers i) 0) (sym m)
