-- A closure put together from those of the layers that are named, one after another, the lowest first.
-- Assumes nothing.
use Prim.Native.Nat.{ℕ, ◌*◌, ◌%◌, ◌^◌, ◌<◌, ◌≤◌}
use mathlib.Core.Bool.{Bool, true, false, ◌&&◌, ◌||◌, or-false}
use mathlib.Core.List.{List}
use mathlib.Core.Logic.{◌⊎◌, inl, inr}
use mathlib.Core.Path.{◌≡◌, refl, sym, ap, ap₂, ◌∙◌}
use native.Mathlib.Decide.{ℕ_discrete}
use native.Mathlib.Omega.{arith}
use borrow.Author.Tests.{ltb-true, lt-ltb}
use lib.Dec.{eqb, ltb}
use lib.ListN.{get_or}
use Rattle.combinators.specs.Below.{some, some_at, some_which, some_same}
use Rattle.combinators.specs.Bools.{both_left, both_right, either_left, either_right, either_which, same_test}
use Rattle.sets.specs.Sets.{has, joined, only, below, lowest, rest}
use Rattle.sets.proofs.Laws.{has_none, has_joined, has_only, has_below, same_members, below_within, lowest_member, one_shifted}
use Rattle.sets.proofs.Members.{rest_member, rest_all, rest_within}
use Rattle.kept_closures.specs.Kept.{united, closure_over}
use Rattle.kept_closures.proofs.Fresh.{gives, united_has}

-- what is put together so far, and what comes of those that are left
pub record Putting (closures : List ℕ) (index names closure left : ℕ) : Type 0 where
  pub within : left < 2 ^ 64
  pub lower : (j : ℕ) → has left j ≡ true → j < index
  pub same : (m : ℕ) → has closure m || has (united closures left index) m ≡ has (closure_over closures index names) m

module _ (closures : List ℕ) (index names : ℕ) where
  pub putting_start : index < 64 → Putting closures index names (1 * 2 ^ index % 2 ^ 64) (below names index)
  putting_start small =
      record {
        within = below_within 64 names index (omega arith);
        lower = λ j e. ltb-true j index (both_left (ltb j index) (has names j) (sym (has_below names index j) ∙ e));
        same = λ m.
            ap₂ (λ (a b : Bool). a || b) (ap (λ (s : ℕ). has s m) (one_shifted 64 index small))
            (united_has closures (below names index) m index
            ∙ some_same (gives closures (below names index) m) (gives closures names m) index (named m)
            ∙ sym (united_has closures names m index))
            ∙ sym (has_joined (only index) (united closures names index) m);
      }
    where
      named : (m j : ℕ) → j < index → gives closures (below names index) m j ≡ gives closures names m j
      named m j h =
          ap (λ (b : Bool). b && (has (get_or closures j 0) m || eqb m j))
          (has_below names index j ∙ ap (λ (b : Bool). b && has names j) (lt-ltb j index h))

  module _ (closure left : ℕ) (known : Putting closures index names closure left) where
    pub putting_end : left ≡ 0 → closure ≡ closure_over closures index names
    putting_end e =
        same_members closure (closure_over closures index names)
        (λ m. sym (or-false (has closure m)) ∙ ap (λ (b : Bool). has closure m || b) (sym (nothing m)) ∙ known.same m)
      where
        none : (m n : ℕ) → some (gives closures left m) n ≡ some (λ _. false) n
        none m n =
            some_same (gives closures left m) (λ _. false) n
            (λ j h. ap (λ (s : ℕ). has s j && (has (get_or closures j 0) m || eqb m j)) e
            ∙ ap (λ (b : Bool). b && (has (get_or closures j 0) m || eqb m j)) (has_none j))

        empty : (n : ℕ) → some (λ _. false) n ≡ false
        empty Prim.Native.Nat.zero = refl
        empty (Prim.Native.Nat.suc n) = or-false (some (λ _. false) n) ∙ empty n

        nothing : (m : ℕ) → has (united closures left index) m ≡ false
        nothing m = united_has closures left m index ∙ none m index ∙ empty index

    module _ (more : left ≡ 0 → ⊥) (low : ℕ) (is_lowest : low ≡ lowest left) where
      is_left : has left low ≡ true
      is_left = ap (has left) is_lowest ∙ lowest_member left known.within more

      pub low_inside : low < index
      low_inside = known.lower low is_left

      -- what the lowest gives comes first
      taken : (m : ℕ) → has (united closures left index) m ≡ (has (get_or closures low 0) m || eqb m low) || has (united closures (rest left) index) m
      taken m =
          united_has closures left m index
          ∙ same_test (some (gives closures left m) index) _ (λ t. to (some_which (gives closures left m) index t)) (λ t. from (either_which own _ t))
          ∙ ap (λ (b : Bool). own || b) (sym (united_has closures (rest left) m index))
        where
          own : Bool
          own = has (get_or closures low 0) m || eqb m low

          to : (j : ℕ) × (j < index) × (gives closures left m j ≡ true) → own || some (gives closures (rest left) m) index ≡ true
          to (j, h, t) = go (ℕ_discrete j low)
            where
              go : Dec (j ≡ low) → own || some (gives closures (rest left) m) index ≡ true
              go (yes e) = either_left own _ (ap (λ (n : ℕ). has (get_or closures n 0) m || eqb m n) (sym e) ∙ both_right (has left j) _ t)
              go (no n) =
                  either_right own _
                  (some_at (gives closures (rest left) m) index j h
                  (ap₂ (λ (a b : Bool). a && b) (rest_all left j (both_left (has left j) _ t) (λ e. n (e ∙ sym is_lowest))) (both_right (has left j) _ t)))

          from : (own ≡ true) ⊎ (some (gives closures (rest left) m) index ≡ true) → some (gives closures left m) index ≡ true
          from (inl t) = some_at (gives closures left m) index low low_inside (ap₂ (λ (a b : Bool). a && b) is_left t)
          from (inr t) =
              let w = some_which (gives closures (rest left) m) index t in
              some_at (gives closures left m) index w.0 w.1
              (ap₂ (λ (a b : Bool). a && b) (rest_member left w.0 (both_left (has (rest left) w.0) _ w.2)) (both_right (has (rest left) w.0) _ w.2))

      pub putting_next : low < 64 → Putting closures index names (joined closure (joined (get_or closures low 0) (1 * 2 ^ low % 2 ^ 64))) (rest left)
      putting_next small =
          record {
            within = rest_within left known.within;
            lower = λ j e. known.lower j (rest_member left j e);
            same = λ m.
                ap (λ (b : Bool). b || has (united closures (rest left) index) m)
                (has_joined closure (joined (get_or closures low 0) (1 * 2 ^ low % 2 ^ 64)) m
                ∙ ap (λ (b : Bool). has closure m || b)
                (has_joined (get_or closures low 0) (1 * 2 ^ low % 2 ^ 64) m
                ∙ ap (λ (b : Bool). has (get_or closures low 0) m || b) (ap (λ (s : ℕ). has s m) (one_shifted 64 low small) ∙ has_only low m)))
                ∙ or_assoc (has closure m) (has (get_or closures low 0) m || eqb m low) (has (united closures (rest left) index) m)
                ∙ ap (λ (b : Bool). has closure m || b) (sym (taken m))
                ∙ known.same m;
          }
        where
          or_assoc : (a b c : Bool) → (a || b) || c ≡ a || (b || c)
          or_assoc true b c = refl
          or_assoc false b c = refl
