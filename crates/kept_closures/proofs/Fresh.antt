-- A closure put together from what is kept is the one that would be worked out afresh; and what is worked out afresh after a layer was added.
-- Assumes nothing.
use Prim.Native.Nat.{ℕ, zero, suc, ◌<◌, ◌≤◌}
use mathlib.Core.Bool.{Bool, true, false, not, cond, ◌&&◌, ◌||◌}
use mathlib.Core.List.{List}
use mathlib.Core.Logic.{◌⊎◌, inl, inr, ◌≢◌}
use mathlib.Core.Path.{◌≡◌, refl, sym, ap, ap₂, ◌∙◌, subst}
use native.Mathlib.Omega.{arith}
use native.Mathlib.Decide.{ℕ_discrete}
use borrow.Author.Tests.{eqb-true, eq-eqb, ne_eqb, lt-ltb}
use lib.Dec.{eqb}
use lib.ListN.{length, get_or}
use lib.Seq.{get_or-set_same}
use Rattle.combinators.specs.Bools.{both_left, both_right, either_left, either_right, either_which, both_ways, same_test, false_unless}
use Rattle.combinators.specs.Below.{some, some_at, some_which, some_same}
use Rattle.sets.specs.Sets.{has, joined, only, without}
use Rattle.sets.proofs.Laws.{has_none, has_joined, has_only, has_without, same_members}
use Rattle.closure.specs.declared.Layers.{Layers}
use Rattle.closure.specs.Closures.{is_layer, rested_on}
use Rattle.closure.specs.Meaning.{RestsOn, itself}
use Rattle.closure.proofs.Reached.{member_rests_on, rests_on_member, rests_on_at_most}
use Rattle.kept_closures.specs.Kept.{fresh_of, lacks_one, with_layer, united, closure_over}
use Rattle.kept_closures.proofs.Resting.{First, none, named, rests_first, first_rests, Now, before, through, rests_now, now_rests, is_there, still_layer, was_layer}

-- ---- what is put together

module _ (kept : List ℕ) (names m : ℕ) where
  abbrev pub closure_at : ℕ → ℕ
  closure_at j = get_or kept j 0

  abbrev pub gives : ℕ → Bool
  gives j = has names j && (has (closure_at j) m || eqb m j)

  pub united_has : (n : ℕ) → has (united kept names n) m ≡ some gives n
  united_has zero = has_none m
  united_has (suc j) = go (has names j) (united_has j)
    where
      nothing : (b : Bool) → b ≡ b || false
      nothing true = refl
      nothing false = refl

      go : (b : Bool) → has (united kept names j) m ≡ some gives j
          → has (cond b (joined (united kept names j) (joined (closure_at j) (only j))) (united kept names j)) m
          ≡ some gives j || b && (has (closure_at j) m || eqb m j)
      go true lower =
          has_joined (united kept names j) (joined (closure_at j) (only j)) m
          ∙ ap₂ ◌||◌ lower (has_joined (closure_at j) (only j) m ∙ ap (λ (b : Bool). has (closure_at j) m || b) (has_only j m))
      go false lower = lower ∙ nothing (some gives j)

-- ---- what is kept of an index, and the index itself

module _ (layers : Layers) where
  -- an index that no layer has rests on itself alone
  alone : {j m : ℕ} → is_layer layers j ≡ false → RestsOn layers j m → m ≡ j
  alone {j} {m} absent-there r = go (rests_first layers r)
    where
      go : First layers j m → m ≡ j
      go (none e) = sym e
      go (named n s) = both_ways n.in_loop absent-there

  pub fresh_has : (j m : ℕ) → has (fresh_of layers j) m || eqb m j ≡ has (rested_on layers j) m
  fresh_has j m = go (is_layer layers j) refl
    where
      own : (b : Bool) → b ≡ eqb m j → b ≡ true → has (rested_on layers j) m ≡ true
      own b e t = rests_on_member layers j m (subst (RestsOn layers j) (sym (eqb-true m j (sym e ∙ t))) itself)

      go : (b : Bool) → is_layer layers j ≡ b
          → has (cond b (rested_on layers j) 0) m || eqb m j ≡ has (rested_on layers j) m
      go true e =
          same_test (has (rested_on layers j) m || eqb m j) (has (rested_on layers j) m)
          (λ t. which (either_which (has (rested_on layers j) m) (eqb m j) t))
          (λ t. either_left (has (rested_on layers j) m) (eqb m j) t)
        where
          which : (has (rested_on layers j) m ≡ true) ⊎ (eqb m j ≡ true) → has (rested_on layers j) m ≡ true
          which (inl t) = t
          which (inr t) = own (eqb m j) refl t
      go false e =
          same_test (has 0 m || eqb m j) (has (rested_on layers j) m)
          (λ t. which (either_which (has 0 m) (eqb m j) t))
          (λ t. either_right (has 0 m) (eqb m j) (eq-eqb m j (alone e (member_rests_on layers j m t))))
        where
          which : (has 0 m ≡ true) ⊎ (eqb m j ≡ true) → has (rested_on layers j) m ≡ true
          which (inl t) = both_ways t (has_none m)
          which (inr t) = own (eqb m j) refl t

  -- THE CLOSURE of a layer from what is kept of those below it
  module _ (kept : List ℕ) (k : ℕ) (here : is_layer layers k ≡ true)
      (fresh : (j : ℕ) → j < k → get_or kept j 0 ≡ fresh_of layers j) where
    abbrev names : ℕ
    names = get_or layers.embedded k 0

    below_test : (m j : ℕ) → j < k → gives kept names m j ≡ has names j && has (rested_on layers j) m
    below_test m j h =
        ap (λ (b : Bool). has names j && b)
        (ap (λ (x : ℕ). has x m || eqb m j) (fresh j h) ∙ fresh_has j m)

    rests_test : (m : ℕ) → has (closure_over kept k names) m ≡ eqb m k || some (λ j. has names j && has (rested_on layers j) m) k
    rests_test m =
        has_joined (only k) (united kept names k) m
        ∙ ap₂ ◌||◌ (has_only k m) (united_has kept names m k ∙ some_same (gives kept names m) (λ j. has names j && has (rested_on layers j) m) k (below_test m))

    pub put_together : closure_over kept k names ≡ rested_on layers k
    put_together = same_members (closure_over kept k names) (rested_on layers k) (λ m. same_test _ _ (to m) (from m))
      where
        to : (m : ℕ) → has (closure_over kept k names) m ≡ true → has (rested_on layers k) m ≡ true
        to m t = rests_on_member layers k m (go (either_which (eqb m k) (some (λ j. has names j && has (rested_on layers j) m) k) (sym (rests_test m) ∙ t)))
          where
            go : (eqb m k ≡ true) ⊎ (some (λ j. has names j && has (rested_on layers j) m) k ≡ true) → RestsOn layers k m
            go (inl e) = subst (RestsOn layers k) (sym (eqb-true m k e)) itself
            go (inr e) =
                let w = some_which (λ j. has names j && has (rested_on layers j) m) k e in
                first_rests layers
                (named (record { in_loop = here; embedded = both_left (has names w.0) (has (rested_on layers w.0) m) w.2; lower = w.1 })
                (member_rests_on layers w.0 m (both_right (has names w.0) (has (rested_on layers w.0) m) w.2)))

        from : (m : ℕ) → has (rested_on layers k) m ≡ true → has (closure_over kept k names) m ≡ true
        from m t = rests_test m ∙ go (rests_first layers (member_rests_on layers k m t))
          where
            go : First layers k m → eqb m k || some (λ j. has names j && has (rested_on layers j) m) k ≡ true
            go (none e) = either_left (eqb m k) _ (eq-eqb m k (sym e))
            go (named {j} n r) =
                either_right (eqb m k) _
                (some_at (λ j. has names j && has (rested_on layers j) m) k j n.lower (ap₂ ◌&&◌ n.embedded (rests_on_member layers j m r)))

-- nothing rests on what is above it
pub not_above : (layers : Layers) (k i : ℕ) → k < i → has (rested_on layers k) i ≡ false
not_above layers k i h =
    false_unless (has (rested_on layers k) i)
    (λ t. let at_most : i ≤ k = rests_on_at_most layers k i (member_rests_on layers k i t) in absurd (omega arith))

-- ---- after a layer was added

module _ (layers : Layers) (i names : ℕ) (room : i < length layers.embedded) (small : i < 64) (new : is_layer layers i ≡ false) where
  abbrev after : Layers
  after = with_layer layers i names

  -- what a layer rests on, where it does not rest on the new index
  pub same_closure : (k : ℕ) → has (rested_on layers k) i ≡ false → rested_on after k ≡ rested_on layers k
  same_closure k apart_from = same_members (rested_on after k) (rested_on layers k) (λ m. same_test _ _ (to m) (from m))
    where
      to : (m : ℕ) → has (rested_on after k) m ≡ true → has (rested_on layers k) m ≡ true
      to m t = go (rests_now layers i names room small new (member_rests_on after k m t))
        where
          go : Now layers i names room small new k m → has (rested_on layers k) m ≡ true
          go (before r) = rests_on_member layers k m r
          go (through r s) = both_ways (rests_on_member layers k i r) apart_from

      from : (m : ℕ) → has (rested_on layers k) m ≡ true → has (rested_on after k) m ≡ true
      from m t = rests_on_member after k m (now_rests layers i names room small new (before (member_rests_on layers k m t)))

  -- and where it does: what the new layer rests on comes to it
  pub more_closure : (k : ℕ) → has (rested_on layers k) i ≡ true → rested_on after k ≡ joined (rested_on layers k) (rested_on after i)
  more_closure k there = same_members (rested_on after k) (joined (rested_on layers k) (rested_on after i)) (λ m. same_test _ _ (to m) (from m))
    where
      to : (m : ℕ) → has (rested_on after k) m ≡ true → has (joined (rested_on layers k) (rested_on after i)) m ≡ true
      to m t = has_joined (rested_on layers k) (rested_on after i) m ∙ go (rests_now layers i names room small new (member_rests_on after k m t))
        where
          go : Now layers i names room small new k m → has (rested_on layers k) m || has (rested_on after i) m ≡ true
          go (before r) = either_left (has (rested_on layers k) m) (has (rested_on after i) m) (rests_on_member layers k m r)
          go (through r s) = either_right (has (rested_on layers k) m) (has (rested_on after i) m) (rests_on_member after i m s)

      from : (m : ℕ) → has (joined (rested_on layers k) (rested_on after i)) m ≡ true → has (rested_on after k) m ≡ true
      from m t =
          rests_on_member after k m
          (go (either_which (has (rested_on layers k) m) (has (rested_on after i) m) (sym (has_joined (rested_on layers k) (rested_on after i) m) ∙ t)))
        where
          go : (has (rested_on layers k) m ≡ true) ⊎ (has (rested_on after i) m ≡ true) → RestsOn after k m
          go (inl r) = now_rests layers i names room small new (before (member_rests_on layers k m r))
          go (inr r) = now_rests layers i names room small new (through (member_rests_on layers k i there) (member_rests_on after i m r))

  added_other : (m : ℕ) → m ≢ i → has after.present m ≡ has layers.present m
  added_other m d =
      ap (λ (b : Bool). has (cond b (joined layers.present (only i)) layers.present) m) (lt-ltb i 64 small)
      ∙ has_joined layers.present (only i) m
      ∙ ap (λ (b : Bool). has layers.present m || b) (has_only i m ∙ ne_eqb m i d)
      ∙ nothing (has layers.present m)
    where
      nothing : (b : Bool) → b || false ≡ b
      nothing true = refl
      nothing false = refl

  -- whether one is absent, where the new index is not in the closure
  pub same_absent : (closure : ℕ) → has closure i ≡ false → lacks_one after.present closure ≡ lacks_one layers.present closure
  same_absent closure apart_from =
      ap (λ (s : ℕ). not (eqb s 0)) (same_members (without closure after.present) (without closure layers.present) each)
    where
      each : (m : ℕ) → has (without closure after.present) m ≡ has (without closure layers.present) m
      each m =
          has_without closure after.present m
          ∙ go (has closure m) refl (ℕ_discrete m i)
          ∙ sym (has_without closure layers.present m)
        where
          go : (b : Bool) → has closure m ≡ b → Dec (m ≡ i) → b && not (has after.present m) ≡ b && not (has layers.present m)
          go false e d = refl
          go true e (yes same) = both_ways (sym (ap (has closure) same) ∙ e) apart_from
          go true e (no d) = ap not (added_other m d)

  -- WHAT IS WORKED OUT AFRESH of each index
  same_layer : (k : ℕ) → k ≢ i → is_layer after k ≡ is_layer layers k
  same_layer k d = same_test (is_layer after k) (is_layer layers k) (was_layer layers i names room small new k d) (still_layer layers i names room small new k)

  pub fresh_same : (k : ℕ) → k ≢ i → has (fresh_of layers k) i ≡ false → fresh_of after k ≡ fresh_of layers k
  fresh_same k d apart_from = go (is_layer layers k) refl
    where
      go : (b : Bool) → is_layer layers k ≡ b → fresh_of after k ≡ fresh_of layers k
      go true e =
          let apart : has (rested_on layers k) i ≡ false =
          ap (λ (b : Bool). has (cond b (rested_on layers k) 0) i) (sym e) ∙ apart_from in
          ap (λ (b : Bool). cond b (rested_on after k) 0) (same_layer k d ∙ e)
          ∙ same_closure k apart
          ∙ ap (λ (b : Bool). cond b (rested_on layers k) 0) (sym e)
      go false e =
          ap (λ (b : Bool). cond b (rested_on after k) 0) (same_layer k d ∙ e)
          ∙ ap (λ (b : Bool). cond b (rested_on layers k) 0) (sym e)

  -- of a layer that rests on the new one
  pub fresh_more : (k : ℕ) → k ≢ i → has (fresh_of layers k) i ≡ true
      → fresh_of after k ≡ joined (fresh_of layers k) (rested_on after i)
  fresh_more k d there = go (is_layer layers k) refl
    where
      go : (b : Bool) → is_layer layers k ≡ b → fresh_of after k ≡ joined (fresh_of layers k) (rested_on after i)
      go true e =
          let kept : rested_on layers k ≡ fresh_of layers k =
          ap (λ (b : Bool). cond b (rested_on layers k) 0) (sym e) in
          ap (λ (b : Bool). cond b (rested_on after k) 0) (same_layer k d ∙ e)
          ∙ more_closure k (ap (λ (s : ℕ). has s i) kept ∙ there)
          ∙ ap (λ (s : ℕ). joined s (rested_on after i)) kept
      go false e =
          both_ways (sym (ap (λ (b : Bool). has (cond b (rested_on layers k) 0) i) e) ∙ there) (has_none i)

  -- of the new layer
  pub fresh_own : (kept : List ℕ) → ((j : ℕ) → j < i → get_or kept j 0 ≡ fresh_of layers j)
      → fresh_of after i ≡ closure_over kept i names
  fresh_own kept fresh =
      ap (λ (b : Bool). cond b (rested_on after i) 0) (is_there layers i names room small new)
      ∙ sym (put_together after kept i (is_there layers i names room small new) below)
      ∙ ap (closure_over kept i) (get_or-set_same layers.embedded i names 0 room)
    where
      below : (j : ℕ) → j < i → get_or kept j 0 ≡ fresh_of after j
      below j h = fresh j h ∙ sym (fresh_same j (λ e. omega arith) (no_rest (is_layer layers j) refl))
        where
          no_rest : (b : Bool) → is_layer layers j ≡ b → has (fresh_of layers j) i ≡ false
          no_rest true e =
              ap (λ (b : Bool). has (cond b (rested_on layers j) 0) i) e ∙ not_above layers j i h
          no_rest false e =
              ap (λ (b : Bool). has (cond b (rested_on layers j) 0) i) e ∙ has_none i

  pub rested_own : (kept : List ℕ) → ((j : ℕ) → j < i → get_or kept j 0 ≡ fresh_of layers j) → rested_on after i ≡ closure_over kept i names
  rested_own kept fresh =
      ap (λ (b : Bool). cond b (rested_on after i) 0) (sym (is_there layers i names room small new)) ∙ fresh_own kept fresh
