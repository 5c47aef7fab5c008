-- What Closures computes is what Meaning says, and nothing else is: `closure_meant` and `closure_only`.
-- Assumes nothing.
use Rattle.std.specs.Prelude.{Err, Ok}
use Prim.Native.Nat.{ℕ, ◌^◌, ◌≤◌, ◌<◌}
use mathlib.Core.Bool.{Bool, true, false, not, ◌&&◌, true≢false}
use mathlib.Core.Logic.{◌↔◌}
use mathlib.Core.Path.{◌≡◌, refl, sym, ap, ap₂, ◌∙◌, subst}
use native.Mathlib.Decide.{dec_lt}
use native.Mathlib.Nat.{le_of_lt, lt_of_le_of_lt, lt_irrefl, lt_of_lt_of_le}
use native.Mathlib.Omega.{arith}
use borrow.Author.Tests.{not-true}
use lib.ListN.{get_or}
use Rattle.combinators.specs.Bools.{both_left, both_right, same_test}
use Rattle.combinators.specs.Below.{some, seek, some_at, none_at, at_none}
use Rattle.combinators.proofs.Seeking.{seek_first, seek_inside, first_seek}
use Rattle.sets.specs.Sets.{has}
use Rattle.sets.proofs.Laws.{same_members, has_within}
use Rattle.vocabulary.specs.declared.LayerIndex.{LayerIndex}
use Rattle.vocabulary.specs.declared.refusal.Refusal.TheVariants.{NoSuchLayer, EmbeddedLayerAbsent}
use Rattle.closure.specs.declared.Layers.{Layers}
use Rattle.closure.specs.Answer.{Closure}
use Rattle.closure.specs.Closures.{is_layer, rested_on, lacks, closure_of}
use Rattle.closure.specs.Meaning.{Names, RestsOn, itself, by, Missing, LowestMissing, WholeClosure, Answers, no_such_layer, absent, complete}
use Rattle.closure.proofs.Reached.{layer_below_64, member_rests_on, rests_on_member, rests_on_at_most}
use Rattle.closure.proofs.Scan.{no_layer_lem, none_missing, one_missing}

-- the definition's test for a missing index
abbrev missing_at : Layers → ℕ → ℕ → Bool
missing_at layers target = lacks layers (rested_on layers target)

module _ (layers : Layers) where
  -- ---- what is missing: the test of the definition is what Missing says

  module _ (target : ℕ) where
    lacks_missing : (j : ℕ) → missing_at layers target j ≡ true → Missing layers target j
    lacks_missing j l =
        record {
          rested_on = member_rests_on layers target j (both_left (has (rested_on layers target) j) (not (is_layer layers j)) l);
          not_in_loop = not-true (is_layer layers j) (both_right (has (rested_on layers target) j) (not (is_layer layers j)) l);
        }

    missing_lacks : (j : ℕ) → Missing layers target j → missing_at layers target j ≡ true
    missing_lacks j m =
        ap₂ (λ (a b : Bool). a && not b) (rests_on_member layers target j m.rested_on) m.not_in_loop

    module _ (here : is_layer layers target ≡ true) where
      pub below_64 : (j : ℕ) → RestsOn layers target j → j < 64
      below_64 j r = lt_of_le_of_lt (rests_on_at_most layers target j r) (layer_below_64 layers target here)

      -- ---- the answer where the target is a layer: by whether one is missing

      no_missing : ((j : ℕ) → RestsOn layers target j → is_layer layers j ≡ true) → some (missing_at layers target) 64 ≡ false
      no_missing all = at_none (missing_at layers target) 64 (λ j h. go j (missing_at layers target j) refl)
        where
          go : (j : ℕ) (b : Bool) → missing_at layers target j ≡ b → missing_at layers target j ≡ false
          go j true l = let m = lacks_missing j l in absurd (true≢false (sym (all j m.rested_on) ∙ m.not_in_loop))
          go j false l = l

      all_in_loop : some (missing_at layers target) 64 ≡ false → (j : ℕ) → RestsOn layers target j → is_layer layers j ≡ true
      all_in_loop none j r = go (is_layer layers j) refl
        where
          go : (b : Bool) → is_layer layers j ≡ b → is_layer layers j ≡ true
          go true h = h
          go false h =
              absurd (true≢false (sym (missing_lacks j (record { rested_on = r; not_in_loop = h }))
              ∙ none_at (missing_at layers target) 64 none j (below_64 j r)))

      -- the least of what is missing is where the search stops
      lowest_is_first : (i : ℕ) → LowestMissing layers target i → i ≡ seek (missing_at layers target) 64
      lowest_is_first i m =
          first_seek (missing_at layers target) 64 i
          (record {
            within = le_of_lt (below_64 i m.missing.rested_on);
            before = λ j h. go j h (missing_at layers target j) refl;
            found = λ h. missing_lacks i m.missing;
          })
        where
          go : (j : ℕ) → j < i → (b : Bool) → missing_at layers target j ≡ b → missing_at layers target j ≡ false
          go j h true l = absurd (lt_irrefl j (lt_of_lt_of_le h (m.lowest j (lacks_missing j l))))
          go j h false l = l

      first_is_lowest : some (missing_at layers target) 64 ≡ true → LowestMissing layers target (seek (missing_at layers target) 64)
      first_is_lowest s =
          record {
            missing = lacks_missing (seek (missing_at layers target) 64)
                ((seek_first (missing_at layers target) 64).found (seek_inside (missing_at layers target) 64 s));
            lowest = λ j m. go j m (dec_lt j (seek (missing_at layers target) 64));
          }
        where
          go : (j : ℕ) → Missing layers target j → Dec (j < seek (missing_at layers target) 64) → seek (missing_at layers target) 64 ≤ j
          go j m (yes h) = absurd (true≢false (sym (missing_lacks j m) ∙ (seek_first (missing_at layers target) 64).before j h))
          go j m (no n) = omega arith

      meets_here : (b : Bool) → some (missing_at layers target) 64 ≡ b → Answers layers target (closure_of layers target)
      meets_here true s =
          subst (Answers layers target)
          (one_missing layers target (rested_on layers target) here refl (seek (missing_at layers target) 64) s refl)
          (absent {index = record { 0 = seek (missing_at layers target) 64 }} here (first_is_lowest s))
      meets_here false s =
          subst (Answers layers target) (none_missing layers target (rested_on layers target) here refl s)
          (complete here (record { members = λ j. (member_rests_on layers target j, rests_on_member layers target j); in_loop = all_in_loop s }))

      only_absent : (index : LayerIndex) → LowestMissing layers target index.0 → Err (EmbeddedLayerAbsent index) ≡ closure_of layers target
      only_absent index m =
          one_missing layers target (rested_on layers target) here refl index.0
          (some_at (missing_at layers target) 64 index.0 (below_64 index.0 m.missing.rested_on) (missing_lacks index.0 m.missing))
          (lowest_is_first index.0 m)

      only_complete : (set : ℕ) → WholeClosure layers target set → Ok set ≡ closure_of layers target
      only_complete set w =
          ap Ok (same_members set (rested_on layers target) (λ j. same_test (has set j) (has (rested_on layers target) j)
          (λ m. rests_on_member layers target j ((w.members j).0 m)) (λ m. (w.members j).1 (member_rests_on layers target j m))))
          ∙ none_missing layers target (rested_on layers target) here refl (no_missing w.in_loop)

  -- THE ANSWER: what is computed is right,
  pub closure_meant : (target : ℕ) → Answers layers target (closure_of layers target)
  closure_meant target = go (is_layer layers target) refl
    where
      go : (b : Bool) → is_layer layers target ≡ b → Answers layers target (closure_of layers target)
      go true h = meets_here target h (some (missing_at layers target) 64) refl
      go false h = subst (Answers layers target) (no_layer_lem layers target h) (no_such_layer h)

  -- and nothing else is.
  pub closure_only : (target : ℕ) {answer : Closure} → Answers layers target answer → answer ≡ closure_of layers target
  closure_only target (no_such_layer h) = no_layer_lem layers target h
  closure_only target (absent {index = i} here m) = only_absent target here i m
  closure_only target (complete {set = s} here w) = only_complete target here s w

  -- One answer only.
  pub one_answer : (target : ℕ) {a b : Closure} → Answers layers target a → Answers layers target b → a ≡ b
  one_answer target p q = closure_only target p ∙ sym (closure_only target q)

  -- ---- the same by number: each is given exactly when document 01 says

  module _ (target : ℕ) where
    meant : (answer : Closure) → closure_of layers target ≡ answer → Answers layers target answer
    meant answer e = subst (Answers layers target) e (closure_meant target)

    pub given_11 : (closure_of layers target ≡ Err NoSuchLayer) ↔ (is_layer layers target ≡ false)
    given_11 = (λ e. go (meant (Err NoSuchLayer) e), λ h. sym (closure_only target (no_such_layer h)))
      where
        go : Answers layers target (Err NoSuchLayer) → is_layer layers target ≡ false
        go (no_such_layer h) = h

    pub given_12 : (index : LayerIndex)
        → (closure_of layers target ≡ Err (EmbeddedLayerAbsent index)) ↔ ((is_layer layers target ≡ true) × LowestMissing layers target index.0)
    given_12 index = (λ e. go (meant (Err (EmbeddedLayerAbsent index)) e), λ w. sym (closure_only target (absent w.0 w.1)))
      where
        go : Answers layers target (Err (EmbeddedLayerAbsent index)) → (is_layer layers target ≡ true) × LowestMissing layers target index.0
        go (absent here m) = (here, m)

    pub given_complete : (set : ℕ) → (closure_of layers target ≡ Ok set) ↔ ((is_layer layers target ≡ true) × WholeClosure layers target set)
    given_complete set = (λ e. go (meant (Ok set) e), λ w. sym (closure_only target (complete w.0 w.1)))
      where
        go : Answers layers target (Ok set) → (is_layer layers target ≡ true) × WholeClosure layers target set
        go (complete here w) = (here, w)

    -- What is missing is named by some layer of the closure.
    pub missing_is_named : is_layer layers target ≡ true → (j : ℕ) → Missing layers target j → (i : ℕ) × RestsOn layers target i × Names layers i j
    missing_is_named here j m = go j m.rested_on m.not_in_loop
      where
        go : (j : ℕ) → RestsOn layers target j → is_layer layers j ≡ false → (i : ℕ) × RestsOn layers target i × Names layers i j
        go j itself h = absurd (true≢false (sym here ∙ h))
        go j (by {i = i} r n) h = (i, r, n)

  -- Where every layer's embedded indices are below its own, as in every accepted loop, `Names` asks no more than that j is one of them.
  pub below_its_own : ((i : ℕ) → is_layer layers i ≡ true → get_or layers.embedded i 0 < 2 ^ i)
      → (i j : ℕ) → is_layer layers i ≡ true → has (get_or layers.embedded i 0) j ≡ true → Names layers i j
  below_its_own lower i j here m = record { in_loop = here; embedded = m; lower = has_within i (lower i here) m }
