-- The scan as the code does it: one index less at each turn, and the two ways of a turn.
-- Assumes nothing.
use Rattle.std.specs.Prelude.{Err, Ok}
use Prim.Native.Nat.{ℕ, zero, suc, ◌+◌, ◌-◌, ◌*◌, ◌%◌, ◌^◌, ◌≤◌, ◌<◌}
use mathlib.Core.Bool.{Bool, true, false, not, cond, ◌&&◌}
use mathlib.Core.Path.{◌≡◌, refl, sym, ap, ap₂, ◌∙◌, subst}
use native.Mathlib.Nat.{not-suc-le-zero, lt_of_lt_of_le}
use native.Mathlib.Numerals.{add-one}
use native.Mathlib.Omega.{arith}
use borrow.Author.Tests.{lt-ltb, le-ltb}
use lib.ListN.{get_or}
use Rattle.combinators.specs.Below.{some, seek, at_none, some_at}
use Rattle.combinators.proofs.Seeking.{seek_first, first_seek}
use Rattle.sets.specs.Sets.{has, joined, without, below, lowest}
use Rattle.sets.proofs.Laws.{one_shifted, has_none, has_within, has_without, lowest_member, without_within}
use Rattle.vocabulary.specs.declared.refusal.Refusal.TheVariants.{NoSuchLayer, EmbeddedLayerAbsent}
use Rattle.closure.specs.declared.Layers.{Layers}
use Rattle.closure.specs.Closures.{is_layer, named_by, named, following, followed_below, rested_on, lacks, answer_for, closure_of}

-- an index below 64 is a layer's when its bit is 1
pub is_layer_lem : (layers : Layers) (i : ℕ) → i < 64 → is_layer layers i ≡ has layers.present i
is_layer_lem layers i h = ap (λ (b : Bool). b && has layers.present i) (lt-ltb i 64 h)

-- an index from 64 on is no layer's
pub above_63 : (layers : Layers) (i : ℕ) → 64 ≤ i → is_layer layers i ≡ false
above_63 layers i h = ap (λ (b : Bool). b && has layers.present i) (le-ltb i 64 h)

-- what a layer names, by whether the loop has it
pub names_nothing : (here : Bool) (embedded i : ℕ) → here ≡ false → 0 ≡ named_by here embedded i
names_nothing here embedded i h = sym (ap (λ (b : Bool). named_by b embedded i) h)

pub names_lower : (here : Bool) (embedded i : ℕ) → here ≡ true → below embedded i ≡ named_by here embedded i
names_lower here embedded i h = sym (ap (λ (b : Bool). named_by b embedded i) h)

-- where the scan starts: the target alone, with the target itself to be followed first
pub start : (layers : Layers) (target : ℕ) → target < 64 → followed_below layers (target + 1) (1 * 2 ^ target % 2 ^ 64) ≡ rested_on layers target
start layers target h = ap₂ (followed_below layers) (add-one target) (one_shifted 64 target h)

-- where it ends: no index is left
pub end : (layers : Layers) (set left : ℕ) → left ≤ 0 → followed_below layers left set ≡ set
end layers set zero h = refl
end layers set (suc left) h = absurd (not-suc-le-zero h)

module _ (layers : Layers) (set left : ℕ) (some_left : 0 < left) where
  one_less : followed_below layers left set ≡ followed_below layers (left - 1) (following layers set (left - 1))
  one_less = go left (left - 1) (omega arith)
    where
      go : (n m : ℕ) → n ≡ suc m → followed_below layers n set ≡ followed_below layers m (following layers set m)
      go n m e = ap (λ (k : ℕ). followed_below layers k set) e

  -- a turn at a member
  pub at_member : (new : ℕ) → left - 1 < 64 → has set (left - 1) ≡ true
      → new ≡ named_by (has layers.present (left - 1)) (get_or layers.embedded (left - 1) 0) (left - 1)
      → followed_below layers (left - 1) (joined set new) ≡ followed_below layers left set
  at_member new l m e =
      ap (λ (n : ℕ). followed_below layers (left - 1) (joined set n))
      (e ∙ sym (ap (λ (b : Bool). named_by b (get_or layers.embedded (left - 1) 0) (left - 1)) (is_layer_lem layers (left - 1) l)))
      ∙ sym (ap (λ (b : Bool). followed_below layers (left - 1) (cond b (joined set (named layers (left - 1))) set)) m)
      ∙ sym one_less

  -- a turn at an index that is no member
  pub at_other : has set (left - 1) ≡ false → followed_below layers (left - 1) set ≡ followed_below layers left set
  at_other m =
      sym (ap (λ (b : Bool). followed_below layers (left - 1) (cond b (joined set (named layers (left - 1))) set)) m)
      ∙ sym one_less

-- the three cases of the answer
module _ (layers : Layers) (target : ℕ) where
  answer_for_lem : (here : Bool) (set : ℕ) → is_layer layers target ≡ here → set ≡ rested_on layers target
      → answer_for layers here set ≡ closure_of layers target
  answer_for_lem here set h e = ap₂ (answer_for layers) (sym h) e

  pub no_layer_lem : is_layer layers target ≡ false → Err NoSuchLayer ≡ closure_of layers target
  no_layer_lem h = answer_for_lem false (rested_on layers target) h refl

  module _ (set : ℕ) (here : is_layer layers target ≡ true) (rests : set ≡ rested_on layers target) where
    answer : (b : Bool) → some (lacks layers set) 64 ≡ b
        → cond b (Err (EmbeddedLayerAbsent (record { 0 = seek (lacks layers set) 64 }))) (Ok set) ≡ closure_of layers target
    answer b e =
        ap (λ (x : Bool). cond x (Err (EmbeddedLayerAbsent (record { 0 = seek (lacks layers set) 64 }))) (Ok set)) (sym e)
        ∙ answer_for_lem true set here rests

    pub none_missing : some (lacks layers set) 64 ≡ false → Ok set ≡ closure_of layers target
    none_missing = answer false

    pub one_missing : (index : ℕ) → some (lacks layers set) 64 ≡ true → index ≡ seek (lacks layers set) 64
        → Err (EmbeddedLayerAbsent (record { 0 = index })) ≡ closure_of layers target
    one_missing index s e = ap (λ (i : ℕ). Err (EmbeddedLayerAbsent (record { 0 = i }))) e ∙ answer true s

-- what is missing, as a set
module _ (layers : Layers) (set missing : ℕ) (is-missing : missing ≡ without set layers.present) where
  has_missing : (i : ℕ) → i < 64 → has missing i ≡ lacks layers set i
  has_missing i h =
      ap (λ (s : ℕ). has s i) is-missing
      ∙ has_without set layers.present i
      ∙ ap (λ (b : Bool). has set i && not b) (sym (is_layer_lem layers i h))

  pub empty_none_missing : missing ≡ 0 → some (lacks layers set) 64 ≡ false
  empty_none_missing z = at_none (lacks layers set) 64 (λ i h. sym (has_missing i h) ∙ ap (λ (s : ℕ). has s i) z ∙ has_none i)

  pub some_missing : set < 2 ^ 64 → (missing ≡ 0 → ⊥) → some (lacks layers set) 64 ≡ true
  some_missing w not-empty = some_at (lacks layers set) 64 (lowest missing) (has_within 64 within found) (sym (has_missing (lowest missing) (has_within 64 within found)) ∙ found)
    where
      within : missing < 2 ^ 64
      within = subst (λ (s : ℕ). s < 2 ^ 64) (sym is-missing) (without_within 64 set layers.present w)

      found : has missing (lowest missing) ≡ true
      found = lowest_member missing within not-empty

  pub lowest_missing : lowest missing ≡ seek (lacks layers set) 64
  unfolding lowest
  lowest_missing =
      let f = seek_first (has missing) 64 in
      first_seek (lacks layers set) 64 (lowest missing)
      (record {
        within = f.within;
        before = λ j h. sym (has_missing j (lt_of_lt_of_le h f.within)) ∙ f.before j h;
        found = λ h. sym (has_missing (lowest missing) h) ∙ f.found h;
      })
