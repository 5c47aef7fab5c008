-- A set from the values that the code holds, each with its equation.
-- Assumes nothing.
use Prim.Native.Nat.{ℕ, ◌≤◌, ◌<◌}
use mathlib.Core.Bool.{Bool, true, false, cond, ◌&&◌}
use mathlib.Core.List.{List}
use mathlib.Core.Path.{◌≡◌, refl, sym, ap, ◌∙◌}
use borrow.Author.Tests.{lt-ltb, le-ltb}
use lib.Dec.{ltb}
use lib.ListN.{set}
use Rattle.sets.specs.Sets.{has, added, without, only}
use Rattle.vocabulary.specs.declared.refusal.Refusal.{Refusal}
use Rattle.vocabulary.specs.declared.refusal.Refusal.TheVariants.{TooWide, NoSuchLayer}
use Rattle.loop_entries.specs.declared.Entry.{Entry}
use Rattle.loop_entries.specs.Entries.{blank_entry}
use Rattle.loop_faults.specs.Conditions.{refusal_of}
use Rattle.loop_writer.specs.Layout.{too_wide}
use Rattle.kept_closures.specs.declared.Columns.{Columns}
use Rattle.kept_closures.specs.Kept.{layers_by, columns_added, columns_removed}
use Rattle.loop_layers.specs.Layers.{place_of, embedded_in}
use Rattle.layer_set.specs.declared.«set».LayerSet.{LayerSet}
use Rattle.layer_set.specs.Sets.{set_with, stored_in, fault_of, with_layer_of, judged_add, added_to, without_layer_at, removed_from, unchanged, changed}

module _ (s : LayerSet) where
  pub with_parts : (e : Entry) (i names present : ℕ) (embedded : List ℕ) (stored : Columns) → i ≡ place_of e → names ≡ embedded_in e
      → present ≡ added s.layers.present i → embedded ≡ set s.layers.embedded i names
      → stored ≡ columns_added s.layers.present i names (stored_in s)
      → set_with (layers_by present embedded) (set s.entries i e) stored ≡ with_layer_of s e
  with_parts e i names present embedded stored is_index is-names is-present is-embedded is-stored =
      rw (is-stored, is-embedded, is-present, is-names, is_index) refl

  pub without_parts : (i present : ℕ) (embedded : List ℕ) (blank : Entry) (stored : Columns) → blank ≡ blank_entry
      → present ≡ without s.layers.present (only i) → embedded ≡ set s.layers.embedded i 0
      → stored ≡ columns_removed s.layers.present s.layers.embedded i (stored_in s)
      → set_with (layers_by present embedded) (set s.entries i blank) stored ≡ without_layer_at s i
  without_parts i present embedded blank stored is-blank is-present is-embedded is-stored =
      rw (is-stored, is-embedded, is-present, is-blank) refl

  -- ---- the cases of adding

  pub wide_case : (e : Entry) → too_wide e ≡ true → unchanged s TooWide ≡ added_to s e
  unfolding added_to
  wide_case e wide = rw wide refl

  module _ (e : Entry) (narrow : too_wide e ≡ false) (number : ℕ) (is_number : number ≡ fault_of s.layers.present s.entries e) where
    judged_case : judged_add s e number ≡ added_to s e
    unfolding added_to
    judged_case = rw narrow (ap (judged_add s e) is_number)

    pub fault_case : (refusal : Refusal) → refusal ≡ refusal_of number 0 → number < 10 → unchanged s refusal ≡ added_to s e
    fault_case refusal is_refusal h =
        ap (unchanged s) is_refusal
        ∙ sym (ap (λ (b : Bool). cond b (unchanged s (refusal_of number 0)) (changed (with_layer_of s e))) (lt-ltb number 10 h))
        ∙ judged_case

    pub no_fault_case : (after : LayerSet) → after ≡ with_layer_of s e → 10 ≤ number → changed after ≡ added_to s e
    no_fault_case after is_after h =
        ap changed is_after
        ∙ sym (ap (λ (b : Bool). cond b (unchanged s (refusal_of number 0)) (changed (with_layer_of s e))) (le-ltb number 10 h))
        ∙ judged_case

  -- ---- the cases of removing

  pub no_layer_case : (i : ℕ) → ltb i 64 && has s.layers.present i ≡ false → unchanged s NoSuchLayer ≡ removed_from s i
  unfolding removed_from
  no_layer_case i e = sym (ap (λ (b : Bool). cond b (changed (without_layer_at s i)) (unchanged s NoSuchLayer)) e)

  pub removed_case : (i : ℕ) (after : LayerSet) → ltb i 64 && has s.layers.present i ≡ true → after ≡ without_layer_at s i → changed after ≡ removed_from s i
  unfolding removed_from
  removed_case i after e is_after =
      ap changed is_after ∙ sym (ap (λ (b : Bool). cond b (changed (without_layer_at s i)) (unchanged s NoSuchLayer)) e)
