-- From what a function's code found to its whole reply.
-- Assumes nothing.
use Prim.Native.Nat.{ℕ, ◌≤◌, ◌<◌}
use mathlib.Core.Bool.{Bool, true, false, cond, ◌&&◌}
use mathlib.Core.List.{List}
use mathlib.Core.Path.{◌≡◌, refl, sym, ap, ap₂, ◌∙◌}
use native.Mathlib.Omega.{arith}
use borrow.Author.Tests.{eqb-true, eq-eqb, ne_eqb, lt-ltb, le-ltb}
use lib.Dec.{eqb, ltb}
use lib.ListN.{length}
use lib.Seq.{take_all}
use Rattle.combinators.specs.Below.{some}
use Rattle.combinators.specs.Bools.{both_left, both_right, both_ways}
use Rattle.sets.specs.Sets.{size}
use Rattle.vocabulary.specs.declared.refusal.Refusal.TheVariants.{NoRoom, TooWide}
use Rattle.loop_entries.specs.declared.Entry.{Entry}
use Rattle.closure.specs.Answer.{Closure}
use Rattle.entry_rows.specs.Rows.{row_count, row_at, row_too_wide, some_too_wide, entry_in}
use Rattle.layer_set.specs.declared.«set».LayerSet.{LayerSet}
use Rattle.layer_set.specs.declared.changing.Changed.{Changed}
use Rattle.layer_set.specs.Sets.{stored_in, added_to, removed_from, closure_in}
use Rattle.layer_set_rows.specs.Buffers.{set_in, rows_right, rows_hold, stored_holds, holds_set}
use Rattle.c_answers.specs.Answer.{Asked}
use Rattle.c_answers.specs.Answers.{refused, not_a_call, asked_for, Reply, reply, unchanged}
use Rattle.thoquenry_sets.specs.Calls.{set_reply, after_change, read_into, read_set, add_set, remove_set, closure_laid, closure_set}

-- ---- rows that hold

module _ (layers : List ℕ) (held : rows_hold layers ≡ true) where
  held_both : (length layers ≡ 5120) × (some_too_wide layers ≡ false)
  unfolding rows_hold
  held_both = go (eqb (length layers) 5120) refl (some_too_wide layers) refl held
    where
      go : (a : Bool) → eqb (length layers) 5120 ≡ a → (b : Bool) → some_too_wide layers ≡ b → cond a (cond b false (rows_right layers)) false ≡ true
          → (length layers ≡ 5120) × (some_too_wide layers ≡ false)
      go true p true q e = both_ways e refl
      go true p false q e = (eqb-true (length layers) 5120 p, q)
      go false p b q e = both_ways e refl

  pub held_long : length layers ≡ 5120
  held_long = held_both.0

  pub held_narrow : some_too_wide layers ≡ false
  held_narrow = held_both.1

pub stored_long : (layers stored : List ℕ) → holds_set layers stored ≡ true → length stored ≡ 192
unfolding stored_holds
stored_long layers stored e =
    eqb-true (length stored) 192 (both_left (eqb (length stored) 192) _ (both_right (rows_hold layers) (stored_holds (stored_in (set_in layers)) stored) e))

-- ---- whether buffers hold a set, by the two tests

module _ (layers stored : List ℕ) where
  pub no_rows : rows_hold layers ≡ false → holds_set layers stored ≡ false
  no_rows e = ap (λ (b : Bool). b && stored_holds (stored_in (set_in layers)) stored) e

  module _ (rows : rows_hold layers ≡ true) (s : LayerSet) (is_set : s ≡ set_in layers) (right : Bool) (is_right : right ≡ stored_holds (stored_in s) stored) where
    pub tested : {b : Bool} → right ≡ b → holds_set layers stored ≡ b
    tested e = ap₂ ◌&&◌ rows (ap (λ (x : LayerSet). stored_holds (stored_in x) stored) (sym is_set) ∙ sym is_right ∙ e)

-- ---- an entry of 80 numbers

module _ (entry : List ℕ) (long : length entry ≡ 80) where
  own_row : row_at entry 0 ≡ entry
  own_row = take_all 80 entry (omega arith)

  pub one_row : some_too_wide entry ≡ row_too_wide entry
  one_row =
      ap (λ (n : ℕ). some (λ k. row_too_wide (row_at entry k)) n) (let one : row_count entry ≡ 1 = omega arith in one)
      ∙ ap row_too_wide own_row

-- ---- the cases of each function

module _ (layers stored entry : List ℕ) where
  pub add_no_set : holds_set layers stored ≡ false → set_reply not_a_call layers stored ≡ add_set layers stored entry
  unfolding add_set
  add_no_set e = sym (rw e)

  module _ (held : holds_set layers stored ≡ true) where
    pub add_no_entry : (length entry ≡ 80 → ⊥) → set_reply not_a_call layers stored ≡ add_set layers stored entry
    unfolding add_set
    add_no_entry d = sym (rw (held, ne_eqb (length entry) 80 d))

    module _ (long : length entry ≡ 80) where
      pub add_wide : some_too_wide entry ≡ true → set_reply (refused TooWide) layers stored ≡ add_set layers stored entry
      unfolding add_set
      add_wide w = sym (rw (held, eq-eqb (length entry) 80 long, w))

      pub add_changed : some_too_wide entry ≡ false → (s : LayerSet) (e : Entry) (c : Changed) → s ≡ set_in layers → e ≡ entry_in entry → c ≡ added_to s e
          → after_change c layers stored ≡ add_set layers stored entry
      unfolding add_set
      add_changed w s e c is_set is_entry is-changed =
          ap (λ (x : Changed). after_change x layers stored) (is-changed ∙ ap₂ added_to is_set is_entry)
          ∙ sym (rw (held, eq-eqb (length entry) 80 long, w))

module _ (layers stored : List ℕ) (index : ℕ) where
  pub remove_no_set : holds_set layers stored ≡ false → set_reply not_a_call layers stored ≡ remove_set layers stored index
  unfolding remove_set
  remove_no_set e = sym (rw e)

  pub remove_changed : holds_set layers stored ≡ true → (s : LayerSet) (c : Changed) → s ≡ set_in layers → c ≡ removed_from s index
      → after_change c layers stored ≡ remove_set layers stored index
  unfolding remove_set
  remove_changed held s c is_set is-changed =
      ap (λ (x : Changed). after_change x layers stored) (is-changed ∙ ap (λ (x : LayerSet). removed_from x index) is_set) ∙ sym (rw held)

module _ (layers stored : List ℕ) (target : ℕ) (closure : List ℕ) where
  pub closure_no_set : holds_set layers stored ≡ false → reply not_a_call closure ≡ closure_set layers stored target closure
  unfolding closure_set
  closure_no_set e = sym (rw e)

  pub closure_found : holds_set layers stored ≡ true → (s : LayerSet) (found : Closure) → s ≡ set_in layers → found ≡ closure_in s target
      → closure_laid found closure ≡ closure_set layers stored target closure
  unfolding closure_set
  closure_found held s found is_set is_found =
      ap (λ (x : Closure). closure_laid x closure) (is_found ∙ ap (λ (x : LayerSet). closure_in x target) is_set) ∙ sym (rw held)

module _ (reading : ℕ) (bytes layers stored : List ℕ) where
  pub read_no_layers : (length layers ≡ 5120 → ⊥) → set_reply not_a_call layers stored ≡ read_set reading bytes layers stored
  unfolding read_set
  read_no_layers d = sym (rw (ne_eqb (length layers) 5120 d))

  module _ (long : length layers ≡ 5120) where
    pub read_no_stored : (length stored ≡ 192 → ⊥) → set_reply not_a_call layers stored ≡ read_set reading bytes layers stored
    unfolding read_set
    read_no_stored d = sym (rw (eq-eqb (length layers) 5120 long, ne_eqb (length stored) 192 d))

    pub read_asked : length stored ≡ 192 → (asked : Asked) → asked ≡ asked_for reading → read_into asked bytes layers stored ≡ read_set reading bytes layers stored
    unfolding read_set
    read_asked size asked is_asked =
        ap (λ (a : Asked). read_into a bytes layers stored) is_asked ∙ sym (rw (eq-eqb (length layers) 5120 long, eq-eqb (length stored) 192 size))

-- ---- 17, or what there is room for

pub no_room : (closure : List ℕ) (else : Reply) → length closure < 1 → unchanged NoRoom closure ≡ cond (ltb (length closure) 1) (unchanged NoRoom closure) else
no_room closure else h = sym (ap (λ (t : Bool). cond t (unchanged NoRoom closure) else) (lt-ltb (length closure) 1 h))

pub has_room : (closure : List ℕ) (else : Reply) → 1 ≤ length closure → else ≡ cond (ltb (length closure) 1) (unchanged NoRoom closure) else
has_room closure else h = sym (ap (λ (t : Bool). cond t (unchanged NoRoom closure) else) (le-ltb (length closure) 1 h))
