-- WHAT THE FUNCTIONS FOR C LEAVE BEHIND HOLDS A SET, or is what was there.
-- Assumes nothing.
use Rattle.std.specs.Prelude.{Err, None, Ok, Some}
use Prim.Native.Nat.{ℕ, ◌<◌}
use mathlib.Core.Bool.{Bool, true, false, not, cond}
use mathlib.Core.List.{List}
use mathlib.Core.Path.{◌≡◌, refl, sym, ap, ◌∙◌, subst}
use native.Mathlib.Decide.{ℕ_discrete}
use native.Mathlib.Omega.{arith}
use borrow.Author.Tests.{eqb-true}
use lib.Dec.{eqb}
use lib.ListN.{length, set}
use Rattle.combinators.specs.Bools.{both_ways}
use Rattle.combinators.specs.Lists.{Nth, nth_inside, nth_get_d, nth_of_map}
use Rattle.framing.specs.Pieces.{Item, whole, broken, cut}
use Rattle.vocabulary.specs.declared.stream_types.Reading.{Reading}
use Rattle.vocabulary.specs.declared.refusal.Refusal.TheVariants.{TooWide}
use Rattle.loop_entries.specs.declared.Entry.{Entry}
use Rattle.loop_entries.specs.declared.Stream.{Stream}
use Rattle.es_loop.specs.Answer.{Outcome}
use Rattle.loop_entries.specs.Entries.{blank_entry, es_info_length, no_stream, stream_of, marked_stream, pair_of, streams_alone, streams_of, entry_of}
use Rattle.loop_faults.specs.Conditions.{stream_at}
use Rattle.es_loop.specs.Reading.{loop_read}
use Rattle.es_loop.proofs.Verdicts.{Taken, taken}
use Rattle.entry_rows.specs.Rows.{rows_of, some_too_wide, entry_in}
use Rattle.loop_layers.specs.Layers.{place_of}
use Rattle.loop_layers.specs.Closures.{entries_read}
use Rattle.loop_layers.proofs.Meant.{entries_read_lem}
use Rattle.layer_set.specs.declared.«set».LayerSet.{LayerSet}
use Rattle.layer_set.specs.declared.changing.Changed.{Changed}
use Rattle.layer_set.specs.Sets.{stored_in, entry_at, loop_set, added_to, removed_from}
use Rattle.layer_set.specs.Meaning.{At, a_layer, nothing, IsSet}
use Rattle.layer_set.proofs.Keeping.{Added, is_wide, is_refused, is_added, added_case, Removed, is_absent, is_removed, removed_case, add_keeps, remove_keeps, entry_here, entry_other, less_here, less_other}
use Rattle.layer_set.proofs.Meant.{in_set}
use Rattle.layer_set.proofs.Read.{read_is_set, read_layers}
use Rattle.layer_set_rows.specs.Buffers.{stored_numbers, set_in, holds_set}
use Rattle.c_answers.specs.Answer.{Asked}
use Rattle.c_answers.specs.Answers.{not_a_call, asked_for, refused}
use Rattle.thoquenry_sets.specs.Calls.{set_reply, set_laid, changed_laid, after_change, read_into, read_set, add_set, remove_set}
use Rattle.thoquenry_sets.proofs.Replies.{one_row}
use Rattle.held_sets.specs.Meaning.{Laid, LaidOut, Holds, Leaves, untouched, a_set}
use Rattle.held_sets.proofs.Held.{held_meant}
use Rattle.held_sets.proofs.Laid.{good_laid, blank_laid, stream_good, row_good}

-- a set laid into its buffers is held by them
pub laid_holds : (s : LayerSet) → IsSet s → LaidOut s → Holds (rows_of s.entries) (stored_numbers (stored_in s)) s
laid_holds s is laid = record { is_set = is; laid_out = laid; rows = refl; numbers = refl }

-- ---- the set of an accepted loop

module _ (reading : Reading) (bytes : List ℕ) (is_accepted : (loop_read reading bytes).outcome ≡ Ok tt) where
  abbrev streams : List Stream
  streams = streams_of reading bytes

  abbrev pair : Bool
  pair = pair_of (streams_alone reading bytes)

  fine : Taken reading bytes
  fine = taken reading bytes is_accepted

  entry_laid : (k : ℕ) (e : Entry) → Nth (entries_read (loop_read reading bytes)) k e → Laid e
  entry_laid k e n =
      let w = nth_of_map entry_of streams (subst (λ (l : List Entry). Nth l k e) (ap entries_read fine.is_read ∙ entries_read_lem streams) n) in
      let v = nth_of_map (marked_stream pair) (streams_alone reading bytes) w.1 in
      let u = nth_of_map (stream_of reading) (cut 5 es_info_length bytes) v.1 in
      go u.0 (ap (marked_stream pair) u.2 ∙ v.2) w.2 (nth_inside w.1) (nth_get_d no_stream w.1)
    where
      go : (x : Item) {s : Stream} → marked_stream pair (stream_of reading x) ≡ s → entry_of s ≡ e → k < length streams → stream_at streams k ≡ s → Laid e
      go (whole head info) marked is_entry inside at =
          subst Laid (ap entry_of marked ∙ is_entry) (good_laid (entry_of (marked_stream pair (stream_of reading (whole head info)))) (stream_good reading pair head info))
      go broken marked is_entry inside at =
          both_ways (ap (λ (s : Stream). not s.fits) (at ∙ sym marked)) (fine.none 2 k (omega arith) inside)

  pub read_laid : LaidOut (loop_set reading bytes).«set»
  read_laid = record { each = λ i h. go i h ((read_is_set reading bytes is_accepted).at i h) }
    where
      go : (i : ℕ) → i < 64 → At (loop_set reading bytes).«set» i → Laid (entry_at (loop_set reading bytes).«set».entries i)
      go i h (a_layer p st n) =
          let w = (read_layers reading bytes is_accepted i (entry_at (loop_set reading bytes).«set».entries i)).0
          (record { in_set = in_set (loop_set reading bytes).«set» (read_is_set reading bytes is_accepted) i h p; entry = refl }) in
          entry_laid w.place (entry_at (loop_set reading bytes).«set».entries i) w.at_place.entry
      go i h (nothing p q n) = subst Laid (sym q) blank_laid

-- ---- a layer more, and a layer less

pub add_laid : (s : LayerSet) (e : Entry) → IsSet s → LaidOut s → Laid e → LaidOut (added_to s e).«set»
add_laid s e is laid one = go (added_case s e)
  where
    go : {c : Changed} → Added s e c → LaidOut c.«set»
    go (is_wide w) = laid
    go (is_refused w n p h) = laid
    go (is_added w none) = record { each = λ i h. by_index i h (ℕ_discrete i (place_of e)) }
      where
        by_index : (i : ℕ) → i < 64 → Dec (i ≡ place_of e) → Laid (entry_at (set s.entries (place_of e) e) i)
        by_index i h (yes q) = subst Laid (sym (ap (entry_at (set s.entries (place_of e) e)) q ∙ entry_here s is e w none)) one
        by_index i h (no d) = subst Laid (sym (entry_other s is e w none i d)) (laid.each i h)

pub remove_laid : (s : LayerSet) (k : ℕ) → IsSet s → LaidOut s → LaidOut (removed_from s k).«set»
remove_laid s k is laid = go (removed_case s k)
  where
    go : {c : Changed} → Removed s k c → LaidOut c.«set»
    go (is_absent p) = laid
    go (is_removed l p) = record { each = λ i h. by_index i h (ℕ_discrete i k) }
      where
        by_index : (i : ℕ) → i < 64 → Dec (i ≡ k) → Laid (entry_at (set s.entries k blank_entry) i)
        by_index i h (yes q) = subst Laid (sym (ap (entry_at (set s.entries k blank_entry)) q ∙ less_here s is k l p)) blank_laid
        by_index i h (no d) = subst Laid (sym (less_other s is k l p i d)) (laid.each i h)

-- ---- each function

module _ (layers stored : List ℕ) where
  laid_leaves : (s : LayerSet) → IsSet s → LaidOut s → Leaves layers stored (set_laid s)
  unfolding set_laid
  laid_leaves s is laid = a_set s (laid_holds s is laid)

  changed_leaves : (o : Outcome) (s : LayerSet) → (o ≡ Ok tt → IsSet s) → (o ≡ Ok tt → LaidOut s) → Leaves layers stored (changed_laid o s layers stored)
  changed_leaves (Ok tt) s is laid = laid_leaves s (is refl) (laid refl)
  changed_leaves (Err r) s is laid = untouched refl refl

  pub read_leaves : (reading : ℕ) (bytes : List ℕ) → Leaves layers stored (read_set reading bytes layers stored)
  unfolding read_set loop_set
  read_leaves reading bytes = by_length (eqb (length layers) 5120) (eqb (length stored) 192)
    where
      by_reading : (a : Asked) → Leaves layers stored (read_into a bytes layers stored)
      by_reading (Some r) =
          changed_leaves (loop_read r bytes).outcome (loop_set r bytes).«set» (λ e. read_is_set r bytes e) (λ e. read_laid r bytes e)
      by_reading None = untouched refl refl

      by_length : (a b : Bool)
          → Leaves layers stored (cond a (cond b (read_into (asked_for reading) bytes layers stored) (set_reply not_a_call layers stored)) (set_reply not_a_call layers stored))
      by_length true true = by_reading (asked_for reading)
      by_length true false = untouched refl refl
      by_length false b = untouched refl refl

  module _ (held : holds_set layers stored ≡ true) where
    there : Holds layers stored (set_in layers)
    there = held_meant layers stored held

    kept_change : (c : Changed) → IsSet c.«set» → LaidOut c.«set» → Leaves layers stored (after_change c layers stored)
    kept_change c is laid = changed_leaves c.outcome c.«set» (λ e. is) (λ e. laid)

  pub remove_leaves : (index : ℕ) → Leaves layers stored (remove_set layers stored index)
  unfolding remove_set
  remove_leaves index = go (holds_set layers stored) refl
    where
      go : (b : Bool) → holds_set layers stored ≡ b → Leaves layers stored (cond b (after_change (removed_from (set_in layers) index) layers stored) (set_reply not_a_call layers stored))
      go true e =
          kept_change e (removed_from (set_in layers) index) (remove_keeps (set_in layers) index (there e).is_set)
          (remove_laid (set_in layers) index (there e).is_set (there e).laid_out)
      go false e = untouched refl refl

  pub add_leaves : (entry : List ℕ) → Leaves layers stored (add_set layers stored entry)
  unfolding add_set
  add_leaves entry = go (holds_set layers stored) refl (eqb (length entry) 80) refl (some_too_wide entry) refl
    where
      go : (a : Bool) → holds_set layers stored ≡ a → (b : Bool) → eqb (length entry) 80 ≡ b → (c : Bool) → some_too_wide entry ≡ c
          → Leaves layers stored
          (cond a (cond b (cond c (set_reply (refused TooWide) layers stored) (after_change (added_to (set_in layers) (entry_in entry)) layers stored)) (set_reply not_a_call layers stored)) (set_reply not_a_call layers stored))
      go true e true f true g = untouched refl refl
      go true e true f false g =
          let long : length entry ≡ 80 = eqb-true (length entry) 80 f in
          kept_change e (added_to (set_in layers) (entry_in entry)) (add_keeps (set_in layers) (entry_in entry) (there e).is_set)
          (add_laid (set_in layers) (entry_in entry) (there e).is_set (there e).laid_out
          (good_laid (entry_in entry) (row_good entry (omega arith) (sym (one_row entry long) ∙ g))))
      go true e false f c g = untouched refl refl
      go false e b f c g = untouched refl refl
