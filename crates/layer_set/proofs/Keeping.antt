-- EVERY CALL KEEPS THE INVARIANT: the set after adding, after removing, and after any sequence of the two.
-- Assumes nothing.
use Prim.Native.Nat.{ℕ, ◌≤◌, ◌<◌}
use mathlib.Core.Bool.{Bool, true, false, not, cond, ◌&&◌, ◌||◌}
use mathlib.Core.List.{List, [], ◌∷◌}
use mathlib.Core.Logic.{◌≢◌}
use mathlib.Core.Path.{◌≡◌, refl, sym, ap, ap₂, ◌∙◌, subst}
use native.Mathlib.Decide.{ℕ_discrete}
use borrow.Author.Tests.{eq-eqb, ne_eqb, lt-ltb, ltb-true, ltb-false}
use lib.Dec.{eqb, ltb}
use lib.ListN.{length, length-set}
use lib.Seq.{get_or-set_same, get_or-set_other}
use Rattle.combinators.specs.Below.{none_at}
use Rattle.combinators.specs.Bools.{both_left, both_right, both_ways, either_right}
use Rattle.sets.specs.Sets.{has, only}
use Rattle.sets.proofs.Laws.{has_added, has_without, has_only, added_within, without_within}
use Rattle.vocabulary.specs.declared.refusal.Refusal.TheVariants.{TooWide, NoSuchLayer}
use Rattle.records.specs.declared.Record.{Record}
use Rattle.records.specs.declared.Record.TheVariants.{NoRecord, Hierarchy, Extension, Implied}
use Rattle.records.specs.Records.{is_layer, index_of}
use Rattle.judging.specs.Judging.{type_not_allowed}
use Rattle.judging.specs.Meaning.{has_descriptor}
use Rattle.loop_entries.specs.declared.Entry.{Entry}
use Rattle.loop_entries.specs.Entries.{blank_entry}
use Rattle.loop_faults.specs.Conditions.{slot_of, refusal_of}
use Rattle.loop_writer.specs.Layout.{too_wide}
use Rattle.closure.specs.Closures.{is_layer as in_layers}
use Rattle.kept_closures.proofs.Steps.{added_kept}
use Rattle.kept_closures.proofs.Less.{removed_kept}
use Rattle.loop_layers.specs.Layers.{place_of, embedded_in}
use Rattle.layer_set.specs.declared.«set».LayerSet.{LayerSet}
use Rattle.layer_set.specs.declared.changing.Changed.{Changed}
use Rattle.layer_set.specs.Sets.{stored_in, entry_at, no_entry, held_at, pid_held, fault_of, unchanged, changed, with_layer_of, added_to, without_layer_at, removed_from}
use Rattle.layer_set.specs.Meaning.{Stands, At, a_layer, nothing, IsSet, Change, adding, removing, after, after_all}
use Rattle.layer_set.proofs.Judged.{pid_new, allowed, right_flags, index_new, right_list, described, place_small}
use Rattle.layer_set.proofs.Stored.{kept_stored, set_kept}

-- a record with a descriptor is a layer, stands at its index, and is judged alike whatever the mark
descriptor_layer : (r : Record) → has_descriptor r ≡ true → is_layer r ≡ true
descriptor_layer NoRecord d = both_ways d refl
descriptor_layer (Hierarchy h) d = refl
descriptor_layer (Extension x) d = refl
descriptor_layer Implied d = both_ways d refl

judged_alike : (a b : Bool) (t : ℕ) (r : Record) → has_descriptor r ≡ true → type_not_allowed a t r ≡ type_not_allowed b t r
judged_alike a b t NoRecord d = both_ways d refl
judged_alike a b t (Hierarchy h) d = refl
judged_alike a b t (Extension x) d = refl
judged_alike a b t Implied d = both_ways d refl

stands_there : (t : ℕ) (r : Record) → is_layer r ≡ true → index_of t r ≡ slot_of t r
stands_there t r l = sym (ap (λ (b : Bool). cond b (index_of t r) 256) l)

-- ---- a layer more

module _ (s : LayerSet) (is : IsSet s) (e : Entry) (narrow : too_wide e ≡ false) (none : 10 ≤ fault_of s.layers.present s.entries e) where
  abbrev i : ℕ
  i = place_of e

  abbrev present : ℕ
  present = s.layers.present

  abbrev then : LayerSet
  then = with_layer_of s e

  pub small : i < 64
  small = place_small present s.entries e none narrow

  new : has present i ≡ false
  new = index_new present s.entries e none

  room : i < length s.layers.embedded
  room = rw is.places.of_embedded small

  entry_room : i < length s.entries
  entry_room = rw is.places.of_entries small

  no_layer_yet : in_layers s.layers i ≡ false
  no_layer_yet = ap₂ ◌&&◌ (lt-ltb i 64 small) new

  pub stands : Stands i e
  stands =
      let d = described present s.entries e none in
      let l = descriptor_layer e.«record» d in
      record {
        layer = l;
        index = stands_there e.stream_type e.«record» l;
        allowed = judged_alike _ _ e.stream_type e.«record» d ∙ allowed present s.entries e none;
        flags = right_flags present s.entries e none;
        list = right_list present s.entries e none;
      }

  pub entry_here : entry_at then.entries i ≡ e
  entry_here = get_or-set_same s.entries i e no_entry entry_room

  pub entry_other : (j : ℕ) → j ≢ i → entry_at then.entries j ≡ entry_at s.entries j
  entry_other j d = get_or-set_other s.entries i j e no_entry d

  pub present_here : has then.layers.present i ≡ true
  present_here = has_added present i i small ∙ either_right (has present i) (eqb i i) (eq-eqb i i refl)

  pub present_other : (j : ℕ) → j < 64 → j ≢ i → has then.layers.present j ≡ has present j
  present_other j h d = has_added present i j h ∙ ap (λ (b : Bool). has present j || b) (ne_eqb j i d) ∙ plain (has present j)
    where
      plain : (b : Bool) → b || false ≡ b
      plain true = refl
      plain false = refl

  at : (j : ℕ) → j < 64 → At then j
  at j h = go (ℕ_discrete j i)
    where
      still : j ≢ i → At s j → At then j
      still d (a_layer p st n) =
          a_layer (present_other j h d ∙ p) (subst (Stands j) (sym (entry_other j d)) st)
          (get_or-set_other s.layers.embedded i j (embedded_in e) 0 d ∙ n ∙ ap embedded_in (sym (entry_other j d)))
      still d (nothing p b n) =
          nothing (present_other j h d ∙ p) (entry_other j d ∙ b) (get_or-set_other s.layers.embedded i j (embedded_in e) 0 d ∙ n)

      go : Dec (j ≡ i) → At then j
      go (yes q) =
          subst (At then) (sym q)
          (a_layer present_here (subst (Stands i) (sym entry_here) stands)
          (get_or-set_same s.layers.embedded i (embedded_in e) 0 room ∙ ap embedded_in (sym entry_here)))
      go (no d) = still d (is.at j h)

  not_held : (j : ℕ) → j < 64 → has present j ≡ true → (entry_at s.entries j).pid ≡ e.pid → ⊥
  unfolding pid_held
  not_held j h p q =
      both_ways
      (ap₂ ◌&&◌ p (eq-eqb (entry_at s.entries j).pid e.pid q))
      (none_at (λ k. held_at present (entry_at s.entries k) k e.pid) 64 (pid_new present s.entries e none) j h)

  pids : (j k : ℕ) → j < 64 → k < 64 → has then.layers.present j ≡ true → has then.layers.present k ≡ true
      → (entry_at then.entries j).pid ≡ (entry_at then.entries k).pid → j ≡ k
  pids j k hj hk pj pk same = go (ℕ_discrete j i) (ℕ_discrete k i)
    where
      pid_other : (m : ℕ) → m ≢ i → (entry_at then.entries m).pid ≡ (entry_at s.entries m).pid
      pid_other m d = ap (λ (x : Entry). x.pid) (entry_other m d)

      pid_here : (m : ℕ) → m ≡ i → (entry_at then.entries m).pid ≡ e.pid
      pid_here m q = ap (λ (x : Entry). x.pid) (ap (entry_at then.entries) q ∙ entry_here)

      go : Dec (j ≡ i) → Dec (k ≡ i) → j ≡ k
      go (yes p) (yes q) = p ∙ sym q
      go (yes p) (no q) = absurd (not_held k hk (sym (present_other k hk q) ∙ pk) (sym (pid_other k q) ∙ sym same ∙ pid_here j p))
      go (no p) (yes q) = absurd (not_held j hj (sym (present_other j hj p) ∙ pj) (sym (pid_other j p) ∙ same ∙ pid_here k q))
      go (no p) (no q) =
          is.pids j k hj hk (sym (present_other j hj p) ∙ pj) (sym (present_other k hk q) ∙ pk) (sym (pid_other j p) ∙ same ∙ pid_other k q)

  pub more_set : IsSet then
  more_set =
      let kept = added_kept s.layers i (embedded_in e) room small no_layer_yet (stored_in s) (set_kept s is) in
      record {
        places = record {
          of_entries = length-set s.entries i e ∙ is.places.of_entries;
          of_embedded = length-set s.layers.embedded i (embedded_in e) ∙ is.places.of_embedded;
          of_closures = kept.places.of_closures;
          of_sizes = kept.places.of_sizes;
          of_absents = kept.places.of_absents;
        };
        six_bits = added_within 64 present i is.six_bits (λ h. h);
        at = at;
        pids = pids;
        stored = kept_stored then kept;
      }

-- ---- a layer less

module _ (s : LayerSet) (is : IsSet s) (i : ℕ) (small : i < 64) (here : has s.layers.present i ≡ true) where
  abbrev fewer : LayerSet
  fewer = without_layer_at s i

  less_room : i < length s.layers.embedded
  less_room = rw is.places.of_embedded small

  less_entry_room : i < length s.entries
  less_entry_room = rw is.places.of_entries small

  pub less_other : (j : ℕ) → j ≢ i → entry_at fewer.entries j ≡ entry_at s.entries j
  less_other j d = get_or-set_other s.entries i j blank_entry no_entry d

  pub less_here : entry_at fewer.entries i ≡ blank_entry
  less_here = get_or-set_same s.entries i blank_entry no_entry less_entry_room

  pub left_other : (j : ℕ) → j ≢ i → has fewer.layers.present j ≡ has s.layers.present j
  left_other j d =
      has_without s.layers.present (only i) j ∙ ap (λ (b : Bool). has s.layers.present j && not b) (has_only i j ∙ ne_eqb j i d) ∙ plain (has s.layers.present j)
    where
      plain : (b : Bool) → b && true ≡ b
      plain true = refl
      plain false = refl

  pub left_here : has fewer.layers.present i ≡ false
  left_here =
      has_without s.layers.present (only i) i ∙ ap (λ (b : Bool). has s.layers.present i && not b) (has_only i i ∙ eq-eqb i i refl) ∙ plain (has s.layers.present i)
    where
      plain : (b : Bool) → b && false ≡ false
      plain true = refl
      plain false = refl

  left_at : (j : ℕ) → j < 64 → At fewer j
  left_at j h = go (ℕ_discrete j i)
    where
      still : j ≢ i → At s j → At fewer j
      still d (a_layer p st n) =
          a_layer (left_other j d ∙ p) (subst (Stands j) (sym (less_other j d)) st)
          (get_or-set_other s.layers.embedded i j 0 0 d ∙ n ∙ ap embedded_in (sym (less_other j d)))
      still d (nothing p b n) = nothing (left_other j d ∙ p) (less_other j d ∙ b) (get_or-set_other s.layers.embedded i j 0 0 d ∙ n)

      go : Dec (j ≡ i) → At fewer j
      go (yes q) = subst (At fewer) (sym q) (nothing left_here less_here (get_or-set_same s.layers.embedded i 0 0 less_room))
      go (no d) = still d (is.at j h)

  left_pids : (j k : ℕ) → j < 64 → k < 64 → has fewer.layers.present j ≡ true → has fewer.layers.present k ≡ true
      → (entry_at fewer.entries j).pid ≡ (entry_at fewer.entries k).pid → j ≡ k
  left_pids j k hj hk pj pk same = go (ℕ_discrete j i) (ℕ_discrete k i)
    where
      gone : (m : ℕ) → m ≡ i → has fewer.layers.present m ≡ true → ⊥
      gone m q p = both_ways p (ap (has fewer.layers.present) q ∙ left_here)

      go : Dec (j ≡ i) → Dec (k ≡ i) → j ≡ k
      go (yes p) q = absurd (gone j p pj)
      go (no p) (yes q) = absurd (gone k q pk)
      go (no p) (no q) =
          is.pids j k hj hk (sym (left_other j p) ∙ pj) (sym (left_other k q) ∙ pk)
          (sym (ap (λ (x : Entry). x.pid) (less_other j p)) ∙ same ∙ ap (λ (x : Entry). x.pid) (less_other k q))

  pub less_set : IsSet fewer
  less_set =
      let kept = removed_kept s.layers i less_room small (ap₂ ◌&&◌ (lt-ltb i 64 small) here) (stored_in s) (set_kept s is) in
      record {
        places = record {
          of_entries = length-set s.entries i blank_entry ∙ is.places.of_entries;
          of_embedded = length-set s.layers.embedded i 0 ∙ is.places.of_embedded;
          of_closures = kept.places.of_closures;
          of_sizes = kept.places.of_sizes;
          of_absents = kept.places.of_absents;
        };
        six_bits = without_within 64 s.layers.present (only i) is.six_bits;
        at = left_at;
        pids = left_pids;
        stored = kept_stored fewer kept;
      }

-- ---- each call, and any sequence of them

-- what adding answers: it is refused, or the layer is there
pub data Added (s : LayerSet) (e : Entry) : Changed → Type 0 where
  is_wide : too_wide e ≡ true → Added s e (unchanged s TooWide)
  is_refused : too_wide e ≡ false → (n : ℕ) → n ≡ fault_of s.layers.present s.entries e → n < 10 → Added s e (unchanged s (refusal_of n 0))
  is_added : too_wide e ≡ false → 10 ≤ fault_of s.layers.present s.entries e → Added s e (changed (with_layer_of s e))

pub added_case : (s : LayerSet) (e : Entry) → Added s e (added_to s e)
unfolding added_to
added_case s e = go (too_wide e) refl (ltb (fault_of s.layers.present s.entries e) 10) refl
  where
    number : ℕ
    number = fault_of s.layers.present s.entries e

    go : (w : Bool) → too_wide e ≡ w → (f : Bool) → ltb (fault_of s.layers.present s.entries e) 10 ≡ f
        → Added s e (cond w (unchanged s TooWide) (cond f (unchanged s (refusal_of (fault_of s.layers.present s.entries e) 0)) (changed (with_layer_of s e))))
    go true p f q = is_wide p
    go false p true q = is_refused p (fault_of s.layers.present s.entries e) refl (ltb-true (fault_of s.layers.present s.entries e) 10 q)
    go false p false q = is_added p (ltb-false (fault_of s.layers.present s.entries e) 10 q)

pub add_keeps : (s : LayerSet) (e : Entry) → IsSet s → IsSet (added_to s e).«set»
add_keeps s e is = go (added_case s e)
  where
    go : {c : Changed} → Added s e c → IsSet c.«set»
    go (is_wide w) = is
    go (is_refused w n p h) = is
    go (is_added w none) = more_set s is e w none

pub data Removed (s : LayerSet) (i : ℕ) : Changed → Type 0 where
  is_absent : ltb i 64 && has s.layers.present i ≡ false → Removed s i (unchanged s NoSuchLayer)
  is_removed : i < 64 → has s.layers.present i ≡ true → Removed s i (changed (without_layer_at s i))

pub removed_case : (s : LayerSet) (i : ℕ) → Removed s i (removed_from s i)
unfolding removed_from
removed_case s i = go (ltb i 64 && has s.layers.present i) refl
  where
    go : (b : Bool) → ltb i 64 && has s.layers.present i ≡ b → Removed s i (cond b (changed (without_layer_at s i)) (unchanged s NoSuchLayer))
    go true p = is_removed (ltb-true i 64 (both_left (ltb i 64) (has s.layers.present i) p)) (both_right (ltb i 64) (has s.layers.present i) p)
    go false p = is_absent p

pub remove_keeps : (s : LayerSet) (i : ℕ) → IsSet s → IsSet (removed_from s i).«set»
remove_keeps s i is = go (removed_case s i)
  where
    go : {c : Changed} → Removed s i c → IsSet c.«set»
    go (is_absent p) = is
    go (is_removed h p) = less_set s is i h p

pub keeps : (s : LayerSet) (c : Change) → IsSet s → IsSet (after s c)
keeps s (adding e) is = add_keeps s e is
keeps s (removing i) is = remove_keeps s i is

-- AFTER ANY SEQUENCE of additions and removals
pub all_keep : (s : LayerSet) (cs : List Change) → IsSet s → IsSet (after_all s cs)
all_keep s [] is = is
all_keep s (c ∷ cs) is = all_keep (after s c) cs (keeps s c is)
