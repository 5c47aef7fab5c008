-- The laws that join the meaning to what is computed, both ways: of adding, of removing, and of the answer to a target. A set is known by its layers.
-- Assumes nothing.
use Prim.Native.Nat.{ℕ, ◌≤◌, ◌<◌}
use mathlib.Core.Bool.{Bool, true, false, not, cond, ◌&&◌}
use mathlib.Core.List.{List}
use mathlib.Core.Logic.{◌↔◌, ◌≢◌}
use mathlib.Core.Path.{◌≡◌, refl, sym, ap, ap₂, ◌∙◌, subst}
use native.Mathlib.Decide.{ℕ_discrete, dec_lt}
use native.Mathlib.Omega.{arith}
use borrow.Author.Tests.{eqb-true, eq-eqb, lt-ltb}
use lib.Dec.{eqb, ltb}
use lib.ListN.{get_or}
use lib.Seq.{ext_get_or}
use Rattle.combinators.specs.Below.{some_which, some_at, First}
use Rattle.combinators.specs.Bools.{both_left, both_right, both_ways, false_unless, apart}
use Rattle.combinators.specs.Lists.{first_true_lem, handled}
use Rattle.sets.specs.Sets.{has}
use Rattle.sets.proofs.Laws.{has_within, same_members}
use Rattle.vocabulary.specs.declared.refusal.Refusal.{Refusal}
use Rattle.vocabulary.specs.Refusals.{number_of, place_of as refusalPlace}
use Rattle.records.specs.declared.Record.{Record}
use Rattle.records.specs.declared.Record.TheVariants.{NoRecord, Hierarchy, Extension, Implied}
use Rattle.records.specs.Records.{is_layer, index_of}
use Rattle.judging.specs.Judging.{type_not_allowed}
use Rattle.judging.specs.Meaning.{has_descriptor}
use Rattle.judging.proofs.Meant.{refusal_6, refusal_7, refusal_9}
use Rattle.loop_entries.specs.declared.Entry.{Entry}
use Rattle.loop_entries.specs.Entries.{blank_entry}
use Rattle.loop_faults.specs.Conditions.{refusal_of}
use Rattle.es_loop.proofs.Meant.{named_refusal}
use Rattle.loop_writer.specs.Layout.{too_wide}
use Rattle.closure.specs.declared.Layers.{Layers}
use Rattle.closure.specs.Answer.{Closure}
use Rattle.closure.specs.Closures.{is_layer as in_layers, closure_of}
use Rattle.closure.specs.Meaning as Target
use Rattle.closure.proofs.Reached.{layer_below_64}
use Rattle.closure.proofs.Meant.{closure_meant, closure_only}
use Rattle.kept_closures.specs.Kept.{layers_by, fresh_columns}
use Rattle.kept_closures.proofs.Worked.{kept_only}
use Rattle.kept_closures.proofs.Answered.{answer_kept_lem}
use Rattle.loop_layers.specs.Layers.{place_of, embedded_in}
use Rattle.layer_set.specs.declared.«set».LayerSet.{LayerSet}
use Rattle.layer_set.specs.declared.changing.Changed.{Changed}
use Rattle.layer_set.specs.Sets.{stored_in, set_with, entry_at, no_entry, held_at, pid_held, fault_of, unchanged, changed, with_layer_of, added_to, without_layer_at, removed_from, closure_in}
use Rattle.layer_set.specs.Meaning.{Stands, At, a_layer, nothing, IsSet, Layer, Condition, pid_held_lem, type_wrong, implied_mark, no_layer_lem, flags_wrong, index_held, embedded_wrong, OneMore, Adds, too_wide_lem, refuses, adds, OneLess, Removes, no_such_layer, removes}
use Rattle.layer_set.proofs.Judged.{tests}
use Rattle.layer_set.proofs.Stored.{set_kept}
use Rattle.layer_set.proofs.Keeping.{small, stands, entry_here, entry_other, present_here, present_other, more_set, less_other, left_other, left_here, less_set, Added, is_wide, is_refused, is_added, added_case, Removed, is_absent, is_removed, removed_case}

-- ---- a set is known by its entries, and they by its layers

-- the entry of an index, and a blank where there is none
module _ (s : LayerSet) (is : IsSet s) where
  pub in_set : (i : ℕ) → i < 64 → {b : Bool} → has s.layers.present i ≡ b → in_layers s.layers i ≡ b
  in_set i h p = ap₂ ◌&&◌ (lt-ltb i 64 h) p

  set_has : (i : ℕ) → in_layers s.layers i ≡ true → has s.layers.present i ≡ true
  set_has i p = both_right (ltb i 64) (has s.layers.present i) p

  -- each stored value is the one that would be worked out afresh
  pub stored_afresh : stored_in s ≡ fresh_columns s.layers
  stored_afresh = kept_only s.layers (stored_in s) (set_kept s is)

module _ (a b : LayerSet) (is-a : IsSet a) (is_b : IsSet b) (same : (i : ℕ) → i < 64 → entry_at a.entries i ≡ entry_at b.entries i) where
  -- an entry that stands at an index is no blank
  no_blank : (i : ℕ) (e : Entry) → Stands i e → e ≡ blank_entry → ⊥
  no_blank i e st q = both_ways st.layer (ap (λ (x : Entry). is_layer x.«record») q)

  parts : (i : ℕ) → i < 64 → (has a.layers.present i ≡ has b.layers.present i) × (get_or a.layers.embedded i 0 ≡ get_or b.layers.embedded i 0)
  parts i h = go (is-a.at i h) (is_b.at i h)
    where
      go : At a i → At b i → (has a.layers.present i ≡ has b.layers.present i) × (get_or a.layers.embedded i 0 ≡ get_or b.layers.embedded i 0)
      go (a_layer p st n) (a_layer p' st' n') = (p ∙ sym p', n ∙ ap embedded_in (same i h) ∙ sym n')
      go (a_layer p st n) (nothing p' q' n') = absurd (no_blank i (entry_at a.entries i) st (same i h ∙ q'))
      go (nothing p q n) (a_layer p' st' n') = absurd (no_blank i (entry_at b.entries i) st' (sym (same i h) ∙ q))
      go (nothing p q n) (nothing p' q' n') = (p ∙ sym p', n ∙ sym n')

  present_same : a.layers.present ≡ b.layers.present
  present_same = same_members a.layers.present b.layers.present (λ i. go i (dec_lt i 64))
    where
      past : (s : LayerSet) → IsSet s → (i : ℕ) → (i < 64 → ⊥) → has s.layers.present i ≡ false
      past s is i h = false_unless (has s.layers.present i) (λ t. h (has_within 64 is.six_bits t))

      go : (i : ℕ) → Dec (i < 64) → has a.layers.present i ≡ has b.layers.present i
      go i (yes h) = (parts i h).0
      go i (no h) = past a is-a i h ∙ sym (past b is_b i h)

  embedded_same : a.layers.embedded ≡ b.layers.embedded
  embedded_same =
      ext_get_or 0 a.layers.embedded b.layers.embedded (is-a.places.of_embedded ∙ sym is_b.places.of_embedded)
      (λ i h. (parts i (rw is-a.places.of_embedded at h)).1)

  entries_same : a.entries ≡ b.entries
  entries_same =
      ext_get_or no_entry a.entries b.entries (is-a.places.of_entries ∙ sym is_b.places.of_entries) (λ i h. same i (rw is-a.places.of_entries at h))

  -- TWO SETS WITH THE SAME ENTRIES ARE ONE.
  pub same_set : a ≡ b
  same_set =
      let layers : a.layers ≡ b.layers = ap₂ layers_by present_same embedded_same in
      ap (set_with a.layers a.entries) (stored_afresh a is-a ∙ ap fresh_columns layers ∙ sym (stored_afresh b is_b))
      ∙ ap₂ (λ (l : Layers) (es : List Entry). set_with l es (stored_in b)) layers entries_same

-- and so are two with the same layers
pub same_layers : (a b : LayerSet) → IsSet a → IsSet b → ((i : ℕ) (e : Entry) → Layer a i e ↔ Layer b i e) → a ≡ b
same_layers a b is-a is_b same = same_set a b is-a is_b (λ i h. go i h (is-a.at i h) (is_b.at i h))
  where
    go : (i : ℕ) → i < 64 → At a i → At b i → entry_at a.entries i ≡ entry_at b.entries i
    go i h (a_layer p st n) at_b = sym ((same i (entry_at a.entries i)).0 (record { in_set = in_set a is-a i h p; entry = refl })).entry
    go i h (nothing p q n) (a_layer p' st n') = ((same i (entry_at b.entries i)).1 (record { in_set = in_set b is_b i h p'; entry = refl })).entry
    go i h (nothing p q n) (nothing p' q' n') = q ∙ sym q'

-- ---- adding

module _ (s : LayerSet) (is : IsSet s) (e : Entry) where
  abbrev present : ℕ
  present = s.layers.present

  abbrev number : ℕ
  number = fault_of present s.entries e

  abbrev judged : List Bool
  judged = tests present s.entries e

  index_of_layer : is_layer e.«record» ≡ true → index_of e.stream_type e.«record» ≡ place_of e
  index_of_layer l = sym (ap (λ (b : Bool). cond b (index_of e.stream_type e.«record») 256) l)

  held : pid_held present s.entries e.pid ≡ true → Condition s e 3
  unfolding pid_held
  held t =
      let w = some_which (λ i. held_at present (entry_at s.entries i) i e.pid) 64 t in
      let there = both_left (has present w.0) (eqb (entry_at s.entries w.0).pid e.pid) w.2 in
      pid_held_lem (record { in_set = in_set s is w.0 w.1 there; entry = refl })
      (eqb-true (entry_at s.entries w.0).pid e.pid (both_right (has present w.0) (eqb (entry_at s.entries w.0).pid e.pid) w.2))

  six : (r : Record) → e.«record» ≡ r → type_not_allowed (not (is_layer r)) e.stream_type r ≡ true → Condition s e 6
  six NoRecord p t = no_layer_lem p
  six (Hierarchy h) p t = type_wrong (ap has_descriptor p) (rw p ((refusal_6 false e.stream_type (Hierarchy h)).0 t))
  six (Extension x) p t = type_wrong (ap has_descriptor p) (rw p ((refusal_6 false e.stream_type (Extension x)).0 t))
  six Implied p t = implied_mark p

  -- an index of 256, that of what is no layer, is in no set
  eight : has present (place_of e) ≡ true → Condition s e 8
  eight t = go (is_layer e.«record») refl
    where
      go : (b : Bool) → is_layer e.«record» ≡ b → Condition s e 8
      go true l =
          let h : place_of e < 64 = has_within 64 is.six_bits t in
          index_held l (record { in_set = ap (in_layers s.layers) (index_of_layer l) ∙ in_set s is (place_of e) h t; entry = refl })
      go false l =
          let h : place_of e < 64 = has_within 64 is.six_bits t in
          let past : place_of e ≡ 256 = ap (λ (b : Bool). cond b (index_of e.stream_type e.«record») 256) l in
          absurd (omega arith)

  named : (n : ℕ) → get_or judged n false ≡ true → Condition s e n
  named =
      handled (Condition s e) judged (
        apart,
        (
          apart,
          (
            apart,
            (
              held,
              (
                apart,
                (
                  apart,
                  (
                    six e.«record» refl,
                    (
                      (λ t. flags_wrong ((refusal_7 e.«record»).0 t)),
                      (eight, ((λ t. embedded_wrong ((refusal_9 e.stream_type e.«record» e.embedded).0 t)), tt)),
                    ),
                  ),
                ),
              ),
            ),
          ),
        ),
      )

  unmarked : (is_given : Bool) (t : ℕ) (r : Record) → has_descriptor r ≡ true → type_not_allowed is_given t r ≡ type_not_allowed false t r
  unmarked is_given t NoRecord d = apart d
  unmarked is_given t (Hierarchy h) d = refl
  unmarked is_given t (Extension x) d = refl
  unmarked is_given t Implied d = apart d

  tested : {n : ℕ} → Condition s e n → get_or judged n false ≡ true
  unfolding pid_held
  tested (pid_held_lem {i} {x} l p) =
      let h : i < 64 = layer_below_64 s.layers i l.in_set in
      some_at (λ k. held_at present (entry_at s.entries k) k e.pid) 64 i h
      (ap₂ ◌&&◌ (set_has s is i l.in_set) (eq-eqb (entry_at s.entries i).pid e.pid (ap (λ (y : Entry). y.pid) l.entry ∙ p)))
  tested (type_wrong d w) = unmarked (not (is_layer e.«record»)) e.stream_type e.«record» d ∙ (refusal_6 false e.stream_type e.«record»).1 w
  tested (implied_mark p) = ap (λ (r : Record). type_not_allowed (not (is_layer r)) e.stream_type r) p
  tested (no_layer_lem p) = ap (λ (r : Record). type_not_allowed (not (is_layer r)) e.stream_type r) p
  tested (flags_wrong w) = (refusal_7 e.«record»).1 w
  tested (index_held l x) =
      ap (has present) (sym (index_of_layer l)) ∙ set_has s is (index_of e.stream_type e.«record») x.in_set
  tested (embedded_wrong w) = (refusal_9 e.stream_type e.«record» e.embedded).1 w

  numbers : {n : ℕ} → Condition s e n → n < 10
  numbers (pid_held_lem l p) = omega arith
  numbers (type_wrong d w) = omega arith
  numbers (implied_mark p) = omega arith
  numbers (no_layer_lem p) = omega arith
  numbers (flags_wrong w) = omega arith
  numbers (index_held l x) = omega arith
  numbers (embedded_wrong w) = omega arith

  named_place : {n : ℕ} → Condition s e n → (number_of (refusal_of n 0) ≡ n) × (refusalPlace (refusal_of n 0) ≡ 0)
  named_place (pid_held_lem l p) = (refl, refl)
  named_place (type_wrong d w) = (refl, refl)
  named_place (implied_mark p) = (refl, refl)
  named_place (no_layer_lem p) = (refl, refl)
  named_place (flags_wrong w) = (refl, refl)
  named_place (index_held l x) = (refl, refl)
  named_place (embedded_wrong w) = (refl, refl)

  first : First (λ n. get_or judged n false) 10 number
  first = first_true_lem judged

  not_lower : (n : ℕ) → n < number → Condition s e n → ⊥
  not_lower n h c = both_ways (tested c) (first.before n h)

  -- THE SET WITH THE LAYER
  module _ (narrow : too_wide e ≡ false) (none : 10 ≤ number) where
    abbrev then : LayerSet
    then = with_layer_of s e

    own : index_of e.stream_type e.«record» ≡ place_of e
    own = (stands s is e narrow none).index

    here : place_of e < 64
    here = small s is e narrow none

    one_more : OneMore s e then
    one_more =
        record {
          is_set = more_set s is e narrow none;
          new = subst (λ (i : ℕ). Layer then i e) (sym own) (record { in_set = in_set then (more_set s is e narrow none) (place_of e) here (present_here s is e narrow none); entry = entry_here s is e narrow none });
          others = λ j x d.
              let apart_from : j ≢ place_of e = λ q. d (q ∙ sym own) in
              (forth j x apart_from, back j x apart_from);
        }
      where
        forth : (j : ℕ) (x : Entry) → j ≢ place_of e → Layer s j x → Layer then j x
        forth j x d l =
            let h : j < 64 = layer_below_64 s.layers j l.in_set in
            record {
              in_set = in_set then (more_set s is e narrow none) j h (present_other s is e narrow none j h d ∙ set_has s is j l.in_set);
              entry = entry_other s is e narrow none j d ∙ l.entry;
            }

        back : (j : ℕ) (x : Entry) → j ≢ place_of e → Layer then j x → Layer s j x
        back j x d l =
            let h : j < 64 = layer_below_64 then.layers j l.in_set in
            record {
              in_set = in_set s is j h (sym (present_other s is e narrow none j h d) ∙ set_has then (more_set s is e narrow none) j l.in_set);
              entry = sym (entry_other s is e narrow none j d) ∙ l.entry;
            }

  -- WHAT ADDING ANSWERS HAS THE MEANING,
  pub add_meant : Adds s e (added_to s e)
  add_meant = go (added_case s e)
    where
      go : {c : Changed} → Added s e c → Adds s e c
      go (is_wide w) = too_wide_lem w
      go (is_refused w n p h) =
          let is_first : First (λ m. get_or judged m false) 10 n = subst (First (λ m. get_or judged m false) 10) (sym p) first in
          let c : Condition s e n = named n (is_first.found h) in
          let r = named_place c in
          refuses {refusal = refusal_of n 0} w (rw r.0 c) r.1 (λ m l d. both_ways (tested d) (is_first.before m (rw r.0 at l)))
      go (is_added w none) = adds w (λ n c. both_ways (tested c) (first.before n (let l : n < number = omega (arith, numbers c) in l))) (one_more w none)

  -- and nothing else has it.
  two_more : {a b : LayerSet} → OneMore s e a → OneMore s e b → a ≡ b
  two_more {a} {b} x y = same_layers a b x.is_set y.is_set (λ i d. (over x y i d, over y x i d))
    where
      over : {c d : LayerSet} → OneMore s e c → OneMore s e d → (i : ℕ) (z : Entry) → Layer c i z → Layer d i z
      over {c} {d} m n i z l = go (ℕ_discrete i (index_of e.stream_type e.«record»))
        where
          go : Dec (i ≡ index_of e.stream_type e.«record») → Layer d i z
          go (yes q) =
              let is_e : e ≡ z = sym m.new.entry ∙ ap (entry_at c.entries) (sym q) ∙ l.entry in
              subst (Layer d i) is_e (subst (λ (k : ℕ). Layer d k e) (sym q) n.new)
          go (no q) = (n.others i z q).0 ((m.others i z q).1 l)

  pub add_only : {answer : Changed} → Adds s e answer → answer ≡ added_to s e
  add_only = λ a. both a add_meant
    where
      lowest : (a b : ℕ) → Condition s e a → Condition s e b → ((m : ℕ) → m < a → Condition s e m → ⊥) → ((m : ℕ) → m < b → Condition s e m → ⊥) → a ≡ b
      lowest a b ca cb la lb = go (dec_lt a b) (dec_lt b a)
        where
          go : Dec (a < b) → Dec (b < a) → a ≡ b
          go (yes h) d = absurd (lb a h ca)
          go (no h) (yes g) = absurd (la b g cb)
          go (no h) (no g) = omega arith

      refusal_is : (r : Refusal) → Condition s e (number_of r) → refusalPlace r ≡ 0 → refusal_of (number_of r) 0 ≡ r
      refusal_is r c p = ap (refusal_of (number_of r)) (sym p) ∙ named_refusal r (numbers c)

      both : {a b : Changed} → Adds s e a → Adds s e b → a ≡ b
      both (too_wide_lem w) (too_wide_lem w') = refl
      both (too_wide_lem w) (refuses w' c p l) = both_ways w w'
      both (too_wide_lem w) (adds w' none m) = both_ways w w'
      both (refuses w c p l) (too_wide_lem w') = both_ways w' w
      both (refuses {refusal = r} w c p l) (refuses {refusal = q} w' c' p' l') =
          ap (unchanged s)
          (sym (refusal_is r c p) ∙ ap (λ (n : ℕ). refusal_of n 0) (lowest (number_of r) (number_of q) c c' l l') ∙ refusal_is q c' p')
      both (refuses w c p l) (adds w' none m) = absurd (none _ c)
      both (adds w none m) (too_wide_lem w') = both_ways w' w
      both (adds w none m) (refuses w' c p l) = absurd (none _ c)
      both (adds w none m) (adds w' none' m') = ap changed (two_more m m')

-- ---- removing

module _ (s : LayerSet) (is : IsSet s) (i : ℕ) where
  pub remove_meant : Removes s i (removed_from s i)
  remove_meant = go (removed_case s i)
    where
      go : {c : Changed} → Removed s i c → Removes s i c
      go (is_absent p) = no_such_layer (λ x l. both_ways l.in_set p)
      go (is_removed h p) =
          let fewer : LayerSet = without_layer_at s i in
          let fewer_set : IsSet fewer = less_set s is i h p in
          removes {x = entry_at s.entries i} (record { in_set = in_set s is i h p; entry = refl })
          (record {
            is_set = fewer_set;
            gone = in_set fewer fewer_set i h (left_here s is i h p);
            others = λ j x d. (
              (λ l. let k : j < 64 = layer_below_64 s.layers j l.in_set in
                  record { in_set = in_set fewer fewer_set j k (left_other s is i h p j d ∙ set_has s is j l.in_set); entry = less_other s is i h p j d ∙ l.entry }),
              (λ l. let k : j < 64 = layer_below_64 fewer.layers j l.in_set in
                  record { in_set = in_set s is j k (sym (left_other s is i h p j d) ∙ set_has fewer fewer_set j l.in_set); entry = sym (less_other s is i h p j d) ∙ l.entry }),
            );
          })

  two_less : {a b : LayerSet} → OneLess s i a → OneLess s i b → a ≡ b
  two_less {a} {b} x y = same_layers a b x.is_set y.is_set (λ j d. (over x y j d, over y x j d))
    where
      over : {c d : LayerSet} → OneLess s i c → OneLess s i d → (j : ℕ) (z : Entry) → Layer c j z → Layer d j z
      over {c} {d} m n j z l = go (ℕ_discrete j i)
        where
          go : Dec (j ≡ i) → Layer d j z
          go (yes q) = both_ways l.in_set (ap (in_layers c.layers) q ∙ m.gone)
          go (no q) = (n.others j z q).0 ((m.others j z q).1 l)

  pub remove_only : {answer : Changed} → Removes s i answer → answer ≡ removed_from s i
  remove_only = λ a. both a remove_meant
    where
      both : {a b : Changed} → Removes s i a → Removes s i b → a ≡ b
      both (no_such_layer n) (no_such_layer n') = refl
      both (no_such_layer n) (removes l m) = absurd (n _ l)
      both (removes l m) (no_such_layer n) = absurd (n _ l)
      both (removes l m) (removes l' m') = ap changed (two_less m m')

-- ---- removing what was just added gives the set that was

pub removed_again : (s : LayerSet) → IsSet s → (e : Entry) (more : LayerSet) → added_to s e ≡ changed more
    → removed_from more (index_of e.stream_type e.«record») ≡ changed s
removed_again s is e more accepted = go (subst (Adds s e) accepted (add_meant s is e))
  where
    by_answer : (i : ℕ) {c : Changed} → OneMore s e more → ((x : Entry) → Layer s i x → ⊥) → i ≡ index_of e.stream_type e.«record» → Removes more i c → c ≡ changed s
    by_answer i m free q (no_such_layer n) = absurd (n e (subst (λ (k : ℕ). Layer more k e) (sym q) m.new))
    by_answer i m free q (removes {after = less} l one_less) =
        ap changed (same_layers less s one_less.is_set is (λ j x. (down j x, up j x)))
      where
        down : (j : ℕ) (x : Entry) → Layer less j x → Layer s j x
        down j x k = by_index (ℕ_discrete j i)
          where
            by_index : Dec (j ≡ i) → Layer s j x
            by_index (yes p) = both_ways k.in_set (ap (in_layers less.layers) p ∙ one_less.gone)
            by_index (no p) = (m.others j x (λ r. p (r ∙ sym q))).1 ((one_less.others j x p).1 k)

        up : (j : ℕ) (x : Entry) → Layer s j x → Layer less j x
        up j x k = by_index (ℕ_discrete j i)
          where
            by_index : Dec (j ≡ i) → Layer less j x
            by_index (yes p) = absurd (free x (subst (λ (n : ℕ). Layer s n x) p k))
            by_index (no p) = (one_less.others j x p).0 ((m.others j x (λ r. p (r ∙ sym q))).0 k)

    go : Adds s e (changed more) → removed_from more (index_of e.stream_type e.«record») ≡ changed s
    go (adds w none m) =
        by_answer (index_of e.stream_type e.«record») m
        (λ x l. none 8 (index_held (layer_there e.«record» refl) l)) refl (remove_meant more m.is_set (index_of e.stream_type e.«record»))
      where
        layer_there : (r : Record) → e.«record» ≡ r → is_layer e.«record» ≡ true
        layer_there NoRecord p = absurd (none 6 (no_layer_lem p))
        layer_there (Hierarchy h) p = ap is_layer p
        layer_there (Extension x) p = ap is_layer p
        layer_there Implied p = absurd (none 6 (implied_mark p))

-- ---- the answer to a target is that of `closure`, and has its meaning

module _ (s : LayerSet) (is : IsSet s) (target : ℕ) where
  pub target_answer : closure_in s target ≡ closure_of s.layers target
  target_answer = answer_kept_lem s.layers (stored_in s) (set_kept s is) target

  pub target_meant : Target.Answers s.layers target (closure_in s target)
  target_meant = subst (Target.Answers s.layers target) (sym target_answer) (closure_meant s.layers target)

  pub target_only : {answer : Closure} → Target.Answers s.layers target answer → answer ≡ closure_in s target
  target_only a = closure_only s.layers target a ∙ sym target_answer
