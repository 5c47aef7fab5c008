-- What Lists computes is what Meaning says, and nothing else is: `list_meant` and `list_only`; and so of `is_closed`: `closed_meant`.
-- Assumes nothing.
use Prim.Native.Nat.{ℕ, suc, ◌^◌, ◌<◌}
use mathlib.Core.Bool.{Bool, true, false, not, cond, ◌&&◌, ◌||◌}
use mathlib.Core.List.{List, [], ◌∷◌, ◌++◌}
use mathlib.Core.Logic.{◌⊎◌, inl, inr}
use mathlib.Core.Path.{◌≡◌, refl, sym, ap, ap₂, ◌∙◌, subst}
use native.Mathlib.Nat.{not-suc-le-zero}
use native.Mathlib.Omega.{arith}
use borrow.Author.Tests.{eqb-true, eq-eqb, not-true, not-false}
use lib.Dec.{eqb}
use lib.ListN.{get_or}
use Rattle.combinators.specs.Bools.{both_left, both_right, both_ways, either_right, neither_left, neither_right, false_unless, apart}
use Rattle.combinators.specs.Ascending.{Ascending, ascending_one}
use Rattle.combinators.specs.Lists.{any, any_which, any_false, get_d_nth, nth_get_d, nth_inside, Nth, here, there}
use Rattle.combinators.specs.Members.{member}
use Rattle.sets.specs.Sets.{has, without, lowest, members_of}
use Rattle.sets.proofs.Laws.{has_none, has_without, has_within, lowest_member, without_within}
use Rattle.closure.specs.declared.Layers.{Layers}
use Rattle.closure.specs.Closures.{is_layer, named}
use Rattle.closure.specs.Meaning.{Names}
use Rattle.closure.proofs.Reached.{names, has_named, layer_below_64}
use Rattle.closure.proofs.Scan.{is_layer_lem}
use Rattle.stream_lists.specs.declared.ListBuilt.{ListBuilt}
use Rattle.stream_lists.specs.Insertion.{placed}
use Rattle.stream_lists.specs.Lists.{referred, prepends, asked, set_of, referring, no_layer, stream_list, built_from, list_built, escapes, is_closed}
use Rattle.stream_lists.specs.Meaning.{ToPrepend, Adds, at_the_end, where_it_stands, Lists, none, next, NoLayer, itself, dependency, Answers, refused, built, Closed}
use Rattle.sets.proofs.Members.{members_ascending}
use Rattle.stream_lists.proofs.Placed.{placed_absent}
use Rattle.stream_lists.proofs.Building.{has_set, asked_within, named_within}

module _ (layers : Layers) where
  -- ---- what a reference asks for

  module _ (reference : ℕ) where
    pub asked_names : (j : ℕ) → has (asked layers reference) j ≡ true → (prepends reference ≡ true) × Names layers (referred reference) j
    asked_names j = go (prepends reference) refl
      where
        go : (b : Bool) → prepends reference ≡ b → has (cond b (named layers (referred reference)) 0) j ≡ true
            → (prepends reference ≡ true) × Names layers (referred reference) j
        go true e m = (e, names layers (referred reference) j m)
        go false e m = both_ways m (has_none j)

    names_asked : (j : ℕ) → prepends reference ≡ true → Names layers (referred reference) j → has (asked layers reference) j ≡ true
    names_asked j e n =
        ap (λ (b : Bool). has (cond b (named layers (referred reference)) 0) j) e ∙ has_named layers (referred reference) j n

    -- ---- what is to be prepended, in ascending order

    module _ (list : List ℕ) where
      fresh_is : (j : ℕ) → has (without (asked layers reference) (set_of list)) j ≡ has (asked layers reference) j && not (member j list)
      fresh_is j =
          has_without (asked layers reference) (set_of list) j ∙ ap (λ (b : Bool). has (asked layers reference) j && not b) (has_set j list)

      fresh_prepend : (j : ℕ) → has (without (asked layers reference) (set_of list)) j ≡ true → ToPrepend layers reference list j
      fresh_prepend j m =
          let both = sym (fresh_is j) ∙ m in
          let w = asked_names j (both_left (has (asked layers reference) j) (not (member j list)) both) in
          record {
            flagged = w.0;
            embedded = w.1;
            not_yet = not-true (member j list) (both_right (has (asked layers reference) j) (not (member j list)) both);
          }

      prepend_fresh : (j : ℕ) → ToPrepend layers reference list j → has (without (asked layers reference) (set_of list)) j ≡ true
      prepend_fresh j p =
          fresh_is j ∙ ap₂ (λ (a b : Bool). a && not b) (names_asked j p.flagged p.embedded) p.not_yet

      new_ascending : Ascending (ToPrepend layers reference list) (members_of (without (asked layers reference) (set_of list)))
      new_ascending =
          let a = members_ascending (without (asked layers reference) (set_of list)) (without_within 64 (asked layers reference) (set_of list) (asked_within layers reference)) in
          record {
            each = λ i h. fresh_prepend (get_or (members_of (without (asked layers reference) (set_of list))) i 0) (a.each i h);
            all = λ n p. a.all n (prepend_fresh n p);
            rising = a.rising;
          }

      new_only : (new : List ℕ) → Ascending (ToPrepend layers reference list) new → new ≡ members_of (without (asked layers reference) (set_of list))
      new_only new a = ascending_one (ToPrepend layers reference list) new (members_of (without (asked layers reference) (set_of list))) a new_ascending

  -- ---- one reference

  -- a member stands somewhere, with none of its kind before
  split : (x : ℕ) (list : List ℕ) → member x list ≡ true
      → (front : List ℕ) × (back : List ℕ) × (list ≡ front ++ (x ∷ back)) × (member x front ≡ false)
  split x [] m = apart m
  split x (y ∷ list) m = go (eqb x y) refl (split x list)
    where
      go : (b : Bool) → eqb x y ≡ b
          → (member x list ≡ true → (front : List ℕ) × (back : List ℕ) × (list ≡ front ++ (x ∷ back)) × (member x front ≡ false))
          → (front : List ℕ) × (back : List ℕ) × (y ∷ list ≡ front ++ (x ∷ back)) × (member x front ≡ false)
      go true e later = ([], list, ap (λ (k : ℕ). k ∷ list) (sym (eqb-true x y e)), refl)
      go false e later =
          let w = later (rw e at m) in (y ∷ w.0, w.1, ap (λ (l : List ℕ). y ∷ l) w.2, rw e w.3)

  -- what is put before it goes there
  placed_split : (x : ℕ) (new front back : List ℕ) → member x front ≡ false → placed x new (front ++ (x ∷ back)) ≡ front ++ (new ++ (x ∷ back))
  placed_split x new [] back e = rw (eq-eqb x x refl)
  placed_split x new (y ∷ front) back e =
      rw (neither_left (eqb x y) (member x front) e)
      (ap (λ (l : List ℕ). y ∷ l) (placed_split x new front back (neither_right (eqb x y) (member x front) e)))

  adds_meant : (reference : ℕ) (list : List ℕ) → Adds layers reference list (referring layers list reference)
  adds_meant reference list = go (member (referred reference) list) refl
    where
      x : ℕ
      x = referred reference

      new : List ℕ
      new = members_of (without (asked layers reference) (set_of list))

      go : (b : Bool) → member (referred reference) list ≡ b → Adds layers reference list (referring layers list reference)
      go false e =
          subst (Adds layers reference list) (sym (placed_absent x new list e)) (at_the_end new e (new_ascending reference list))
      go true e =
          let w = split x list e in
          subst (Adds layers reference list)
          (sym (ap (placed x new) w.2 ∙ placed_split x new w.0 w.1 w.3))
          (where_it_stands w.0 new w.1 w.2 w.3 (new_ascending reference list))

  pub adds_only : (reference : ℕ) (list : List ℕ) {after : List ℕ} → Adds layers reference list after → after ≡ referring layers list reference
  adds_only reference list (at_the_end new e a) =
      ap (λ (n : List ℕ). list ++ (n ++ (referred reference ∷ []))) (new_only reference list new a)
      ∙ sym (placed_absent (referred reference) (members_of (without (asked layers reference) (set_of list))) list e)
  adds_only reference list (where_it_stands front new back s e a) =
      ap (λ (n : List ℕ). front ++ (n ++ (referred reference ∷ back))) (new_only reference list new a)
      ∙ sym (ap (placed (referred reference) (members_of (without (asked layers reference) (set_of list)))) s
      ∙ placed_split (referred reference) (members_of (without (asked layers reference) (set_of list))) front back e)

  -- ---- 42

  no_layer_meant : (reference : ℕ) → no_layer layers reference ≡ true → NoLayer layers reference
  no_layer_meant reference e =
      go (is_layer layers (referred reference)) refl (eqb (without (asked layers reference) layers.present) 0) refl e
    where
      within : without (asked layers reference) layers.present < 2 ^ 64
      within = without_within 64 (asked layers reference) layers.present (asked_within layers reference)

      found : (j : ℕ) → has (without (asked layers reference) layers.present) j ≡ true → NoLayer layers reference
      found j m =
          let both = sym (has_without (asked layers reference) layers.present j) ∙ m in
          let w = asked_names reference j (both_left (has (asked layers reference) j) (not (has layers.present j)) both) in
          dependency w.0 w.1
          (is_layer_lem layers j (has_within 64 within m)
          ∙ not-true (has layers.present j) (both_right (has (asked layers reference) j) (not (has layers.present j)) both))

      go : (b : Bool) → is_layer layers (referred reference) ≡ b → (d : Bool) → eqb (without (asked layers reference) layers.present) 0 ≡ d
          → not b || not d ≡ true → NoLayer layers reference
      go false p d q t = itself p
      go true p true q t = apart t
      go true p false q t =
          let j = lowest (without (asked layers reference) layers.present) in
          found j (lowest_member (without (asked layers reference) layers.present) within
          (λ z. both_ways (eq-eqb (without (asked layers reference) layers.present) 0 z) q))

  no_layer_only : (reference : ℕ) → NoLayer layers reference → no_layer layers reference ≡ true
  no_layer_only reference (itself e) = rw e
  no_layer_only reference (dependency {j} flagged n absent) =
      either_right (not (is_layer layers (referred reference))) (not (eqb (without (asked layers reference) layers.present) 0))
      (ap not (false_unless (eqb (without (asked layers reference) layers.present) 0)
      (λ z. both_ways
      (has_without (asked layers reference) layers.present j
      ∙ ap₂ (λ (a b : Bool). a && not b) (names_asked reference j flagged n) (sym (is_layer_lem layers j small) ∙ absent))
      (ap (λ (s : ℕ). has s j) (eqb-true (without (asked layers reference) layers.present) 0 z) ∙ has_none j))))
    where
      small : j < 64
      small = omega (arith, n.lower, layer_below_64 layers (referred reference) n.in_loop)

  -- ---- all references

  -- what is computed from a list on: 42, with the reference that it is for, or the list
  Told : List ℕ → List ℕ → ListBuilt → Type 0
  Told list references answer =
      ((k : ℕ) × (reference : ℕ) × Nth references k reference × NoLayer layers reference × (answer ≡ record { absent = true; list = stream_list [] }))
      ⊎ ((last : List ℕ) × ((k reference : ℕ) → Nth references k reference → NoLayer layers reference → ⊥) × Lists layers list references last
      × (answer ≡ record { absent = false; list = stream_list last }))

  told : (references list : List ℕ) → Told list references (built_from layers list references)
  unfolding Told
  told [] list = inr (list, λ k reference n. absurd (not-suc-le-zero (nth_inside n)), none, refl)
  told (reference ∷ references) list = go (no_layer layers reference) refl (told references (referring layers list reference))
    where
      later : no_layer layers reference ≡ false → ((k r : ℕ) → Nth references k r → NoLayer layers r → ⊥)
          → (k r : ℕ) → Nth (reference ∷ references) k r → NoLayer layers r → ⊥
      later e f k r here p = both_ways (no_layer_only reference p) e
      later e f k r (there {k = m} n) p = f m r n p

      pass : no_layer layers reference ≡ false → Told (referring layers list reference) references (built_from layers (referring layers list reference) references)
          → Told list (reference ∷ references) (built_from layers (referring layers list reference) references)
      pass e (inl (k, r, n, p, q)) = inl (suc k, r, there n, p, q)
      pass e (inr (last, f, l, q)) = inr (last, later e f, next (adds_meant reference list) l, q)

      go : (b : Bool) → no_layer layers reference ≡ b
          → Told (referring layers list reference) references (built_from layers (referring layers list reference) references)
          → Told list (reference ∷ references)
          (cond b (record { absent = true; list = stream_list [] }) (built_from layers (referring layers list reference) references))
      go true e t = inl (0, reference, here, no_layer_meant reference e, refl)
      go false e t = pass e t

  -- THE ANSWER: what is computed is right,
  pub list_meant : (references : List ℕ) → Answers layers references (list_built layers references)
  unfolding Told
  list_meant references = go (told references [])
    where
      go : Told [] references (list_built layers references) → Answers layers references (list_built layers references)
      go (inl (k, r, n, p, q)) = subst (Answers layers references) (sym q) (refused n p)
      go (inr (last, f, l, q)) = subst (Answers layers references) (sym q) (built f l)

  -- 42 wherever one reference is such
  fault_refused : {references : List ℕ} {k reference : ℕ} (list : List ℕ) → Nth references k reference → NoLayer layers reference
      → built_from layers list references ≡ record { absent = true; list = stream_list [] }
  fault_refused list (here {x} {xs}) p = rw (no_layer_only x p)
  fault_refused list (there {y = y} {xs = xs} n) p = go (no_layer layers y) (fault_refused (referring layers list y) n p)
    where
      go : (b : Bool) → built_from layers (referring layers list y) xs ≡ record { absent = true; list = stream_list [] }
          → cond b (record { absent = true; list = stream_list [] }) (built_from layers (referring layers list y) xs)
          ≡ record { absent = true; list = stream_list [] }
      go true q = refl
      go false q = q

  -- else the list that they give
  lists_built : {before references list : List ℕ} → ((k reference : ℕ) → Nth references k reference → NoLayer layers reference → ⊥)
      → Lists layers before references list → built_from layers before references ≡ record { absent = false; list = stream_list list }
  lists_built f none = refl
  lists_built f (next {before} {after} {list} {reference} {references} a l) =
      rw (false_unless (no_layer layers reference) (λ e. f 0 reference here (no_layer_meant reference e)))
      (ap (λ (m : List ℕ). built_from layers m references) (sym (adds_only reference before a))
      ∙ lists_built (λ k r n. f (suc k) r (there n)) l)

  -- and nothing else is.
  pub list_only : (references : List ℕ) {answer : ListBuilt} → Answers layers references answer → answer ≡ list_built layers references
  list_only references (refused n p) = sym (fault_refused [] n p)
  list_only references (built f l) = sym (lists_built f l)

  -- One answer only.
  pub one_list : (references : List ℕ) {a b : ListBuilt} → Answers layers references a → Answers layers references b → a ≡ b
  one_list references p q = list_only references p ∙ sym (list_only references q)

  -- ---- closed under embedding

  module _ (set : ℕ) (within : set < 2 ^ 64) where
    -- a layer that names nothing but members
    names_inside : (i : ℕ) → escapes layers set i ≡ false → (j : ℕ) → Names layers i j → has set j ≡ true
    names_inside i e j n = go (has set j) refl
      where
        nothing : without (named layers i) set ≡ 0
        nothing = eqb-true (without (named layers i) set) 0 (not-false (eqb (without (named layers i) set) 0) e)

        go : (b : Bool) → has set j ≡ b → has set j ≡ true
        go true p = p
        go false p =
            both_ways
            (has_without (named layers i) set j ∙ ap₂ (λ (a b : Bool). a && not b) (has_named layers i j n) p)
            (ap (λ (s : ℕ). has s j) nothing ∙ has_none j)

    pub closed_meant : is_closed layers set ≡ true → Closed layers set
    closed_meant e =
        record {
          inside = λ i j m n. (let w = (members_ascending set within).all i m in
              names_inside i
              (ap (escapes layers set) (sym w.2)
              ∙ any_false (escapes layers set) (not-true (any (escapes layers set) (members_of set)) e) (get_d_nth (members_of set) w.0 0 w.1))
              j n);
        }

    pub closed_only : Closed layers set → is_closed layers set ≡ true
    closed_only c = ap not (false_unless (any (escapes layers set) (members_of set)) (λ e. none_escapes (any_which (escapes layers set) (members_of set) e)))
      where
        escaped : (i : ℕ) → has set i ≡ true → escapes layers set i ≡ true → ⊥
        escaped i m e =
            let small : without (named layers i) set < 2 ^ 64 = without_within 64 (named layers i) set (named_within layers i (let h = has_within 64 within m in omega arith)) in
            let found = lowest_member (without (named layers i) set) small
            (λ z. both_ways (eq-eqb (without (named layers i) set) 0 z) (not-true (eqb (without (named layers i) set) 0) e)) in
            let both = sym (has_without (named layers i) set (lowest (without (named layers i) set))) ∙ found in
            both_ways
            (c.inside i (lowest (without (named layers i) set)) m
            (names layers i (lowest (without (named layers i) set))
            (both_left (has (named layers i) (lowest (without (named layers i) set))) (not (has set (lowest (without (named layers i) set)))) both)))
            (not-true (has set (lowest (without (named layers i) set)))
            (both_right (has (named layers i) (lowest (without (named layers i) set))) (not (has set (lowest (without (named layers i) set)))) both))

        none_escapes : (k : ℕ) × (i : ℕ) × Nth (members_of set) k i × (escapes layers set i ≡ true) → ⊥
        none_escapes (k, i, n, e) =
            escaped i
            (ap (has set) (sym (nth_get_d 0 n)) ∙ (members_ascending set within).each k (nth_inside n)) e
