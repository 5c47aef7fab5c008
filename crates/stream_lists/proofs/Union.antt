-- A POINT WHOSE LIST IS CLOSED UNDER EMBEDDING gives, ordered by index, exactly the union of the closures of its members, each complete:
-- `closed_union`, for the list of any accepted references; and no other list does: `union_closed`.
-- Assumes nothing.
use Prim.Native.Nat.{ℕ, suc, ◌^◌, ◌<◌}
use mathlib.Core.Bool.{Bool, true, false, not, ◌||◌}
use mathlib.Core.List.{List, [], ◌∷◌}
use mathlib.Core.Logic.{◌⊎◌, inl, inr, ◌↔◌}
use mathlib.Core.Path.{◌≡◌, refl, sym, ap, ◌∙◌, subst}
use native.Mathlib.Omega.{arith}
use borrow.Author.Tests.{eq-eqb, eqb-true}
use lib.Dec.{eqb}
use Rattle.combinators.specs.Bools.{apart, both_left, either_left, either_right, either_which}
use Rattle.combinators.specs.Lists.{Nth, here, there}
use Rattle.combinators.specs.Members.{member}
use Rattle.sets.specs.Sets.{has, only, without, members_of}
use Rattle.sets.proofs.Laws.{has_without, joined_within, only_within, without_within}
use Rattle.closure.specs.declared.Layers.{Layers}
use Rattle.closure.specs.Closures.{is_layer, rested_on}
use Rattle.closure.specs.Meaning.{RestsOn, itself, by}
use Rattle.closure.proofs.Reached.{layer_below_64, member_rests_on, rests_on_member}
use Rattle.stream_lists.specs.Lists.{referred, asked, set_of, referring, is_closed}
use Rattle.stream_lists.specs.Meaning.{NoLayer, dependency, Lists, none, next, Closed, ClosuresJoined, Ordered}
use Rattle.sets.proofs.Members.{members_ascending, member_members, member_holds, holds_member}
use Rattle.stream_lists.proofs.Placed.{member_placed}
use Rattle.stream_lists.proofs.Building.{has_set, asked_within}
use Rattle.stream_lists.proofs.Meant.{asked_names, adds_only, closed_meant, closed_only}

-- every member is a layer of the loop
abbrev pub AllLayers : Layers → List ℕ → Type 0
AllLayers layers list = (i : ℕ) → member i list ≡ true → is_layer layers i ≡ true

module _ (layers : Layers) where
  layer_unless : (reference : ℕ) → (NoLayer layers reference → ⊥) → (b : Bool) → ((b ≡ false) → NoLayer layers reference) → b ≡ true
  layer_unless reference f true g = refl
  layer_unless reference f false g = absurd (f (g refl))

  referring_layers : (reference : ℕ) (list : List ℕ) → (NoLayer layers reference → ⊥) → AllLayers layers list → AllLayers layers (referring layers list reference)
  referring_layers reference list clear all i m =
      which (either_which (member i list) (member i new || eqb i (referred reference)) (sym (member_placed i (referred reference) new list) ∙ m))
    where
      new : List ℕ
      new = members_of (without (asked layers reference) (set_of list))

      within : without (asked layers reference) (set_of list) < 2 ^ 64
      within = without_within 64 (asked layers reference) (set_of list) (asked_within layers reference)

      last : (member i new ≡ true) ⊎ (eqb i (referred reference) ≡ true) → is_layer layers i ≡ true
      last (inl n) =
          let is_asked : has (asked layers reference) i ≡ true =
          both_left (has (asked layers reference) i) (not (has (set_of list) i))
          (sym (has_without (asked layers reference) (set_of list) i) ∙ sym (member_members (without (asked layers reference) (set_of list)) within i) ∙ n) in
          let w = asked_names layers reference i is_asked in
          layer_unless reference clear (is_layer layers i) (λ e. dependency w.0 w.1 e)
      last (inr e) =
          layer_unless reference clear (is_layer layers i)
          (λ f. Rattle.stream_lists.specs.Meaning.itself (ap (is_layer layers) (sym (eqb-true i (referred reference) e)) ∙ f))

      which : (member i list ≡ true) ⊎ (member i new || eqb i (referred reference) ≡ true) → is_layer layers i ≡ true
      which (inl n) = all i n
      which (inr e) = last (either_which (member i new) (eqb i (referred reference)) e)

  lists_layers : {before references list : List ℕ} → ((k reference : ℕ) → Nth references k reference → NoLayer layers reference → ⊥)
      → Lists layers before references list → AllLayers layers before → AllLayers layers list
  lists_layers clear none all = all
  lists_layers clear (next {before} {after} {list} {reference} {references} a l) all =
      lists_layers (λ k r n. clear (suc k) r (there n)) l
      (subst (AllLayers layers) (sym (adds_only layers reference before a)) (referring_layers reference before (clear 0 reference here) all))

  -- ---- a list of layers

  module _ (list : List ℕ) (all : AllLayers layers list) where
    set_small : set_of list < 2 ^ 64
    set_small = go list all
      where
        go : (l : List ℕ) → ((i : ℕ) → member i l ≡ true → is_layer layers i ≡ true) → set_of l < 2 ^ 64
        go [] f = omega arith
        go (x ∷ l) f =
            joined_within 64 (only x) (set_of l)
            (only_within 64 x (layer_below_64 layers x (f x (either_left (eqb x x) (member x l) (eq-eqb x x refl)))))
            (go l (λ i m. f i (either_right (eqb i x) (member i l) m)))

    -- its set in ascending order is the list ordered by index
    pub ordered_list : Ordered list (members_of (set_of list))
    ordered_list =
        let a = members_ascending (set_of list) set_small in
        record {
          each = λ i h. sym (has_set (lib.ListN.get_or (members_of (set_of list)) i 0) list) ∙ a.each i h;
          all = λ n m. a.all n (has_set n list ∙ m);
          rising = a.rising;
        }

    module _ (closed : Closed layers (set_of list)) where
      -- whatever a member rests on is a member
      stays : (i j : ℕ) → member i list ≡ true → RestsOn layers i j → member j list ≡ true
      stays i j m itself = m
      stays i j m (by {i = k} r n) = sym (has_set j list) ∙ closed.inside k j (has_set k list ∙ stays i k m r) n

      joined : (ordered : List ℕ) → Ordered list ordered → ClosuresJoined layers list ordered
      joined ordered o =
          record {
            union = record {
              each = λ i h. record { index = lib.ListN.get_or ordered i 0; listed = o.each i h; rested_on = itself };
              all = λ j p. o.all j (stays p.index j p.listed p.rested_on);
              rising = o.rising;
            };
            complete = λ i m. (
              rested_on layers i,
              record {
                members = λ j. (member_rests_on layers i j, rests_on_member layers i j);
                in_loop = λ j r. all j (stays i j m r);
              },
            );
          }

    -- the other way: a list that gives the closures of its members is closed
    pub union_closed : (ordered : List ℕ) → Ordered list ordered → ClosuresJoined layers list ordered → Closed layers (set_of list)
    union_closed ordered o u =
        record {
          inside = λ i j m n. has_set j list
              ∙ member_holds ordered o j
              (holds_member ordered u.union j (record { index = i; listed = sym (has_set i list) ∙ m; rested_on = by itself n }));
        }

  -- THE THEOREM, of every list that is built from references without 42
  pub closed_union : (references list ordered : List ℕ) → ((k reference : ℕ) → Nth references k reference → NoLayer layers reference → ⊥)
      → Lists layers [] references list → Ordered list ordered → Closed layers (set_of list) ↔ ClosuresJoined layers list ordered
  closed_union references list ordered clear l o =
      let all : AllLayers layers list = lists_layers clear l (λ i m. apart m) in
      (λ c. joined list all c ordered o, λ u. union_closed list all ordered o u)

  -- and so of what `closed` answers for it
  pub closed_call_union : (references list ordered : List ℕ) → ((k reference : ℕ) → Nth references k reference → NoLayer layers reference → ⊥)
      → Lists layers [] references list → Ordered list ordered → (is_closed layers (set_of list) ≡ true) ↔ ClosuresJoined layers list ordered
  closed_call_union references list ordered clear l o =
      let small = set_small list (lists_layers clear l (λ i m. apart m)) in
      let u = closed_union references list ordered clear l o in
      (λ e. u.0 (closed_meant layers (set_of list) small e), λ j. closed_only layers (set_of list) small (u.1 j))
