-- The list as the code builds it: what the array, the count and the set hold after each reference, and the ways out.
-- Assumes nothing.
use Prim.Native.Nat.{ℕ, suc, ◌+◌, ◌-◌, ◌%◌, ◌/◌, ◌^◌, ◌≤◌, ◌<◌}
use mathlib.Core.Bool.{Bool, true, false, not, cond, ◌&&◌, ◌||◌, or_assoc}
use mathlib.Core.List.{List, [], ◌∷◌}
use mathlib.Core.Path.{◌≡◌, refl, sym, ap, ap₂, ◌∙◌, subst}
use native.Mathlib.Nat.{mod-lt}
use native.Mathlib.Numerals.{add-one}
use native.Mathlib.Omega.{arith}
use borrow.Author.Tests.{lt-ltb, le-ltb, eq-eqb, eqb-true}
use lib.Dec.{eqb}
use lib.ListN.{length, get_or, take, drop, replicate, drop_of_length-le}
use lib.Seq.{take_at, drop-cons}
use Rattle.combinators.specs.Bools.{false_unless, either_which}
use Rattle.combinators.specs.Members.{member}
use Rattle.combinators.specs.Once.{Once, once_short, Small}
use Rattle.combinators.specs.Padding.{pad_to}
use Rattle.sets.specs.Sets.{has, joined, only, added, without, members_of}
use Rattle.sets.proofs.Laws.{has_none, has_joined, has_only, has_without, has_below, has_within, below_within, without_within, same_members}
use Rattle.closure.specs.declared.Layers.{Layers}
use Rattle.closure.specs.Closures.{is_layer, named_by, named}
use Rattle.closure.proofs.Scan.{is_layer_lem}
use Rattle.stream_lists.specs.declared.ListBuilt.{ListBuilt}
use Rattle.stream_lists.specs.Insertion.{placed}
use Rattle.stream_lists.specs.Lists.{referred, prepends, asked, set_of, referring, no_layer, stream_list, built_from, list_built}
use Rattle.stream_lists.specs.Holding.{Ready}
use Rattle.sets.proofs.Members.{member_members, members_once}
use Rattle.stream_lists.proofs.Placed.{member_placed, placed_once, small_members, members_small}

-- ---- the set of a list

pub has_set : (j : ℕ) (list : List ℕ) → has (set_of list) j ≡ member j list
has_set j [] = has_none j
has_set j (x ∷ list) = has_joined (only x) (set_of list) j ∙ ap₂ (λ (a b : Bool). a || b) (has_only x j) (has_set j list)

-- with an index, and what goes before it
pub set_placed : (x new : ℕ) (list : List ℕ) → x < 64 → new < 2 ^ 64 → set_of (placed x (members_of new) list) ≡ added (joined (set_of list) new) x
set_placed x new list small within =
    same_members (set_of (placed x (members_of new) list)) (added (joined (set_of list) new) x)
    (λ j. has_set j (placed x (members_of new) list)
    ∙ member_placed j x (members_of new) list
    ∙ ap (λ (b : Bool). member j list || (b || eqb j x)) (member_members new within j)
    ∙ sym (or_assoc (member j list) (has new j) (eqb j x))
    ∙ sym (ap (λ (b : Bool). has (cond b (joined (joined (set_of list) new) (only x)) (joined (set_of list) new)) j) (lt-ltb x 64 small)
    ∙ has_joined (joined (set_of list) new) (only x) j
    ∙ ap₂ (λ (a b : Bool). a || b) (has_joined (set_of list) new j ∙ ap (λ (b : Bool). b || has new j) (has_set j list)) (has_only x j)))

-- ---- what a reference asks for

module _ (layers : Layers) where
  pub named_small : (i : ℕ) → i < 64 → named_by (has layers.present i) (get_or layers.embedded i 0) i ≡ named layers i
  named_small i h = ap (λ (b : Bool). named_by b (get_or layers.embedded i 0) i) (sym (is_layer_lem layers i h))

  pub named_within : (i : ℕ) → i ≤ 64 → named layers i < 2 ^ 64
  named_within i h = go (is_layer layers i)
    where
      go : (b : Bool) → named_by b (get_or layers.embedded i 0) i < 2 ^ 64
      go true = below_within 64 (get_or layers.embedded i 0) i h
      go false = omega arith

  -- no layer names itself
  named_lower : (i : ℕ) → has (named layers i) i ≡ false
  named_lower i = go (is_layer layers i)
    where
      go : (b : Bool) → has (named_by b (get_or layers.embedded i 0) i) i ≡ false
      go true =
          has_below (get_or layers.embedded i 0) i i
          ∙ ap (λ (b : Bool). b && has (get_or layers.embedded i 0) i) (le-ltb i i (omega arith))
      go false = has_none i

  module _ (reference : ℕ) where
    pub referred_small : referred reference < 64
    referred_small = mod-lt reference (omega arith)

    pub asked_within : asked layers reference < 2 ^ 64
    asked_within = go (prepends reference)
      where
        go : (b : Bool) → cond b (named layers (referred reference)) 0 < 2 ^ 64
        go true = named_within (referred reference) (omega (arith, referred_small))
        go false = omega arith

    asked_lower : has (asked layers reference) (referred reference) ≡ false
    asked_lower = go (prepends reference)
      where
        go : (b : Bool) → has (cond b (named layers (referred reference)) 0) (referred reference) ≡ false
        go true = named_lower (referred reference)
        go false = has_none (referred reference)

    -- as the code tests it
    pub asked_flagged : reference / 64 % 2 ≡ 1
        → named_by (has layers.present (reference % 64)) (get_or layers.embedded (reference % 64) 0) (reference % 64) ≡ asked layers reference
    asked_flagged e =
        named_small (reference % 64) referred_small
        ∙ sym (ap (λ (b : Bool). cond b (named layers (referred reference)) 0) (eq-eqb (reference / 64 % 2) 1 e))

    pub asked_nothing : (reference / 64 % 2 ≡ 1 → ⊥) → 0 ≡ asked layers reference
    asked_nothing n =
        sym (ap (λ (b : Bool). cond b (named layers (referred reference)) 0)
        (false_unless (prepends reference) (λ e. n (eqb-true (reference / 64 % 2) 1 e))))

    pub absent_itself : has layers.present (reference % 64) ≡ false → true ≡ no_layer layers reference
    absent_itself e =
        sym (ap (λ (b : Bool). not b || not (eqb (without (asked layers reference) layers.present) 0))
        (is_layer_lem layers (reference % 64) referred_small ∙ e))

    pub absent_dependency : (missing : ℕ) → has layers.present (reference % 64) ≡ true
        → missing ≡ without (asked layers reference) layers.present → not (eqb missing 0) ≡ no_layer layers reference
    absent_dependency missing e m =
        ap (λ (n : ℕ). not (eqb n 0)) m
        ∙ sym (ap (λ (b : Bool). not b || not (eqb (without (asked layers reference) layers.present) 0))
        (is_layer_lem layers (reference % 64) referred_small ∙ e))

    -- ---- one reference more

    module _ (list : List ℕ) (once : Once list) (small : Small 64 list) where
      fresh_within : without (asked layers reference) (set_of list) < 2 ^ 64
      fresh_within = without_within 64 (asked layers reference) (set_of list) asked_within

      has_fresh : (j : ℕ) → has (without (asked layers reference) (set_of list)) j ≡ has (asked layers reference) j && not (member j list)
      has_fresh j =
          has_without (asked layers reference) (set_of list) j ∙ ap (λ (b : Bool). has (asked layers reference) j && not b) (has_set j list)

      present_not_fresh : (j : ℕ) → member j list ≡ true → member j (members_of (without (asked layers reference) (set_of list))) ≡ false
      present_not_fresh j m =
          member_members (without (asked layers reference) (set_of list)) fresh_within j ∙ has_fresh j
          ∙ ap (λ (b : Bool). has (asked layers reference) j && not b) m ∙ never (has (asked layers reference) j)
        where
          never : (b : Bool) → b && false ≡ false
          never true = refl
          never false = refl

      itself_not_fresh : member (referred reference) (members_of (without (asked layers reference) (set_of list))) ≡ false
      itself_not_fresh =
          member_members (without (asked layers reference) (set_of list)) fresh_within (referred reference) ∙ has_fresh (referred reference)
          ∙ ap (λ (b : Bool). b && not (member (referred reference) list)) asked_lower

      pub referring_once : Once (referring layers list reference)
      referring_once =
          placed_once (referred reference) (members_of (without (asked layers reference) (set_of list))) list once
          (members_once (without (asked layers reference) (set_of list)) fresh_within) present_not_fresh itself_not_fresh

      pub referring_small : Small 64 (referring layers list reference)
      referring_small =
          small_members 64 (referring layers list reference)
          (λ j m. which j (either_which (member j list) (member j new || eqb j (referred reference)) (sym (member_placed j (referred reference) new list) ∙ m)))
        where
          new : List ℕ
          new = members_of (without (asked layers reference) (set_of list))

          last : (j : ℕ) → mathlib.Core.Logic.◌⊎◌ (member j new ≡ true) (eqb j (referred reference) ≡ true) → j < 64
          last j (mathlib.Core.Logic.inl m) =
              has_within 64 fresh_within (sym (member_members (without (asked layers reference) (set_of list)) fresh_within j) ∙ m)
          last j (mathlib.Core.Logic.inr e) = subst (λ (k : ℕ). k < 64) (sym (eqb-true j (referred reference) e)) referred_small

          which : (j : ℕ) → mathlib.Core.Logic.◌⊎◌ (member j list ≡ true) (member j new || eqb j (referred reference) ≡ true) → j < 64
          which j (mathlib.Core.Logic.inl m) = members_small 64 list small j m
          which j (mathlib.Core.Logic.inr e) = last j (either_which (member j new) (eqb j (referred reference)) e)

      pub referring_short : length (referring layers list reference) ≤ 64
      referring_short = once_short (referring layers list reference) 64 referring_once referring_small

  -- ---- the loop

  module _ (references : List ℕ) where
    pub record Building (members : List ℕ) (count present at : ℕ) : Type 0 where
      pub list : List ℕ
      pub once : Once list
      pub small : Small 64 list
      pub counted : count ≡ length list
      pub filled : members ≡ pad_to 64 0 list
      pub set : present ≡ set_of list
      pub within : at ≤ length references
      pub left : built_from layers list (drop at references) ≡ list_built layers references

    pub building_start : Building (replicate 64 0) 0 0 0
    building_start =
        record {
          list = [];
          once = tt;
          small = λ i h. absurd (native.Mathlib.Nat.not-suc-le-zero h);
          counted = refl;
          filled = refl;
          set = refl;
          within = omega arith;
          left = refl;
        }

    module _ (members : List ℕ) (count present at : ℕ) (known : Building members count present at) where
      front : take count members ≡ known.list
      front =
          ap₂ (λ (n : ℕ) (l : List ℕ). take n l) known.counted known.filled
          ∙ take_at known.list (replicate (64 - length known.list) 0) (length known.list) refl

      -- there is room
      pub building_ready : (reference new : ℕ) → new ≡ without (asked layers reference) present → Ready members count present (reference % 64) new
      building_ready reference new e =
          record {
            within = omega (arith, known.counted, once_short known.list 64 known.once known.small);
            holds = known.filled ∙ ap (pad_to 64 0) (sym front);
            set = known.set ∙ ap set_of (sym front);
            small = referred_small reference;
            room = subst (λ (l : List ℕ). length l ≤ 64) (sym (same_list reference new e)) (referring_short reference known.list known.once known.small);
          }
        where
          same_list : (reference new : ℕ) → new ≡ without (asked layers reference) present
              → placed (reference % 64) (members_of new) (take count members) ≡ referring layers known.list reference
          same_list reference new e =
              ap₂ (λ (n : ℕ) (l : List ℕ). placed (reference % 64) (members_of n) l)
              (e ∙ ap (without (asked layers reference)) known.set) front

      module _ (inside : at < length references) where
        here : built_from layers known.list (get_or references at 0 ∷ drop (suc at) references) ≡ list_built layers references
        here = ap (built_from layers known.list) (sym (drop-cons references at 0 inside)) ∙ known.left

        -- 42
        pub building_refused : no_layer layers (get_or references at 0) ≡ true
            → ◌≡◌ {A = ListBuilt} (record { absent = true; list = stream_list [] }) (list_built layers references)
        building_refused e =
            sym (ap (λ (b : Bool). cond b (record { absent = true; list = stream_list [] })
            (built_from layers (referring layers known.list (get_or references at 0)) (drop (suc at) references))) e)
            ∙ here

        -- one reference more
        pub building_more : (new count' present' : ℕ) (members' : List ℕ) → no_layer layers (get_or references at 0) ≡ false
            → new ≡ without (asked layers (get_or references at 0)) present
            → count' ≡ length (placed (get_or references at 0 % 64) (members_of new) (take count members))
            → members' ≡ pad_to 64 0 (placed (get_or references at 0 % 64) (members_of new) (take count members))
            → present' ≡ added (joined present new) (get_or references at 0 % 64)
            → Building members' count' present' (at + 1)
        building_more new count' present' members' clear e counted filled set =
            let reference = get_or references at 0 in
            let same_new : new ≡ without (asked layers reference) (set_of known.list) = e ∙ ap (without (asked layers reference)) known.set in
            let same : placed (reference % 64) (members_of new) (take count members) ≡ referring layers known.list reference =
            ap₂ (λ (n : ℕ) (l : List ℕ). placed (reference % 64) (members_of n) l) same_new front in
            record {
              list = referring layers known.list reference;
              once = referring_once reference known.list known.once known.small;
              small = referring_small reference known.list known.once known.small;
              counted = counted ∙ ap length same;
              filled = filled ∙ ap (pad_to 64 0) same;
              set = set
                  ∙ ap₂ (λ (p n : ℕ). added (joined p n) (reference % 64)) known.set same_new
                  ∙ sym (set_placed (reference % 64) (without (asked layers reference) (set_of known.list)) known.list (referred_small reference)
                  (fresh_within reference known.list known.once known.small));
              within = omega arith;
              left = ap (λ (n : ℕ). built_from layers (referring layers known.list reference) (drop n references)) (add-one at)
                  ∙ sym (ap (λ (b : Bool). cond b (record { absent = true; list = stream_list [] })
                  (built_from layers (referring layers known.list reference) (drop (suc at) references))) clear)
                  ∙ here;
            }

      -- no reference is left
      pub building_end : length references ≤ at
          → ◌≡◌ {A = ListBuilt} (record { absent = false; list = record { present = present; count = count; members = members } }) (list_built layers references)
      building_end h =
          answer present count members known.set known.counted known.filled
          ∙ ap (built_from layers known.list) (sym (drop_of_length-le references h))
          ∙ known.left
        where
          answer : (p n : ℕ) (m : List ℕ) → p ≡ set_of known.list → n ≡ length known.list → m ≡ pad_to 64 0 known.list
              → ◌≡◌ {A = ListBuilt} (record { absent = false; list = record { present = p; count = n; members = m } })
              (record { absent = false; list = stream_list known.list })
          answer p n m e f g = rw (e, f, g)
