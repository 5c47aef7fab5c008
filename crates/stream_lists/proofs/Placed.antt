-- A list with something immediately before the place of a number: its members, that none stands twice, and how the code puts it there in two steps.
-- Assumes nothing.
use Prim.Native.Nat.{ℕ, suc, ◌+◌, ◌≤◌, ◌<◌}
use mathlib.Core.Bool.{Bool, true, false, cond, ◌||◌, or_assoc}
use mathlib.Core.List.{List, [], ◌∷◌, ◌++◌}
use mathlib.Core.Path.{◌≡◌, refl, sym, ap, ◌∙◌}
use native.Mathlib.Numerals.{add-one}
use native.Mathlib.Omega.{arith}
use borrow.Author.Tests.{eqb-true, eq-eqb, ne_eqb, eqb-false}
use lib.Dec.{eqb}
use lib.ListN.{length, get_or, take, drop, length-append, length-take, length-drop}
use lib.Seq.{drop-cons}
use Rattle.combinators.specs.Bools.{either_left, either_right, neither_left, neither_right, apart}
use Rattle.combinators.specs.Lists.{any}
use Rattle.combinators.specs.Members.{member, member_append, member_last, member_at, member_which}
use Rattle.combinators.specs.Once.{Once, once_append, Small}
use Rattle.stream_lists.specs.Insertion.{placed, place_of}

-- ---- members

shuffled : (a b c : Bool) → a || (b || c) ≡ (b || c) || (a || b)
shuffled true true c = refl
shuffled true false true = refl
shuffled true false false = refl
shuffled false true c = refl
shuffled false false true = refl
shuffled false false false = refl

pub member_placed : (j x : ℕ) (new list : List ℕ) → member j (placed x new list) ≡ member j list || (member j new || eqb j x)
member_placed j x new [] = member_last j x new
member_placed j x new (y ∷ list) = go (eqb x y) refl (member_placed j x new list)
  where
    go : (b : Bool) → eqb x y ≡ b → member j (placed x new list) ≡ member j list || (member j new || eqb j x)
        → member j (cond b (new ++ (y ∷ list)) (y ∷ placed x new list)) ≡ (eqb j y || member j list) || (member j new || eqb j x)
    go true e ih =
        member_append j new (y ∷ list) ∙ shuffled (member j new) (eqb j y) (member j list)
        ∙ ap (λ (n : ℕ). (eqb j y || member j list) || (member j new || eqb j n)) (sym (eqb-true x y e))
    go false e ih = ap (λ (b : Bool). eqb j y || b) ih ∙ sym (or_assoc (eqb j y) (member j list) (member j new || eqb j x))

-- ---- no number twice

none_common : (a b : List ℕ) → ((j : ℕ) → member j b ≡ true → member j a ≡ false) → any (λ x. member x a) b ≡ false
none_common a [] f = refl
none_common a (y ∷ b) f =
    rw (f y (either_left (eqb y y) (member y b) (eq-eqb y y refl))) (none_common a b (λ j m. f j (either_right (eqb j y) (member j b) m)))

pub placed_once : (x : ℕ) (new list : List ℕ) → Once list → Once new → ((j : ℕ) → member j list ≡ true → member j new ≡ false)
    → member x new ≡ false → Once (placed x new list)
placed_once x new [] p q f e = once_append new (x ∷ []) q (refl, tt) (rw e)
placed_once x new (y ∷ list) p q f e =
    go (eqb x y) refl (placed_once x new list p.1 q (λ j m. f j (either_right (eqb j y) (member j list) m)) e)
  where
    go : (b : Bool) → eqb x y ≡ b → Once (placed x new list) → Once (cond b (new ++ (y ∷ list)) (y ∷ placed x new list))
    go true s ih = once_append new (y ∷ list) q p (none_common new (y ∷ list) f)
    go false s ih =
        let other = eqb-false x y s in (
          member_placed y x new list
              ∙ rw (p.0, f y (either_left (eqb y y) (member y list) (eq-eqb y y refl)), ne_eqb y x (λ r. other (sym r))),
          ih,
        )

-- ---- numbers below a bound

pub small_members : (n : ℕ) (list : List ℕ) → ((j : ℕ) → member j list ≡ true → j < n) → Small n list
small_members n list f i h = f (get_or list i 0) (member_at list i h)

pub members_small : (n : ℕ) (list : List ℕ) → Small n list → (j : ℕ) → member j list ≡ true → j < n
members_small n list small j m = let w = member_which j list m in mathlib.Core.Path.subst (λ (k : ℕ). k < n) w.2 (small w.0 w.1)

-- ---- where the number stands

pub place_inside : (x : ℕ) (list : List ℕ) → member x list ≡ true → place_of x list < length list
place_inside x [] m = apart m
place_inside x (y ∷ list) m = go (eqb x y) refl (place_inside x list)
  where
    go : (b : Bool) → eqb x y ≡ b → (member x list ≡ true → place_of x list < length list) → cond b 0 (suc (place_of x list)) < suc (length list)
    go true e later = omega arith
    go false e later = let h = later (rw e at m) in omega arith

-- ---- the list by its two cases

pub placed_there : (x : ℕ) (new list : List ℕ) → member x list ≡ true
    → placed x new list ≡ take (place_of x list) list ++ (new ++ drop (place_of x list) list)
placed_there x new [] m = apart m
placed_there x new (y ∷ list) m = go (eqb x y) refl (placed_there x new list)
  where
    go : (b : Bool) → eqb x y ≡ b → (member x list ≡ true → placed x new list ≡ take (place_of x list) list ++ (new ++ drop (place_of x list) list))
        → cond b (new ++ (y ∷ list)) (y ∷ placed x new list)
        ≡ take (cond b 0 (suc (place_of x list))) (y ∷ list) ++ (new ++ drop (cond b 0 (suc (place_of x list))) (y ∷ list))
    go true e later = refl
    go false e later = ap (λ (l : List ℕ). y ∷ l) (later (rw e at m))

pub placed_absent : (x : ℕ) (new list : List ℕ) → member x list ≡ false → placed x new list ≡ list ++ (new ++ (x ∷ []))
placed_absent x new [] m = refl
placed_absent x new (y ∷ list) m =
    rw (neither_left (eqb x y) (member x list) m)
    (ap (λ (l : List ℕ). y ∷ l) (placed_absent x new list (neither_right (eqb x y) (member x list) m)))

pub placed_same : (x : ℕ) (list : List ℕ) → member x list ≡ true → placed x [] list ≡ list
placed_same x list m = placed_there x [] list m ∙ lib.ListN.take-append-drop (place_of x list) list

-- ---- in two steps: the number first, then what goes before it

pub placed_twice : (x : ℕ) (new list : List ℕ) → placed x new (placed x [] list) ≡ placed x new list
placed_twice x new [] = rw (eq-eqb x x refl)
placed_twice x new (y ∷ list) = go (eqb x y) refl (placed_twice x new list)
  where
    go : (b : Bool) → eqb x y ≡ b → placed x new (placed x [] list) ≡ placed x new list
        → placed x new (cond b (y ∷ list) (y ∷ placed x [] list)) ≡ cond b (new ++ (y ∷ list)) (y ∷ placed x new list)
    go true e ih = rw e
    go false e ih = rw e (ap (λ (l : List ℕ). y ∷ l) ih)

-- the number is in the list then
pub placed_in : (x : ℕ) (list : List ℕ) → member x (placed x [] list) ≡ true
placed_in x list = member_placed x x [] list ∙ either_right (member x list) (eqb x x) (eq-eqb x x refl)

-- as many more as are new
pub placed_length : (x : ℕ) (new list : List ℕ) → length (placed x new list) ≡ length (placed x [] list) + length new
placed_length x new list =
    let l = placed x [] list in
    ap length (sym (placed_twice x new list) ∙ placed_there x new l (placed_in x list))
    ∙ simp (length-append, length-take, length-drop) (let h = place_inside x l (placed_in x list) in omega arith)

-- ---- the search for the place

-- before each place that has been passed stands another number
pub place_next : (x at : ℕ) (list : List ℕ) → at < length list → place_of x list ≡ at + place_of x (drop at list) → (get_or list at 0 ≡ x → ⊥)
    → place_of x list ≡ at + 1 + place_of x (drop (at + 1) list)
place_next x at list h e other =
    let far : place_of x (drop at list) ≡ suc (place_of x (drop (at + 1) list)) =
    rw (drop-cons list at 0 h, ne_eqb x (get_or list at 0) (λ p. other (sym p)), add-one at) in
    omega arith

pub place_here : (x at : ℕ) (list : List ℕ) → at < length list → place_of x list ≡ at + place_of x (drop at list) → get_or list at 0 ≡ x
    → at ≡ place_of x list
place_here x at list h e here =
    let near : place_of x (drop at list) ≡ 0 = rw (drop-cons list at 0 h, eq-eqb x (get_or list at 0) (sym here)) in
    omega arith

pub place_none : (x at : ℕ) (list : List ℕ) → length list ≤ at → place_of x list ≡ at + place_of x (drop at list) → at ≡ place_of x list
place_none x at list h e =
    let near : place_of x (drop at list) ≡ 0 = ap (place_of x) (lib.ListN.drop_of_length-le list h) in
    omega arith
