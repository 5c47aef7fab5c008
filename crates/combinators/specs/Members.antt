-- Whether a number stands in a list of numbers.
-- Assumes nothing.
use Rattle.std.specs.Prelude.{ℕ, zero, suc, ◌≤◌, ◌<◌, ◌≡◌, refl, ◌≢◌, Bool, true, false, not, ◌&&◌, ◌||◌, List, [], ◌∷◌, ◌++◌, map, eqb, leb, ltb, length, get_or}
use Rattle.std.proofs.Common.{sym, ◌∙◌, ap, eq-eqb, ne_eqb, eqb-true, le-leb, ltb-true, not-suc-le-zero, le_of_suc-le-suc, arith}
use Rattle.std.proofs.Math.Bool.{or_assoc, or-false}
use Rattle.combinators.specs.Bools.{both_left, both_right, either_left, either_right}
use Rattle.combinators.specs.Below.{every, every_at}
use Rattle.combinators.specs.Lists.{Nth, here, there}

abbrev pub member : ℕ → List ℕ → Bool
member x [] = false
member x (y ∷ ys) = eqb x y || member x ys

-- x is none of the list's numbers, one statement for each: what a chain of tests leaves
abbrev pub Avoids : ℕ → List ℕ → Type 0
Avoids x [] = Unit {0}
Avoids x (y ∷ ys) = (x ≢ y) × Avoids x ys

pub no_member : (x : ℕ) (l : List ℕ) → Avoids x l → member x l ≡ false
no_member x [] a = refl
no_member x (y ∷ ys) a = rw (ne_eqb x y a.0) (no_member x ys a.1)

-- a whole range stands in the list: one test, computed, says so of each of its numbers
pub range_member : (low high : ℕ) (l : List ℕ) → every (λ k. not (leb low k) || member k l) high ≡ true
    → (x : ℕ) → low ≤ x → x < high → member x l ≡ true
range_member low high l e x h k =
    rw (le-leb low x h) at (every_at (λ k. not (leb low k) || member k l) high e x k)

-- every number of the list is below a bound
abbrev pub all_below : ℕ → List ℕ → Bool
all_below bound [] = true
all_below bound (y ∷ ys) = ltb y bound && all_below bound ys

-- a number at or past the bound is then none of them
pub past_member : (bound : ℕ) (l : List ℕ) → all_below bound l ≡ true → (x : ℕ) → bound ≤ x → member x l ≡ false
past_member bound [] e x h = refl
past_member bound (y ∷ ys) e x h =
    let low : y < bound = ltb-true y bound (both_left (ltb y bound) (all_below bound ys) e) in
    rw (ne_eqb x y (omega arith)) (past_member bound ys (both_right (ltb y bound) (all_below bound ys) e) x h)

-- of two lists after one another
pub member_append : (x : ℕ) (l m : List ℕ) → member x (l ++ m) ≡ member x l || member x m
member_append x [] m = refl
member_append x (y ∷ ys) m = rw (member_append x ys m, or_assoc (eqb x y) (member x ys) (member x m))

-- one number more at the end
pub member_last : (x y : ℕ) (l : List ℕ) → member x (l ++ y ∷ []) ≡ member x l || eqb x y
member_last x y l = member_append x l (y ∷ []) ∙ ap (λ (b : Bool). member x l || b) (or-false (eqb x y))

-- what stands at a place of the list is a member, and a member stands at a place
pub member_at : (l : List ℕ) (i : ℕ) → i < length l → member (get_or l i 0) l ≡ true
member_at [] i h = absurd (not-suc-le-zero h)
member_at (y ∷ ys) zero h = either_left (eqb y y) (member y ys) (eq-eqb y y refl)
member_at (y ∷ ys) (suc i) h = either_right (eqb (get_or ys i 0) y) (member (get_or ys i 0) ys) (member_at ys i (le_of_suc-le-suc h))

pub member_which : (x : ℕ) (l : List ℕ) → member x l ≡ true → (i : ℕ) × (i < length l) × (get_or l i 0 ≡ x)
member_which x [] e = let z : ◌≡◌ {A = ℕ} 0 1 = cc in absurd (omega arith)
member_which x (y ∷ ys) e = go (eqb x y) refl (member_which x ys)
  where
    go : (b : Bool) → eqb x y ≡ b → (member x ys ≡ true → (i : ℕ) × (i < length ys) × (get_or ys i 0 ≡ x))
        → (i : ℕ) × (i < suc (length ys)) × (get_or (y ∷ ys) i 0 ≡ x)
    go true p later = (0, omega arith, sym (eqb-true x y p))
    go false p later = let w = later (rw p at e) in (suc w.0, omega (arith, w.1), w.2)

-- the same where f takes each element of a list to a number
module _ {A : Type 0} (f : A → ℕ) where
  pub nth_member : {l : List A} {k : ℕ} {x : A} → Nth l k x → member (f x) (map f l) ≡ true
  nth_member (here {x} {xs}) = either_left (eqb (f x) (f x)) (member (f x) (map f xs)) (eq-eqb (f x) (f x) refl)
  nth_member (there {x} {y} {xs} n) = either_right (eqb (f x) (f y)) (member (f x) (map f xs)) (nth_member n)

  pub member_nth : (i : ℕ) (l : List A) → member i (map f l) ≡ true → (k : ℕ) × (x : A) × Nth l k x × (f x ≡ i)
  member_nth i [] e = let z : ◌≡◌ {A = ℕ} 0 1 = cc in absurd (omega arith)
  member_nth i (x ∷ xs) e = go (eqb i (f x)) refl (member_nth i xs)
    where
      go : (b : Bool) → eqb i (f x) ≡ b → (member i (map f xs) ≡ true → (k : ℕ) × (y : A) × Nth xs k y × (f y ≡ i))
          → (k : ℕ) × (y : A) × Nth (x ∷ xs) k y × (f y ≡ i)
      go true p later = (0, x, here, sym (eqb-true i (f x) p))
      go false p later = let w = later (rw p at e) in (suc w.0, w.1, there w.2, w.3)
