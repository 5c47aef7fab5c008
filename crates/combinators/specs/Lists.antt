-- Searches over a list, what is gathered from one, and a list from a place on.
-- Assumes nothing.
use Rattle.std.specs.Prelude.{ℕ, zero, suc, ◌+◌, ◌-◌, ◌≤◌, ◌<◌, min, ◌≡◌, refl, Bool, true, false, ◌||◌, length, get_or, take, drop}
use Rattle.std.proofs.Common.{sym, ap, ap₂, ◌∙◌, arith, not-suc-le-zero, add-zero, zero-add, add-suc, suc-add, add-one, length-drop, take_all, drop-cons, take-suc, length-take-le, get_or-take}
use Rattle.std.proofs.Math.Bool.{or_assoc, or-false}
use mathlib.Core.List.{List, [], ◌∷◌, ◌++◌, map, append-nil, append_assoc, head-eq_of_cons-eq, tail-eq_of_cons-eq}
use Rattle.std.proofs.Math.Decide.{dec_lt}
use Rattle.combinators.specs.Bools.{neither_left, neither_right, either_left, either_right}
use Rattle.combinators.specs.Below.{First}

module _ {A : Type 0} where
  -- some element passes the test
  abbrev pub any : (A → Bool) → List A → Bool
  any test [] = false
  any test (x ∷ xs) = test x || any test xs

  -- what each element gives, in the list's order
  abbrev pub gather : {B : Type 0} → (A → List B) → List A → List B
  gather f [] = []
  gather f (x ∷ xs) = f x ++ gather f xs

  pub gather_append : {B : Type 0} (f : A → List B) (xs ys : List A) → gather f (xs ++ ys) ≡ gather f xs ++ gather f ys
  gather_append f [] ys = refl
  gather_append f (x ∷ xs) ys = rw (gather_append f xs ys, append_assoc (f x) (gather f xs) (gather f ys))

-- a part that starts anywhere and goes to the end
pub part_to_end : {A : Type 0} (l : List A) (at : ℕ) → take (length l - at) (drop at l) ≡ drop at l
part_to_end l at = take_all (length l - at) (drop at l) (rw (length-drop at l) (omega arith))

-- the place of the first test of a list that holds, or its length
abbrev pub first_true : List Bool → ℕ
first_true [] = 0
first_true (true ∷ ts) = 0
first_true (false ∷ ts) = suc (first_true ts)

pub first_true_lem : (ts : List Bool) → First (λ n. get_or ts n false) (length ts) (first_true ts)
first_true_lem [] = record { within = omega arith; before = λ j h. absurd (not-suc-le-zero h); found = λ h. absurd (not-suc-le-zero h) }
first_true_lem (true ∷ ts) = record { within = omega arith; before = λ j h. absurd (not-suc-le-zero h); found = λ h. refl }
first_true_lem (false ∷ ts) =
    let later = first_true_lem ts in
    record { within = (let w = later.within in omega arith); before = go later.before; found = λ h. later.found (omega arith) }
  where
    go : ((j : ℕ) → j < first_true ts → get_or ts j false ≡ false) → (j : ℕ) → j < suc (first_true ts) → get_or (false ∷ ts) j false ≡ false
    go before zero h = refl
    go before (suc j) h = before j (omega arith)

-- What a list has from a place on, where that begins with x: the place is inside, x stands there, and the rest follows.
pub record Next {A : Type 0} (l : List A) (k : ℕ) (x : A) (xs : List A) : Type 0 where
  pub inside : k < length l
  pub here : (d : A) → get_or l k d ≡ x
  pub after : drop (k + 1) l ≡ xs
  pub longer : take (k + 1) l ≡ take k l ++ (x ∷ [])

pub next : {A : Type 0} (l : List A) (k : ℕ) (x : A) (xs : List A) → drop k l ≡ x ∷ xs → Next l k x xs
next l k x xs e =
    let long : length l - k ≡ suc (length xs) = sym (length-drop k l) ∙ ap length e in
    let h : k < length l = omega arith in
    let split : (d : _) → get_or l k d ∷ drop (suc k) l ≡ x ∷ xs = λ d. sym (drop-cons l k d h) ∙ e in
    record {
      inside = h;
      here = λ d. head-eq_of_cons-eq (split d);
      after = rw (add-one k) (tail-eq_of_cons-eq (split x));
      longer = rw (add-one k) (take-suc l k x h ∙ ap (λ y. take k l ++ (y ∷ [])) (head-eq_of_cons-eq (split x)));
    }

-- the element at a place, counted from 0
pub data Nth {A : Type 0} : List A → ℕ → A → Type 0 where
  here : {x : A} {xs : List A} → Nth (x ∷ xs) 0 x
  there : {x y : A} {xs : List A} {k : ℕ} → Nth xs k x → Nth (y ∷ xs) (suc k) x

pub nth_inside : {A : Type 0} {l : List A} {k : ℕ} {x : A} → Nth l k x → k < length l
nth_inside here = omega arith
nth_inside (there n) = let h = nth_inside n in omega arith

pub nth_get_d : {A : Type 0} {l : List A} {k : ℕ} {x : A} (d : A) → Nth l k x → get_or l k d ≡ x
nth_get_d d here = refl
nth_get_d d (there n) = nth_get_d d n

pub get_d_nth : {A : Type 0} (l : List A) (k : ℕ) (d : A) → k < length l → Nth l k (get_or l k d)
get_d_nth [] k d h = absurd (not-suc-le-zero h)
get_d_nth (x ∷ xs) zero d h = here
get_d_nth (x ∷ xs) (suc k) d h = there (get_d_nth xs k d (omega arith))

-- one element stands at a place
pub nth_one : {A : Type 0} {l : List A} {k : ℕ} {x y : A} → Nth l k x → Nth l k y → x ≡ y
nth_one {y = y} n m = sym (nth_get_d y n) ∙ nth_get_d y m

-- what stands in a list of which each element was taken by f
pub nth_of_map : {A B : Type 0} (f : A → B) (l : List A) {k : ℕ} {y : B} → Nth (map f l) k y → (x : A) × Nth l k x × (f x ≡ y)
nth_of_map f [] n = absurd (not-suc-le-zero (nth_inside n))
nth_of_map f (x ∷ xs) here = (x, here, refl)
nth_of_map f (x ∷ xs) (there n) = let w = nth_of_map f xs n in (w.0, there w.1, w.2)

pub nth_map : {A B : Type 0} (f : A → B) {l : List A} {k : ℕ} {x : A} → Nth l k x → Nth (map f l) k (f x)
nth_map f here = here
nth_map f (there n) = there (nth_map f n)

pub get_d_map : {A B : Type 0} (f : A → B) {l : List A} {k : ℕ} {x : A} (d : B) → Nth l k x → get_or (map f l) k d ≡ f x
get_d_map f d n = nth_get_d d (nth_map f n)

-- an element of a list that passes a test
pub any_true : {A : Type 0} (test : A → Bool) {l : List A} {k : ℕ} {x : A} → Nth l k x → test x ≡ true → any test l ≡ true
any_true test (here {x} {xs}) e = either_left (test x) (any test xs) e
any_true test (there {x} {y} {xs} n) e = either_right (test y) (any test xs) (any_true test n e)

-- where none passes, each fails
pub any_false : {A : Type 0} (test : A → Bool) {l : List A} {k : ℕ} {x : A} → any test l ≡ false → Nth l k x → test x ≡ false
any_false test e (here {x} {xs}) = neither_left (test x) (any test xs) e
any_false test e (there {x} {y} {xs} n) = any_false test (neither_right (test y) (any test xs) e) n

-- where some element passes, one can be named
pub any_which : {A : Type 0} (test : A → Bool) (l : List A) → any test l ≡ true → (k : ℕ) × (x : A) × Nth l k x × (test x ≡ true)
any_which test [] e = let z : ◌≡◌ {A = ℕ} 0 1 = cc in absurd (omega arith)
any_which test (x ∷ xs) e = go (test x) refl (any_which test xs)
  where
    go : (b : Bool) → test x ≡ b → (any test xs ≡ true → (k : ℕ) × (y : _) × Nth xs k y × (test y ≡ true))
        → (k : ℕ) × (y : _) × Nth (x ∷ xs) k y × (test y ≡ true)
    go true p later = (0, x, here, p)
    go false p later = let w = later (rw p at e) in (suc w.0, w.1, there w.2, w.3)

-- tests that agree on a list's elements pass at some of them alike
pub any_same : {A : Type 0} (test other : A → Bool) (d : A) (l : List A) → ((k : ℕ) → k < length l → test (get_or l k d) ≡ other (get_or l k d))
    → any test l ≡ any other l
any_same test other d [] f = refl
any_same test other d (x ∷ xs) f =
    ap₂ (λ (a b : Bool). a || b) (f 0 (omega arith)) (any_same test other d xs (λ k h. f (suc k) (omega arith)))

-- A list of tests, each with what follows where it holds, by its place in the list.
abbrev pub Handled : (ℕ → Type 0) → ℕ → List Bool → Type 0
Handled P i [] = Unit {0}
Handled P i (t ∷ ts) = (t ≡ true → P i) × Handled P (suc i) ts

handled_from : (P : ℕ → Type 0) (i : ℕ) (ts : List Bool) → Handled P i ts → (n : ℕ) → get_or ts n false ≡ true → P (i + n)
handled_from P i [] h n e = let z : ◌≡◌ {A = ℕ} 0 1 = cc in absurd (omega arith)
handled_from P i (t ∷ ts) h zero e = rw (add-zero i) (h.0 e)
handled_from P i (t ∷ ts) h (suc n) e = rw (add-suc i n, ← suc-add i n) (handled_from P (suc i) ts h.1 n e)

pub handled : (P : ℕ → Type 0) (ts : List Bool) → Handled P 0 ts → (n : ℕ) → get_or ts n false ≡ true → P n
handled P ts h n e = rw zero-add at (handled_from P 0 ts h n e)

-- ---- the first elements of a list: whether some of them pass a test, and what is gathered from them

pub any_append : {A : Type 0} (test : A → Bool) (xs ys : List A) → any test (xs ++ ys) ≡ any test xs || any test ys
any_append test [] ys = refl
any_append test (x ∷ xs) ys = rw (any_append test xs ys, or_assoc (test x) (any test xs) (any test ys))

pub any_map : {A B : Type 0} (test : B → Bool) (f : A → B) (l : List A) → any test (map f l) ≡ any (λ x. test (f x)) l
any_map test f [] = refl
any_map test f (x ∷ xs) = rw (any_map test f xs)

pub gather_map : {A B C : Type 0} (f : B → List C) (g : A → B) (l : List A) → gather f (map g l) ≡ gather (λ x. f (g x)) l
gather_map f g [] = refl
gather_map f g (x ∷ xs) = rw (gather_map f g xs)

module _ {A : Type 0} (l : List A) (d : A) where
  -- one element more
  take_next : (i : ℕ) → i < length l → take (i + 1) l ≡ take i l ++ (get_or l i d ∷ [])
  take_next i h = rw (add-one i) (take-suc l i d h)

  pub any_next : (test : A → Bool) (i : ℕ) → i < length l → any test (take (i + 1) l) ≡ any test (take i l) || test (get_or l i d)
  any_next test i h =
      rw (take_next i h) (any_append test (take i l) (get_or l i d ∷ []) ∙ rw (or-false (test (get_or l i d))))

  pub gather_next : {B : Type 0} (f : A → List B) (i : ℕ) → i < length l → gather f (take (i + 1) l) ≡ gather f (take i l) ++ f (get_or l i d)
  gather_next f i h =
      rw (take_next i h) (gather_append f (take i l) (get_or l i d ∷ []) ∙ rw (append-nil (f (get_or l i d))))

  -- one of the first n passes
  pub any_found : (test : A → Bool) (n i : ℕ) → i < n → n ≤ length l → test (get_or l i d) ≡ true → any test (take n l) ≡ true
  any_found test n i h k e =
      any_true test (get_d_nth (take n l) i d (rw (length-take-le n l k) h)) (rw (get_or-take n l i d h) e)

  -- none of the first n passes
  pub any_none : (test : A → Bool) (n i : ℕ) → i < n → n ≤ length l → any test (take n l) ≡ false → test (get_or l i d) ≡ false
  any_none test n i h k e =
      ap test (sym (get_or-take n l i d h)) ∙ any_false test e (get_d_nth (take n l) i d (rw (length-take-le n l k) h))

-- a count beyond a list takes all of it
pub take_within : {A : Type 0} (l : List A) (count given size : ℕ) → length l ≡ size → given ≡ min count size → take given l ≡ take count l
take_within l count given size long e = go (dec_lt count size)
  where
    go : Dec (count < size) → take given l ≡ take count l
    go (yes h) = let same : given ≡ count = omega arith in rw same
    go (no h) = take_all given l (omega arith) ∙ sym (take_all count l (omega arith))
