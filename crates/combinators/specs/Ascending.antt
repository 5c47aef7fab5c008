-- Lists that hold exactly the numbers of which something holds, each once, in rising order: such a list says which they are, in which order
-- they come, and by its length how many they are.
-- Assumes nothing.
use Rattle.std.specs.Prelude.{ℕ, zero, suc, ◌≤◌, ◌<◌, Bool, true, List, [], ◌∷◌, ◌≡◌, refl, length, get_or}
use Rattle.std.proofs.Common.{sym, ap₂, subst, arith}
use Rattle.combinators.specs.Those.{those, those_at, those_which, those_rise}

pub record Ascending (P : ℕ → Type 0) (list : List ℕ) : Type 0 where
  pub each : (i : ℕ) → i < length list → P (get_or list i 0)
  pub all : (n : ℕ) → P n → (i : ℕ) × (i < length list) × (get_or list i 0 ≡ n)
  pub rising : (i j : ℕ) → i < j → j < length list → get_or list i 0 < get_or list j 0

-- the numbers below a bound that pass a test are such a list
pub those_ascending : (P : ℕ → Type 0) (test : ℕ → Bool) (bound : ℕ) → ((k : ℕ) → k < bound → test k ≡ true → P k)
    → ((k : ℕ) → P k → (k < bound) × (test k ≡ true)) → Ascending P (those test bound)
those_ascending P test bound f g =
    record {
      each = λ i h. (let w = those_at test bound i h in f (get_or (those test bound) i 0) w.below w.passes);
      all = λ n p. (let w = g n p in those_which test bound n w.0 w.1);
      rising = λ i j h l. those_rise test bound i j h l;
    }

-- the first is the least
first_least : (P : ℕ → Type 0) (x : ℕ) (xs : List ℕ) → Ascending P (x ∷ xs) → (n : ℕ) → P n → x ≤ n
first_least P x xs a n p = go (a.all n p)
  where
    go : (i : ℕ) × (i < suc (length xs)) × (get_or (x ∷ xs) i 0 ≡ n) → x ≤ n
    go (zero, h, e) = omega arith
    go (suc i, h, e) = let r = a.rising 0 (suc i) (omega arith) h in omega arith

-- the others are those past it
past_first : (P : ℕ → Type 0) (x : ℕ) (xs : List ℕ) → Ascending P (x ∷ xs) → Ascending (λ n. P n × (x < n)) xs
past_first P x xs a =
    record {
      each = λ i h. (a.each (suc i) (omega arith), a.rising 0 (suc i) (omega arith) (omega arith));
      all = λ n p. go n p.1 (a.all n p.0);
      rising = λ i j h l. a.rising (suc i) (suc j) (omega arith) (omega arith);
    }
  where
    go : (n : ℕ) → x < n → (i : ℕ) × (i < suc (length xs)) × (get_or (x ∷ xs) i 0 ≡ n) → (i : ℕ) × (i < length xs) × (get_or xs i 0 ≡ n)
    go n l (zero, h, e) = absurd (omega arith)
    go n l (suc i, h, e) = (i, omega arith, e)

-- There is one such list at the most.
pub ascending_one : (P : ℕ → Type 0) (xs ys : List ℕ) → Ascending P xs → Ascending P ys → xs ≡ ys
ascending_one P [] [] a b = refl
ascending_one P [] (y ∷ ys) a b = let w = a.all y (b.each 0 (omega arith)) in absurd (omega (arith, w.1))
ascending_one P (x ∷ xs) [] a b = let w = b.all x (a.each 0 (omega arith)) in absurd (omega (arith, w.1))
ascending_one P (x ∷ xs) (y ∷ ys) a b =
    let low = first_least P x xs a y (b.each 0 (omega arith)) in
    let high = first_least P y ys b x (a.each 0 (omega arith)) in
    let same : y ≡ x = omega arith in
    ap₂ (λ (z : ℕ) (zs : List ℕ). z ∷ zs) (sym same)
    (ascending_one (λ n. P n × (x < n)) xs ys (past_first P x xs a)
    (subst (λ (z : ℕ). Ascending (λ n. P n × (z < n)) ys) same (past_first P y ys b)))
