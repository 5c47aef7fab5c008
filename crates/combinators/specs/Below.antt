-- Searches over the numbers below a bound: whether a test holds at some of them or at every one, where it holds first, and how
-- often. Each is one definition that computes, with the laws that say what it means.
-- Assumes nothing.
use Rattle.std.specs.Prelude.{ℕ, zero, suc, ◌+◌, ◌≤◌, ◌<◌, ◌≡◌, refl, Bool, true, false, cond, ◌&&◌, ◌||◌, ◌⊎◌}
use Rattle.std.proofs.Common.{inl, inr, ⊎_elim, arith, add-one, add-suc, suc-add, eq-or-lt_of_le, not-suc-le-zero, le_of_suc-le-suc}
use Rattle.std.proofs.Math.Decide.{dec_lt}
use Rattle.combinators.specs.Bools.{both_left, both_right, both_ways, neither_left, neither_right, either_left, either_right}

-- some number below n passes the test
abbrev pub some : (ℕ → Bool) → ℕ → Bool
some test zero = false
some test (suc n) = some test n || test n

-- every number below n passes the test
abbrev pub every : (ℕ → Bool) → ℕ → Bool
every test zero = true
every test (suc n) = every test n && test n

-- how many numbers below n pass the test
abbrev pub count : (ℕ → Bool) → ℕ → ℕ
count test zero = 0
count test (suc n) = cond (test n) (suc (count test n)) (count test n)

-- the first number from i on, of the next n, that passes the test, or the one past them
abbrev pub seek_from : (ℕ → Bool) → ℕ → ℕ → ℕ
seek_from test i zero = i
seek_from test i (suc n) = elim (test i) [ true ↦ i | false ↦ seek_from test (suc i) n ]

-- the first number below n that passes the test, or n
abbrev pub seek : (ℕ → Bool) → ℕ → ℕ
seek test n = seek_from test 0 n

last_or_below : {k n : ℕ} → k < suc n → (k ≡ n) ⊎ (k < n)
last_or_below h = eq-or-lt_of_le (le_of_suc-le-suc h)

module _ (test : ℕ → Bool) where
  pub every_at : (n : ℕ) → every test n ≡ true → (k : ℕ) → k < n → test k ≡ true
  every_at zero e k h = absurd (not-suc-le-zero h)
  every_at (suc n) e k h =
      ⊎_elim (λ p. rw p (both_right (every test n) (test n) e)) (λ l. every_at n (both_left (every test n) (test n) e) k l) (last_or_below h)

  pub at_every : (n : ℕ) → ((k : ℕ) → k < n → test k ≡ true) → every test n ≡ true
  at_every zero f = refl
  at_every (suc n) f =
      rw (at_every n (λ k h. f k (omega arith))) (f n (omega arith))

  pub some_at : (n k : ℕ) → k < n → test k ≡ true → some test n ≡ true
  some_at zero k h e = absurd (not-suc-le-zero h)
  some_at (suc n) k h e =
      ⊎_elim (λ p. either_right (some test n) (test n) (rw (← p) e)) (λ l. either_left (some test n) (test n) (some_at n k l e)) (last_or_below h)

  pub none_at : (n : ℕ) → some test n ≡ false → (k : ℕ) → k < n → test k ≡ false
  none_at zero e k h = absurd (not-suc-le-zero h)
  none_at (suc n) e k h =
      ⊎_elim (λ p. rw p (neither_right (some test n) (test n) e)) (λ l. none_at n (neither_left (some test n) (test n) e) k l) (last_or_below h)

  pub at_none : (n : ℕ) → ((k : ℕ) → k < n → test k ≡ false) → some test n ≡ false
  at_none zero f = refl
  at_none (suc n) f = rw (at_none n (λ k h. f k (omega arith))) (f n (omega arith))

  -- tests that agree below n pass at some of these numbers alike
  pub some_same : (other : ℕ → Bool) (n : ℕ) → ((k : ℕ) → k < n → test k ≡ other k) → some test n ≡ some other n
  some_same other zero f = refl
  some_same other (suc n) f = rw (some_same other n (λ k h. f k (omega arith)), f n (omega arith))

  -- where some number passes, one can be named
  pub some_which : (n : ℕ) → some test n ≡ true → (k : ℕ) × (k < n) × (test k ≡ true)
  some_which zero e = let z : ◌≡◌ {A = ℕ} 0 1 = cc in absurd (omega arith)
  some_which (suc n) e = go (some test n) refl (some_which n)
    where
      go : (b : Bool) → some test n ≡ b → (some test n ≡ true → (k : ℕ) × (k < n) × (test k ≡ true))
          → (k : ℕ) × (k < suc n) × (test k ≡ true)
      go true p lower = let w = lower p in (w.0, omega (arith, w.1), w.2)
      go false p lower = (n, omega arith, rw p at e)

-- The meaning of a first place: it is at most the bound, nothing before it passes, and it passes itself unless it is the bound.
pub record First (test : ℕ → Bool) (n k : ℕ) : Type 0 where
  pub within : k ≤ n
  pub before : (j : ℕ) → j < k → test j ≡ false
  pub found : k < n → test k ≡ true

module _ (test : ℕ → Bool) where
  -- there is one first place at the most
  pub first_unique : (n j k : ℕ) → First test n j → First test n k → j ≡ k
  first_unique n j k f g = go (dec_lt j k) (dec_lt k j)
    where
      go : Dec (j < k) → Dec (k < j) → j ≡ k
      go (yes h) d = both_ways (f.found (omega (arith, g.within))) (g.before j h)
      go (no h) (yes l) = both_ways (g.found (omega (arith, f.within))) (f.before k l)
      go (no h) (no l) = omega arith

  pub seek_from_first : (i n : ℕ) → ((j : ℕ) → j < i → test j ≡ false) → First test (i + n) (seek_from test i n)
  seek_from_first i zero f = record { within = omega arith; before = f; found = λ h. absurd (omega arith) }
  seek_from_first i (suc n) f = go (test i) refl (seek_from_first (suc i) n)
    where
      go : (b : Bool) → test i ≡ b → (((j : ℕ) → j < suc i → test j ≡ false) → First test (suc i + n) (seek_from test (suc i) n))
          → First test (i + suc n) (seek_from test i (suc n))
      go true p later =
          rw (p, seek_from) (record { within = omega arith; before = f; found = λ h. p })
      go false p later =
          rw (p, seek_from, add-suc i n, ← suc-add i n)
          (later (λ j h. ⊎_elim (λ (q : j ≡ i). rw q p) (λ l. f j l) (last_or_below h)))

-- ---- counts

module _ (test : ℕ → Bool) where
  pub count_short : (n : ℕ) → count test n ≤ n
  count_short zero = omega arith
  count_short (suc n) = go (test n) (count_short n)
    where
      go : (b : Bool) → count test n ≤ n → cond b (suc (count test n)) (count test n) ≤ suc n
      go true ih = omega arith
      go false ih = omega arith

  pub count_more : (n : ℕ) → test n ≡ true → count test (n + 1) ≡ count test n + 1
  count_more n e = rw (add-one n, e, add-one (count test n))

  pub count_same : (n : ℕ) → test n ≡ false → count test (n + 1) ≡ count test n
  count_same n e = rw (add-one n, e)

  count_step : (n : ℕ) → count test n ≤ count test (suc n)
  count_step n = go (test n)
    where
      go : (b : Bool) → count test n ≤ cond b (suc (count test n)) (count test n)
      go true = omega arith
      go false = omega arith

  -- a number that passes is counted past it
  pub count_less : (j k : ℕ) → j < k → test j ≡ true → count test j < count test k
  count_less j zero h e = absurd (not-suc-le-zero h)
  count_less j (suc k) h e = go (eq-or-lt_of_le (le_of_suc-le-suc h)) (count_less j k)
    where
      go : (j ≡ k) ⊎ (j < k) → (j < k → test j ≡ true → count test j < count test k) → count test j < count test (suc k)
      go (inl p) ih = let q : test k ≡ true = rw (← p) e in rw (p, q) (omega arith)
      go (inr l) ih = let less = ih l e in let step = count_step k in omega arith

-- tests that agree below n count alike
pub count_alike : (test other : ℕ → Bool) (n : ℕ) → ((k : ℕ) → k < n → test k ≡ other k) → count test n ≡ count other n
count_alike test other zero f = refl
count_alike test other (suc n) f = rw (count_alike test other n (λ k h. f k (omega arith)), f n (omega arith))

-- a test that passes only where another does counts no more
pub count_fewer : (test other : ℕ → Bool) (n : ℕ) → ((k : ℕ) → k < n → test k ≡ true → other k ≡ true) → count test n ≤ count other n
count_fewer test other zero f = omega arith
count_fewer test other (suc n) f = go (test n) refl (other n) refl (count_fewer test other n (λ k h. f k (omega arith)))
  where
    go : (a : Bool) → test n ≡ a → (b : Bool) → other n ≡ b → count test n ≤ count other n
        → cond a (suc (count test n)) (count test n) ≤ cond b (suc (count other n)) (count other n)
    go true p true q ih = omega arith
    go true p false q ih = both_ways (f n (omega arith) p) q
    go false p true q ih = omega arith
    go false p false q ih = ih
