-- The members of a set in rising order: which they are, how many, and how a loop takes them from the lowest on (`members_next`, `members_none`).
-- Assumes nothing.
use Prim.Native.Nat.{ℕ, zero, suc, ◌+◌, ◌-◌, ◌*◌, ◌/◌, ◌%◌, ◌^◌, ◌≤◌, ◌<◌}
use mathlib.Core.Bool.{Bool, true, false, not, ◌&&◌, ◌||◌}
use mathlib.Core.List.{List, [], ◌∷◌}
use mathlib.Core.Path.{◌≡◌, refl, sym, ap, ap₂, subst, ◌∙◌}
use native.Mathlib.Decide.{dec_lt, ℕ_discrete}
use native.Mathlib.Nat.{div-add-mod', one-mul, add-mul, not-suc-le-zero}
use native.Mathlib.Omega.{arith}
use borrow.Author.Tests.{eq-eqb, ne_eqb, eqb-true, lt-ltb, le-ltb, not-true}
use lib.Bits.{bit_and, bit_xor, and_step, xor_step, and_self, and_zero_l, and_zero_r, xor_zero_l, xor_zero_r, and_block, xor_block}
use lib.Dec.{eqb, ltb}
use lib.ListN.{length, get_or}
use lib.Pow.{pow_pos}
use Rattle.combinators.specs.Ascending.{Ascending, those_ascending, ascending_one}
use Rattle.combinators.specs.Bools.{both_left, both_right, both_ways, same_test}
use Rattle.combinators.specs.Members.{member, member_at, member_which}
use Rattle.combinators.specs.Once.{Once, once_places}
use Rattle.combinators.specs.Those.{length_those}
use Rattle.sets.specs.Sets.{has, only, below, lowest, size, rest, members_of}
use Rattle.sets.proofs.Laws.{has_none, has_within, has_without, has_only, has_below, same_members, lowest_member, lowest_least, without_within}

-- ---- a list that rises has no number twice, and its members are the numbers of which the statement holds

pub ascending_once : {P : ℕ → Type 0} (list : List ℕ) → Ascending P list → Once list
ascending_once list a = once_places list (λ i j h l e. (let r = a.rising i j h l in absurd (omega arith)))

pub member_holds : {P : ℕ → Type 0} (list : List ℕ) → Ascending P list → (j : ℕ) → member j list ≡ true → P j
member_holds {P} list a j m = let w = member_which j list m in subst P w.2 (a.each w.0 w.1)

pub holds_member : {P : ℕ → Type 0} (list : List ℕ) → Ascending P list → (j : ℕ) → P j → member j list ≡ true
holds_member list a j p = let w = a.all j p in ap (λ (k : ℕ). member k list) (sym w.2) ∙ member_at list w.0 w.1

-- ---- the members of a set

module _ (s : ℕ) (within : s < 2 ^ 64) where
  pub members_ascending : Ascending (λ j. has s j ≡ true) (members_of s)
  unfolding members_of
  members_ascending = those_ascending (λ j. has s j ≡ true) (has s) 64 (λ k h e. e) (λ k e. (has_within 64 within e, e))

  pub members_only : (list : List ℕ) → Ascending (λ j. has s j ≡ true) list → list ≡ members_of s
  members_only list a = ascending_one (λ j. has s j ≡ true) list (members_of s) a members_ascending

  -- which they are
  pub member_members : (j : ℕ) → member j (members_of s) ≡ has s j
  member_members j =
      same_test (member j (members_of s)) (has s j) (member_holds (members_of s) members_ascending j) (holds_member (members_of s) members_ascending j)

  pub members_once : Once (members_of s)
  members_once = ascending_once (members_of s) members_ascending

-- how many they are
pub members_size : (s : ℕ) → length (members_of s) ≡ size s
unfolding members_of size
members_size s = length_those (has s) 64

pub members_none : members_of 0 ≡ []
members_none =
    sym (members_only 0 (omega arith) []
    (record {
      each = λ i h. absurd (not-suc-le-zero h);
      all = λ n e. both_ways e (has_none n);
      rising = λ i j h l. absurd (not-suc-le-zero l);
    }))

-- ---- the lowest first, then the rest

has_rest : (s j : ℕ) → has (rest s) j ≡ has s j && not (eqb j (lowest s))
has_rest s j = has_without s (only (lowest s)) j ∙ ap (λ (b : Bool). has s j && not b) (has_only (lowest s) j)

-- what is left is of the set, and past its lowest
pub rest_member : (s j : ℕ) → has (rest s) j ≡ true → has s j ≡ true
rest_member s j e = both_left (has s j) (not (eqb j (lowest s))) (sym (has_rest s j) ∙ e)

pub rest_past : (s j : ℕ) → has (rest s) j ≡ true → lowest s < j
rest_past s j e = go (ℕ_discrete j (lowest s)) (lowest_least s j (rest_member s j e))
  where
    another : eqb j (lowest s) ≡ false
    another = not-true (eqb j (lowest s)) (both_right (has s j) (not (eqb j (lowest s))) (sym (has_rest s j) ∙ e))

    go : Dec (j ≡ lowest s) → lowest s ≤ j → lowest s < j
    go (yes p) l = both_ways (eq-eqb j (lowest s) p) another
    go (no p) l = omega arith

pub rest_all : (s j : ℕ) → has s j ≡ true → (j ≡ lowest s → ⊥) → has (rest s) j ≡ true
rest_all s j e p = has_rest s j ∙ ap₂ (λ (a b : Bool). a && not b) e (ne_eqb j (lowest s) p)

-- a set is its lowest member and the rest
pub has_next : (s : ℕ) → s < 2 ^ 64 → (s ≡ 0 → ⊥) → (j : ℕ) → has s j ≡ eqb j (lowest s) || has (rest s) j
has_next s within some j = go (ℕ_discrete j (lowest s))
  where
    either : (b : Bool) → b ≡ b && true
    either true = refl
    either false = refl

    go : Dec (j ≡ lowest s) → has s j ≡ eqb j (lowest s) || has (rest s) j
    go (yes e) = ap (has s) e ∙ lowest_member s within some ∙ sym (ap (λ (b : Bool). b || has (rest s) j) (eq-eqb j (lowest s) e))
    go (no n) =
        either (has s j)
        ∙ ap (λ (b : Bool). has s j && not b) (sym (ne_eqb j (lowest s) n))
        ∙ sym (has_rest s j)
        ∙ sym (ap (λ (b : Bool). b || has (rest s) j) (ne_eqb j (lowest s) n))

module _ (s : ℕ) (within : s < 2 ^ 64) where
  pub rest_within : rest s < 2 ^ 64
  rest_within = without_within 64 s (only (lowest s)) within

  module _ (some : s ≡ 0 → ⊥) where
    pub lowest_small : lowest s < 64
    lowest_small = has_within 64 within (lowest_member s within some)

    left : Ascending (λ j. has (rest s) j ≡ true) (members_of (rest s))
    left = members_ascending (rest s) rest_within

    lowest_first : Ascending (λ j. has s j ≡ true) (lowest s ∷ members_of (rest s))
    lowest_first = record { each = each; all = λ n e. all n e (ℕ_discrete n (lowest s)); rising = rising }
      where
        each : (i : ℕ) → i < suc (length (members_of (rest s))) → has s (get_or (lowest s ∷ members_of (rest s)) i 0) ≡ true
        each zero h = lowest_member s within some
        each (suc i) h = rest_member s (get_or (members_of (rest s)) i 0) (left.each i (omega arith))

        all : (n : ℕ) → has s n ≡ true → Dec (n ≡ lowest s)
            → (i : ℕ) × (i < suc (length (members_of (rest s)))) × (get_or (lowest s ∷ members_of (rest s)) i 0 ≡ n)
        all n e (yes p) = (0, omega arith, sym p)
        all n e (no p) = let w = left.all n (rest_all s n e p) in (suc w.0, omega (arith, w.1), w.2)

        rising : (i j : ℕ) → i < j → j < suc (length (members_of (rest s)))
            → get_or (lowest s ∷ members_of (rest s)) i 0 < get_or (lowest s ∷ members_of (rest s)) j 0
        rising i zero h l = absurd (not-suc-le-zero h)
        rising zero (suc j) h l = rest_past s (get_or (members_of (rest s)) j 0) (left.each j (omega arith))
        rising (suc i) (suc j) h l = left.rising i j (omega arith) (omega arith)

    pub members_next : members_of s ≡ lowest s ∷ members_of (rest s)
    members_next = sym (members_only s within (lowest s ∷ members_of (rest s)) lowest_first)

    -- the measure of a walk
    pub fewer_left : length (members_of (rest s)) < length (members_of s)
    fewer_left = let e = ap length members_next in omega arith

-- ---- the rest is what a processor has in s & (s - 1): s ends in a 1 and as many zeros as its lowest member says

module _ (s : ℕ) (within : s < 2 ^ 64) (some : s ≡ 0 → ⊥) where
  abbrev low : ℕ
  low = lowest s

  abbrev high : ℕ
  high = s / 2 ^ low / 2

  no_lower : s % 2 ^ low ≡ 0
  no_lower = same_members (below s low) 0 (λ i. has_below s low i ∙ go i (dec_lt i low) (has s i) refl ∙ sym (has_none i))
    where
      go : (i : ℕ) → Dec (i < low) → (b : Bool) → has s i ≡ b → ltb i low && has s i ≡ false
      go i (yes h) true e = let least = lowest_least s i e in absurd (omega arith)
      go i (yes h) false e = rw (lt-ltb i low h) e
      go i (no n) b e = rw (le-ltb i low (omega arith))

  a_one : s / 2 ^ low ≡ high * 2 + 1
  a_one =
      sym (div-add-mod' (s / 2 ^ low) 2)
      ∙ ap (λ (n : ℕ). high * 2 + n) (eqb-true (s / 2 ^ low % 2) 1 (lowest_member s within some))

  ends_so : s ≡ (high * 2 + 1) * 2 ^ low + 0
  ends_so = sym (div-add-mod' s (2 ^ low)) ∙ ap₂ (λ (a b : ℕ). a * 2 ^ low + b) a_one no_lower

  one_less : s - 1 ≡ high * 2 * 2 ^ low + (2 ^ low - 1)
  one_less =
      let parted : (high * 2 + 1) * 2 ^ low ≡ high * 2 * 2 ^ low + 2 ^ low = add-mul (high * 2) 1 (2 ^ low) ∙ ap (λ (n : ℕ). high * 2 * 2 ^ low + n) (one-mul (2 ^ low)) in
      omega (arith, ends_so, parted, pow_pos low)

  -- both are the number without its last 1
  halves : ((high * 2 + 1) / 2 ≡ high) × ((high * 2 + 1) % 2 ≡ 1) × (high * 2 / 2 ≡ high) × (high * 2 % 2 ≡ 0)
  halves = (omega arith, omega arith, omega arith, omega arith)

  last_cleared : bit_and s (s - 1) ≡ high * 2 * 2 ^ low + 0
  last_cleared =
      ap₂ bit_and ends_so one_less
      ∙ and_block low (high * 2 + 1) (high * 2) 0 (2 ^ low - 1) (pow_pos low) (let h = pow_pos low in omega arith)
      ∙ ap₂ (λ (a b : ℕ). a * 2 ^ low + b)
      (and_step (high * 2 + 1) (high * 2)
      ∙ rw (halves.0, halves.1, halves.2, halves.3) (ap (λ (n : ℕ). n * 2 + 0) (and_self high) ∙ let e : high * 2 + 0 ≡ high * 2 = omega arith in e))
      (and_zero_l (2 ^ low - 1))

  last_alone : bit_and s (2 ^ low) ≡ 1 * 2 ^ low + 0
  last_alone =
      ap₂ bit_and ends_so (let e : 2 ^ low ≡ 1 * 2 ^ low + 0 = omega arith in e)
      ∙ and_block low (high * 2 + 1) 1 0 0 (pow_pos low) (pow_pos low)
      ∙ ap₂ (λ (a b : ℕ). a * 2 ^ low + b)
      (and_step (high * 2 + 1) 1 ∙ rw (halves.0, halves.1) (ap (λ (n : ℕ). n * 2 + 1) (and_zero_r high)))
      (and_zero_l 0)

  last_taken : rest s ≡ high * 2 * 2 ^ low + 0
  last_taken =
      ap₂ bit_xor ends_so last_alone
      ∙ xor_block low (high * 2 + 1) 1 0 0 (pow_pos low) (pow_pos low)
      ∙ ap₂ (λ (a b : ℕ). a * 2 ^ low + b)
      (xor_step (high * 2 + 1) 1
      ∙ rw (halves.0, halves.1) (ap (λ (n : ℕ). n * 2 + 0) (xor_zero_r high) ∙ let e : high * 2 + 0 ≡ high * 2 = omega arith in e))
      (xor_zero_l 0)

  pub rest_is : bit_and s (s - 1) ≡ rest s
  rest_is = last_cleared ∙ sym last_taken
