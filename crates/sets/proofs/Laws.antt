-- The laws of sets: who is a member of each set that Sets builds, two sets with the same members are one, the lowest member, and the
-- number of members.
-- Assumes nothing.
use Prim.Native.Nat.{ℕ, zero, suc, ◌+◌, ◌-◌, ◌*◌, ◌/◌, ◌%◌, ◌^◌, ◌≤◌, ◌<◌}
use mathlib.Core.Bool.{Bool, true, false, not, cond, ◌&&◌, ◌||◌, or-false, true≢false}
use mathlib.Core.Path.{◌≡◌, refl, sym, ap, ap₂, ◌∙◌}
use mathlib.Core.Logic.{◌⊎◌, inl, inr}
use native.Mathlib.Nat.{mod-lt, mod-eq_of_lt, mod-one, le_of_suc-le-suc, not-suc-le-zero, div-one, div-eq_of_lt, one-mul, lt_of_lt_of_le, lt_of_le_of_lt}
use native.Mathlib.Decide.{dec_lt}
use native.Mathlib.Numerals.{add-one, one-add}
use native.Mathlib.Omega.{arith}
use borrow.Author.Tests.{ne_eqb, lt-ltb, le-ltb}
use lib.Arith.{bin_ind}
use lib.Bits.{bit_and, bit_or, bit_xor, and_shr, or_shr, xor_shr, and_mod, or_mod, xor_mod, shifted_half, shifted_even, and_le_l, or_lt, xor_lt}
use lib.Count.{ones, ones_in, ones_cat, count_trailing_zeros, under, trailing_le}
use lib.Dec.{eqb, ltb, eqb-suc-suc}
use lib.Pow.{pow_pos, pow_mono, pow-lt, shr-shr, shl_exact, field, mod-mod-pow, mod-pow-add}
use Rattle.combinators.specs.Below.{some, count, none_at}
use Rattle.combinators.proofs.Seeking.{seek_first, seek_inside, first_seek}
use Rattle.sets.specs.Sets.{has, joined, only, added, without, below, lowest, size}

-- ---- a bit is 0 or 1

bit : (n : ℕ) → (n % 2 ≡ 0) ⊎ (n % 2 ≡ 1)
bit n = go (n % 2) (mod-lt n (omega arith))
  where
    go : (d : ℕ) → d < 2 → (d ≡ 0) ⊎ (d ≡ 1)
    go zero h = inl refl
    go (suc zero) h = inr refl
    go (suc (suc d)) h = absurd (omega arith)

-- ---- member 0, and the members above it

has_zero : (s : ℕ) → has s 0 ≡ eqb (s % 2) 1
has_zero s = ap (λ (n : ℕ). eqb (n % 2) 1) (div-one s)

pub has_suc : (s i : ℕ) → has s (suc i) ≡ has (s / 2) i
has_suc s i = ap (λ (n : ℕ). eqb (n % 2) 1) (ap (λ (n : ℕ). s / 2 ^ n) (sym (one-add i)) ∙ sym (shr-shr s 1 i))

-- ---- nothing is a member of the empty set, and nothing at or beyond a set's width is a member of it

pub has_beyond : (w i : ℕ) {s : ℕ} → s < 2 ^ w → w ≤ i → has s i ≡ false
has_beyond w i h l = ap (λ (n : ℕ). eqb (n % 2) 1) (div-eq_of_lt (lt_of_lt_of_le h (pow_mono l)))

pub has_none : (i : ℕ) → has 0 i ≡ false
has_none i = has_beyond 0 i (pow_pos 0) (omega arith)

pub has_within : (w : ℕ) {s i : ℕ} → s < 2 ^ w → has s i ≡ true → i < w
has_within w {s} {i} h m = go (dec_lt i w)
  where
    go : Dec (i < w) → i < w
    go (yes l) = l
    go (no n) = absurd (true≢false (sym m ∙ has_beyond w i h (omega arith)))

-- ---- the members of the sets that are built. One law for every operation that works bit by bit: it is enough to see it at single bits.

module _ (op : ℕ → ℕ → ℕ) (f : Bool → Bool → Bool)
    (high : (a b k : ℕ) → op a b / 2 ^ k ≡ op (a / 2 ^ k) (b / 2 ^ k))
    (low : (a b k : ℕ) → op a b % 2 ^ k ≡ op (a % 2 ^ k) (b % 2 ^ k))
    (at-00 : eqb (op 0 0) 1 ≡ f false false)
    (at-01 : eqb (op 0 1) 1 ≡ f false true)
    (at-10 : eqb (op 1 0) 1 ≡ f true false)
    (at-11 : eqb (op 1 1) 1 ≡ f true true) where
  at_bits : (x y : ℕ) → (x ≡ 0) ⊎ (x ≡ 1) → (y ≡ 0) ⊎ (y ≡ 1) → eqb (op x y) 1 ≡ f (eqb x 1) (eqb y 1)
  at_bits x y (inl p) (inl q) = rw (p, q) at-00
  at_bits x y (inl p) (inr q) = rw (p, q) at-01
  at_bits x y (inr p) (inl q) = rw (p, q) at-10
  at_bits x y (inr p) (inr q) = rw (p, q) at-11

  has_op : (s t i : ℕ) → has (op s t) i ≡ f (has s i) (has t i)
  has_op s t i =
      ap (λ (n : ℕ). eqb (n % 2) 1) (high s t i)
      ∙ ap (λ (n : ℕ). eqb n 1) (low (s / 2 ^ i) (t / 2 ^ i) 1)
      ∙ at_bits (s / 2 ^ i % 2) (t / 2 ^ i % 2) (bit (s / 2 ^ i)) (bit (t / 2 ^ i))

has_and : (s t i : ℕ) → has (bit_and s t) i ≡ has s i && has t i
has_and = has_op bit_and (λ x y. x && y) and_shr and_mod refl refl refl refl

abbrev differ : Bool → Bool → Bool
differ true y = not y
differ false y = y

has_xor : (s t i : ℕ) → has (bit_xor s t) i ≡ differ (has s i) (has t i)
has_xor = has_op bit_xor differ xor_shr xor_mod refl refl refl refl

-- joined: the members of either
pub has_joined : (s t i : ℕ) → has (joined s t) i ≡ has s i || has t i
has_joined = has_op bit_or (λ x y. x || y) or_shr or_mod refl refl refl refl

-- without: the members of the one that the other lacks
pub has_without : (s t i : ℕ) → has (without s t) i ≡ has s i && not (has t i)
has_without s t i = has_xor s (bit_and s t) i ∙ ap (differ (has s i)) (has_and s t i) ∙ go (has s i) (has t i)
  where
    go : (x y : Bool) → differ x (x && y) ≡ x && not y
    go true y = refl
    go false y = refl

-- only: that one alone
pub has_only : (i j : ℕ) → has (only i) j ≡ eqb j i
has_only zero zero = refl
has_only zero (suc j) = has_suc 1 j ∙ has_none j ∙ sym (ne_eqb (suc j) 0 (λ e. omega arith))
has_only (suc i) zero =
    has_zero (2 ^ suc i)
    ∙ ap (λ (n : ℕ). eqb n 1) (ap (λ (n : ℕ). n % 2) (sym (one-mul (2 ^ suc i))) ∙ shifted_even 1 i)
    ∙ sym (ne_eqb 0 (suc i) (λ e. omega arith))
has_only (suc i) (suc j) =
    has_suc (2 ^ suc i) j
    ∙ ap (λ (n : ℕ). has n j) (ap (λ (n : ℕ). n / 2) (sym (one-mul (2 ^ suc i))) ∙ shifted_half 1 i ∙ one-mul (2 ^ i))
    ∙ has_only i j
    ∙ sym (eqb-suc-suc j i)

-- added: the members, and that one
pub has_added : (s i j : ℕ) → j < 64 → has (added s i) j ≡ has s j || eqb j i
has_added s i j h = go (dec_lt i 64)
  where
    go : Dec (i < 64) → has (added s i) j ≡ has s j || eqb j i
    go (yes l) = rw (lt-ltb i 64 l) (has_joined s (only i) j ∙ ap (λ (b : Bool). has s j || b) (has_only i j))
    go (no n) = rw (le-ltb i 64 (omega arith), ne_eqb j i (omega arith)) (sym (or-false (has s j)))

-- the code's `1 << i`, in a width that holds bit i
pub one_shifted : (w i : ℕ) → i < w → 1 * 2 ^ i % 2 ^ w ≡ only i
one_shifted w i h = shl_exact 1 i w (omega arith) (omega arith) ∙ one-mul (2 ^ i)

-- below: those below the bound
pub has_below : (s i j : ℕ) → has (below s i) j ≡ ltb j i && has s j
has_below s i j = go (dec_lt j i)
  where
    inside : (m : ℕ) → i ≡ suc m + j → has (below s i) j ≡ has s j
    inside m e =
        ap (λ (n : ℕ). eqb (n % 2) 1) (ap (λ (n : ℕ). s % 2 ^ n / 2 ^ j) e ∙ field s (suc m) j)
        ∙ ap (λ (n : ℕ). eqb n 1) (ap (λ (n : ℕ). s / 2 ^ j % 2 ^ n % 2) (sym (add-one m)) ∙ mod-mod-pow (s / 2 ^ j) m 1)

    go : Dec (j < i) → has (below s i) j ≡ ltb j i && has s j
    go (yes l) = inside (i - suc j) (omega arith) ∙ ap (λ (b : Bool). b && has s j) (sym (lt-ltb j i l))
    go (no n) =
        has_beyond i j (mod-lt s (pow_pos i)) (omega arith)
        ∙ ap (λ (b : Bool). b && has s j) (sym (le-ltb j i (omega arith)))

-- ---- two sets with the same members are one

bit_is : (m n : ℕ) → eqb (m % 2) 1 ≡ eqb (n % 2) 1 → m % 2 ≡ n % 2
bit_is m n e = go (bit m) (bit n)
  where
    go : (m % 2 ≡ 0) ⊎ (m % 2 ≡ 1) → (n % 2 ≡ 0) ⊎ (n % 2 ≡ 1) → m % 2 ≡ n % 2
    go (inl p) (inl q) = p ∙ sym q
    go (inl p) (inr q) = absurd (true≢false (sym (rw (p, q) at e)))
    go (inr p) (inl q) = absurd (true≢false (rw (p, q) at e))
    go (inr p) (inr q) = p ∙ sym q

from_halves : (m n : ℕ) → m / 2 ≡ n / 2 → m % 2 ≡ n % 2 → m ≡ n
from_halves m n p q = omega arith

abbrev Same : ℕ → ℕ → Type 0
Same s t = (i : ℕ) → has s i ≡ has t i

halves_same : (s t : ℕ) → Same s t → Same (s / 2) (t / 2)
halves_same s t e i = sym (has_suc s i) ∙ e (suc i) ∙ has_suc t i

bits_same : (s t : ℕ) → Same s t → s % 2 ≡ t % 2
bits_same s t e = bit_is s t (sym (has_zero s) ∙ e 0 ∙ has_zero t)

none_same : (t : ℕ) → Same 0 t → 0 ≡ t
none_same =
    bin_ind (λ (t : ℕ). Same 0 t → 0 ≡ t) (λ e. refl)
    (λ t ih e. from_halves 0 t (ih (halves_same 0 t e)) (bits_same 0 t e))

pub same_members : (s t : ℕ) → ((i : ℕ) → has s i ≡ has t i) → s ≡ t
same_members =
    bin_ind (λ (s : ℕ). (t : ℕ) → Same s t → s ≡ t) none_same
    (λ s ih t e. from_halves s t (ih (t / 2) (halves_same s t e)) (bits_same s t e))

-- of sets within a width, the indices below it decide
pub same_members_within : (w s t : ℕ) → s < 2 ^ w → t < 2 ^ w → ((i : ℕ) → i < w → has s i ≡ has t i) → s ≡ t
same_members_within w s t hs ht e = same_members s t (λ i. go i (dec_lt i w))
  where
    go : (i : ℕ) → Dec (i < w) → has s i ≡ has t i
    go i (yes l) = e i l
    go i (no n) =
        has_beyond w i hs (omega arith) ∙ sym (has_beyond w i ht (omega arith))

-- ---- sets within a width stay within it

pub joined_within : (w s t : ℕ) → s < 2 ^ w → t < 2 ^ w → joined s t < 2 ^ w
joined_within = or_lt

pub without_within : (w s t : ℕ) → s < 2 ^ w → without s t < 2 ^ w
without_within w s t h = xor_lt w s (bit_and s t) h (lt_of_le_of_lt (and_le_l s t) h)

pub only_within : (w i : ℕ) → i < w → only i < 2 ^ w
only_within w i h = pow-lt h

pub added_within : (w s i : ℕ) → s < 2 ^ w → (i < 64 → i < w) → added s i < 2 ^ w
added_within w s i h f = go (dec_lt i 64)
  where
    go : Dec (i < 64) → added s i < 2 ^ w
    go (yes l) = rw (lt-ltb i 64 l) (joined_within w s (only i) h (only_within w i (f l)))
    go (no n) = rw (le-ltb i 64 (omega arith)) h

pub below_within : (w s i : ℕ) → i ≤ w → below s i < 2 ^ w
below_within w s i h = lt_of_lt_of_le (mod-lt s (pow_pos i)) (pow_mono h)

-- ---- the lowest member

pub lowest_member : (s : ℕ) → s < 2 ^ 64 → (s ≡ 0 → ⊥) → has s (lowest s) ≡ true
unfolding lowest
lowest_member s within not-empty = (seek_first (has s) 64).found (seek_inside (has s) 64 (some_member (some (has s) 64) refl))
  where
    some_member : (b : Bool) → some (has s) 64 ≡ b → some (has s) 64 ≡ true
    some_member true e = e
    some_member false e =
        absurd (not-empty (same_members_within 64 s 0 within (pow_pos 64) (λ i h. none_at (has s) 64 e i h ∙ sym (has_none i))))

pub lowest_least : (s i : ℕ) → has s i ≡ true → lowest s ≤ i
unfolding lowest
lowest_least s i m = go (dec_lt i (lowest s))
  where
    go : Dec (i < lowest s) → lowest s ≤ i
    go (yes h) = absurd (true≢false (sym m ∙ (seek_first (has s) 64).before i h))
    go (no n) = omega arith

-- it stands after as many zeros as the processor counts

no_member_before : (w s i : ℕ) → i < count_trailing_zeros w s → has s i ≡ false
unfolding count_trailing_zeros
no_member_before zero s i h = absurd (omega arith)
no_member_before (suc w) s i h = go (bit s) i h (no_member_before w (s / 2))
  where
    go : (s % 2 ≡ 0) ⊎ (s % 2 ≡ 1) → (i : ℕ) → i < under (s % 2) (count_trailing_zeros w (s / 2))
        → ((j : ℕ) → j < count_trailing_zeros w (s / 2) → has (s / 2) j ≡ false) → has s i ≡ false
    go (inl e) zero h ih = has_zero s ∙ ap (λ (n : ℕ). eqb n 1) e
    go (inl e) (suc i) h ih = has_suc s i ∙ ih i (le_of_suc-le-suc (rw e at h))
    go (inr e) i h ih = absurd (not-suc-le-zero (rw e at h))

member_after : (w s : ℕ) → count_trailing_zeros w s < w → has s (count_trailing_zeros w s) ≡ true
unfolding count_trailing_zeros
member_after zero s h = absurd (omega arith)
member_after (suc w) s h = go (bit s) h (member_after w (s / 2))
  where
    go : (s % 2 ≡ 0) ⊎ (s % 2 ≡ 1) → under (s % 2) (count_trailing_zeros w (s / 2)) < suc w
        → (count_trailing_zeros w (s / 2) < w → has (s / 2) (count_trailing_zeros w (s / 2)) ≡ true)
        → has s (under (s % 2) (count_trailing_zeros w (s / 2))) ≡ true
    go (inl e) h ih = rw e (has_suc s (count_trailing_zeros w (s / 2)) ∙ ih (le_of_suc-le-suc (rw e at h)))
    go (inr e) h ih = rw e (has_zero s ∙ ap (λ (n : ℕ). eqb n 1) e)

pub trailing_zeros_lowest : (s : ℕ) → count_trailing_zeros 64 s ≡ lowest s
unfolding lowest
trailing_zeros_lowest s =
    first_seek (has s) 64 (count_trailing_zeros 64 s)
    (record { within = trailing_le 64 s; before = no_member_before 64 s; found = member_after 64 s })

-- ---- the number of members is the number of ones

ones_of_bit : (n : ℕ) → ones (n % 2) ≡ n % 2
unfolding ones ones_in
ones_of_bit n = go (bit n)
  where
    go : (n % 2 ≡ 0) ⊎ (n % 2 ≡ 1) → ones (n % 2) ≡ n % 2
    go (inl e) = rw e
    go (inr e) = rw e

one_more_if : (n c : ℕ) → cond (eqb (n % 2) 1) (suc c) c ≡ n % 2 + c
one_more_if n c = go (bit n)
  where
    go : (n % 2 ≡ 0) ⊎ (n % 2 ≡ 1) → cond (eqb (n % 2) 1) (suc c) c ≡ n % 2 + c
    go (inl e) = rw e (omega arith)
    go (inr e) = rw e (omega arith)

count_ones : (n s : ℕ) → count (has s) n ≡ ones (s % 2 ^ n)
unfolding ones ones_in
count_ones zero s = sym (ap ones (mod-one s))
count_ones (suc n) s =
    one_more_if (s / 2 ^ n) (count (has s) n)
    ∙ ap₂ (λ (x y : ℕ). x + y) (sym (ones_of_bit (s / 2 ^ n))) (count_ones n s)
    ∙ sym (ones_cat n (s / 2 ^ n % 2) (s % 2 ^ n) (mod-lt s (pow_pos n)))
    ∙ ap ones (sym (mod-pow-add s 1 n))
    ∙ ap (λ (k : ℕ). ones (s % 2 ^ k)) (one-add n)

pub ones_size : (s : ℕ) → s < 2 ^ 64 → ones s ≡ size s
unfolding size
ones_size s h = ap ones (sym (mod-eq_of_lt h)) ∙ sym (count_ones 64 s)
