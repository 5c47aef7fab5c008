-- Bytes as one number, and a number as bytes: the laws of `number` and `bytes_of`, for any count of bytes.
-- In order: powers of 256; lists of bytes; a number by its first byte; of a part of a list; its bound; the bytes of a number; the two joined both ways.
-- Assumes nothing.
use Prim.Native.Nat.{ℕ, zero, suc, ◌+◌, ◌*◌, ◌/◌, ◌%◌, ◌^◌, ◌≤◌, ◌<◌}
use mathlib.Core.Path.{◌≡◌, refl, sym, ap, ap₂, ◌∙◌}
use mathlib.Core.List.{List, [], ◌∷◌, ◌++◌}
use native.Mathlib.Nat.{mul_assoc, mul-add-div_right, mul-add-mod_self_right, mod-lt, mod-one, mod-eq_of_lt, one-le-pow, pow-succ', not-suc-le-zero, le_of_suc-le-suc}
use native.Mathlib.Omega.{arith}
use lib.Arith.{digits_lt, digits_div, mod-mul}
use lib.Dec.{lit<}
use lib.ListN.{length, get_or, take, drop}
use lib.Pow.{pow-add}
use lib.Seq.{get_or-drop}
use Rattle.syntax.specs.Table.{number, number_from, bytes_of, AreBytes}

-- ---- powers of 256: k bytes hold so many numbers

pub byte_power_positive : (k : ℕ) → 0 < 256 ^ k
byte_power_positive k = one-le-pow k 256 (lit< tt)

-- 256 to the k is 2 to the 8 k: k bytes are 8 k bits
pub byte_power : (k : ℕ) → 256 ^ k ≡ 2 ^ (8 * k)
byte_power zero = refl
byte_power (suc k) =
    pow-succ' 256 k
    ∙ ap (λ (x : ℕ). 256 * x) (byte_power k)
    ∙ sym (pow-add 2 8 (8 * k))
    ∙ ap (λ (x : ℕ). 2 ^ x) (omega arith)

-- what stands above a digit does not change it
pub digit_high : (high n m : ℕ) {c : ℕ} → 0 < c → (high * (m * c) + n) / c % m ≡ n / c % m
digit_high high n m {c} positive =
    ap (λ (x : ℕ). (x + n) / c % m) (sym (mul_assoc high m c))
    ∙ ap (λ (x : ℕ). x % m) (mul-add-div_right positive (high * m) n)
    ∙ mul-add-mod_self_right high m (n / c)

-- ---- lists of bytes

pub drop_bytes : (i : ℕ) (l : List ℕ) → AreBytes l → AreBytes (drop i l)
drop_bytes i l b j = rw get_or-drop (b (i + j))

-- ---- a number by its first byte

number_from_cons : (i k x : ℕ) (l : List ℕ) → number_from (suc i) k (x ∷ l) ≡ number_from i k l
number_from_cons i zero x l = refl
number_from_cons i (suc k) x l = ap (λ (n : ℕ). get_or l i 0 * 256 ^ k + n) (number_from_cons (suc i) k x l)

pub number_cons : (k x : ℕ) (l : List ℕ) → number (suc k) (x ∷ l) ≡ x * 256 ^ k + number k l
number_cons k x l = ap (λ (n : ℕ). x * 256 ^ k + n) (number_from_cons 0 k x l)

-- ---- a number of a part of a list

pub number_take : (k : ℕ) (l : List ℕ) → number k (take k l) ≡ number k l
number_take zero l = refl
number_take (suc k) [] = refl
number_take (suc k) (x ∷ l) =
    number_cons k x (take k l) ∙ ap (λ (n : ℕ). x * 256 ^ k + n) (number_take k l) ∙ sym (number_cons k x l)

pub number_append : (k : ℕ) (l rest : List ℕ) → k ≤ length l → number k (l ++ rest) ≡ number k l
number_append zero l rest h = refl
number_append (suc k) [] rest h = absurd (not-suc-le-zero h)
number_append (suc k) (x ∷ l) rest h =
    number_cons k x (l ++ rest)
    ∙ ap (λ (n : ℕ). x * 256 ^ k + n) (number_append k l rest (le_of_suc-le-suc h))
    ∙ sym (number_cons k x l)

-- ---- k bytes make a number below 256 to the k

number_from_below : (i k : ℕ) (l : List ℕ) → AreBytes l → number_from i k l < 256 ^ k
number_from_below i zero l b = lit< tt
number_from_below i (suc k) l b = rw pow-succ' (digits_lt (b i) (number_from_below (suc i) k l b))

pub number_below : (k : ℕ) (l : List ℕ) → AreBytes l → number k l < 256 ^ k
number_below k l b = number_from_below 0 k l b

-- ---- the bytes of a number

pub length_bytes_of : (k n : ℕ) → length (bytes_of k n) ≡ k
length_bytes_of zero n = refl
length_bytes_of (suc k) n = ap suc (length_bytes_of k n)

pub bytes_of_bytes : (k n : ℕ) → AreBytes (bytes_of k n)
bytes_of_bytes zero n i = lit< tt
bytes_of_bytes (suc k) n zero = mod-lt (n / 256 ^ k) (lit< tt)
bytes_of_bytes (suc k) n (suc i) = bytes_of_bytes k n i

-- what stands above k bytes does not change them
pub bytes_of_high : (k high n : ℕ) → bytes_of k (high * 256 ^ k + n) ≡ bytes_of k n
bytes_of_high zero high n = refl
bytes_of_high (suc k) high n =
    rw (pow-succ' 256 k)
    (ap₂ (λ (d : ℕ) (ds : List ℕ). d ∷ ds)
    (digit_high high n 256 (byte_power_positive k))
    (ap (λ (x : ℕ). bytes_of k (x + n)) (sym (mul_assoc high 256 (256 ^ k))) ∙ bytes_of_high k (high * 256) n))

-- ---- both ways

-- a number that was written in k bytes is read again, as far as k bytes hold it
pub number_bytes_of : (k n : ℕ) (rest : List ℕ) → number k (bytes_of k n ++ rest) ≡ n % 256 ^ k
number_bytes_of zero n rest = sym (mod-one n)
number_bytes_of (suc k) n rest =
    number_cons k (n / 256 ^ k % 256) (bytes_of k n ++ rest)
    ∙ ap (λ (x : ℕ). n / 256 ^ k % 256 * 256 ^ k + x) (number_bytes_of k n rest)
    ∙ sym (mod-mul n (lit< tt) (byte_power_positive k))
    ∙ ap (λ (x : ℕ). n % x) (sym (pow-succ' 256 k))

-- bytes that were read as one number are written again
pub bytes_of_number : (k : ℕ) (l : List ℕ) → AreBytes l → k ≤ length l → bytes_of k (number k l) ≡ take k l
bytes_of_number zero l b h = refl
bytes_of_number (suc k) [] b h = absurd (not-suc-le-zero h)
bytes_of_number (suc k) (x ∷ l) b h =
    ap (bytes_of (suc k)) (number_cons k x l)
    ∙ ap₂ (λ (d : ℕ) (ds : List ℕ). d ∷ ds)
    (ap (λ (d : ℕ). d % 256) (digits_div x (number_below k l (λ i. b (suc i)))) ∙ mod-eq_of_lt (b 0))
    (bytes_of_high k x (number k l) ∙ bytes_of_number k l (λ i. b (suc i)) (le_of_suc-le-suc h))
