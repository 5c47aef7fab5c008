-- The laws of text: how many digits a number has, how long texts are, and texts laid in one after another by a loop.
-- Assumes nothing.
use Prim.Native.Nat.{ℕ, zero, suc, ◌+◌, ◌*◌, ◌/◌, ◌%◌, ◌^◌, ◌≤◌, ◌<◌, zero-le, min}
use mathlib.Core.List.{List, [], ◌∷◌, ◌++◌}
use mathlib.Core.Path.{◌≡◌, refl, ap, ◌∙◌, subst}
use native.Mathlib.Nat.{le_trans, pow-le-pow_right, suc-mul}
use native.Mathlib.Decide.{dec_lt}
use native.Mathlib.Numerals.{add-one, sub-one}
use native.Mathlib.Omega.{arith}
use borrow.Author.Tests.{lt-ltb, le-ltb}
use lib.Dec.{ltb}
use lib.ListN.{length, take, length-append}
use Rattle.buffers.specs.Buffers.{Laid}
use Rattle.buffers.proofs.Laws as Laying
pub use Rattle.buffers.proofs.Laws.{laid_then, laid_as, laid_nothing, laid_within, laid_length}
use Rattle.combinators.proofs.Seeking.{seek_first, first_seek}
use Rattle.io.specs.Digits.{IsDigitCount, last_digits, hex_digit_ascii}
use Rattle.text.specs.Text.{texts, decimal, decimal_width}

-- ---- the `texts` of a run of numbers laid in by a loop: none yet, one more, and all of them

texts_next : (piece : ℕ → List ℕ) (i : ℕ) → texts piece (i + 1) ≡ texts piece i ++ piece i
unfolding texts
texts_next piece i = ap (texts piece) (add-one i)

pub laid_first : (piece : ℕ → List ℕ) (old : List ℕ) (at next : ℕ) → next ≡ min (length old) at → Laid old at (texts piece 0) next old
unfolding texts
laid_first piece old at next e = laid_nothing old at next e

pub laid_next : (piece : ℕ → List ℕ) (i : ℕ) {old : List ℕ} {at between : ℕ} {mid : List ℕ} {next : ℕ} {new : List ℕ}
    → Laid old at (texts piece i) between mid → Laid mid between (piece i) next new → Laid old at (texts piece (i + 1)) next new
laid_next piece i p q = Laying.laid_next (texts piece) i (texts_next piece i) p q

pub laid_last : (piece : ℕ → List ℕ) (i n : ℕ) {old : List ℕ} {at between : ℕ} {mid : List ℕ} {next : ℕ} {new : List ℕ}
    → Laid old at [] between mid → Laid mid between (texts piece i) next new → i ≡ n → Laid old at (texts piece n) next new
laid_last piece i n p q e = Laying.laid_last (texts piece) i n e p q

-- the text that a buffer with room for it shows
pub shown_whole : (old text : List ℕ) (next : ℕ) (new : List ℕ) → Laid old 0 text next new → length text ≤ length old → take next new ≡ text
shown_whole old text next new p h = Laying.laid_shown p h

-- ---- decimal digits

-- the fewest digits that hold a number of 64 bits are as many as its decimal width says
pub fewest_width : (n r : ℕ) → n < 2 ^ 64 → IsDigitCount 10 1 n r → r ≡ decimal_width n
unfolding decimal_width
fewest_width n zero h f = absurd (omega (arith, f.0))
fewest_width n (suc k) h f =
    ap suc (first_seek (λ k. ltb n (10 ^ suc k)) 19 k
    (record {
      within = at_most_20 (dec_lt 19 k);
      before = λ j l. le-ltb n (10 ^ suc j) (le_trans (pow-le-pow_right (omega arith) l) (least (omega arith)));
      found = λ l. lt-ltb n (10 ^ suc k) f.1;
    }))
  where
    least : 0 < k → 10 ^ k ≤ n
    least l = subst (λ (m : ℕ). 10 ^ m ≤ n) (sub-one (suc k)) (f.2 (omega arith))

    at_most_20 : Dec (19 < k) → k ≤ 19
    at_most_20 (yes l) = let big : 10 ^ 20 ≤ n = le_trans (pow-le-pow_right (omega arith) l) (least (omega arith)) in absurd (omega arith)
    at_most_20 (no l) = omega arith

-- ---- how long a text is

length_digits : (b k n : ℕ) → length (last_digits b k n) ≡ k
length_digits b zero n = refl
length_digits b (suc k) n =
    length-append (last_digits b k (n / b)) (hex_digit_ascii (n % b) ∷ []) ∙ ap (λ (m : ℕ). m + 1) (length_digits b k (n / b)) ∙ add-one k

digits_at_most_20 : (b n : ℕ) → length (last_digits b (decimal_width n) n) ≤ 20
unfolding decimal_width
digits_at_most_20 b n = omega (arith, length_digits b (decimal_width n) n, (seek_first (λ k. ltb n (10 ^ suc k)) 19).within)

pub decimal_length : (n : ℕ) → length (decimal n) ≤ 20
unfolding decimal
decimal_length n = digits_at_most_20 _ n

pub texts_length : (piece : ℕ → List ℕ) (each : ℕ) → ((i : ℕ) → length (piece i) ≤ each) → (n : ℕ) → length (texts piece n) ≤ n * each
unfolding texts
texts_length piece each h zero = zero-le
texts_length piece each h (suc n) =
    omega (arith, length-append (texts piece n) (piece n), texts_length piece each h n, h n, suc-mul n each)
