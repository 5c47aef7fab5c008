-- The laws that join reading and writing, once for every table.
-- In order: one field above others; what stands above a table's bits; what reading means; which number writing makes; the same of
-- bytes (`read_write`, `write_read`, `written`).
-- Assumes nothing.
use Prim.Native.Nat.{ℕ, ◌+◌, ◌-◌, ◌*◌, ◌/◌, ◌%◌, ◌^◌, ◌≤◌, ◌<◌}
use mathlib.Core.Path.{◌≡◌, refl, sym, ap, ap₂, ◌∙◌}
use mathlib.Core.Bool.{true, ◌&&◌, and-eq-true_iff, false≢true}
use mathlib.Core.List.{List, [], ◌∷◌, ◌++◌, append-nil}
use native.Mathlib.Nat.{le_of_eq, mul_assoc, mod-lt, mod-one, mod-eq_of_lt}
use borrow.Author.Tests.{eqb-true, eq-eqb, ltb-true, lt-ltb}
use lib.Arith.{digits_lt}
use lib.Dec.{eqb, ltb, lit<}
use lib.ListN.{length, take}
use lib.Pow.{pow-add, pow_pos, high, mod-pow-add, ones_lt}
use lib.Seq.{take_all}
use Rattle.syntax.specs.Table.{Field, value, reserved, fixed, Table, width, bits, bytes, AreBytes, number, bytes_of, values_of, read_table, fixed_hold, reserved_ones, joined, write_table}
use Rattle.syntax.specs.Table.{Laid, end, value_then, reserved_then, fixed_then, Carries, Written, Fit, none, at_value, at_reserved, at_fixed, fits, fixed_fit, Sound}
use Rattle.syntax.proofs.Number.{byte_power, digit_high, number_append, number_take, number_below, length_bytes_of, bytes_of_bytes, number_bytes_of, bytes_of_number}

-- ---- one field, of w bits, with k bits after it

field_above : (h n w k : ℕ) → (h * 2 ^ (w + k) + n) / 2 ^ k % 2 ^ w ≡ n / 2 ^ k % 2 ^ w
field_above h n w k = rw (pow-add 2 w k) (digit_high h n (2 ^ w) (pow_pos k))

field_of : {v n : ℕ} (w k : ℕ) → v < 2 ^ w → n < 2 ^ k → (v * 2 ^ k + n) / 2 ^ k % 2 ^ w ≡ v
field_of {v} w k fit below = ap (λ (x : ℕ). x % 2 ^ w) (high v k below) ∙ mod-eq_of_lt fit

field_below : {v n : ℕ} (w k : ℕ) → v < 2 ^ w → n < 2 ^ k → v * 2 ^ k + n < 2 ^ (w + k)
field_below w k fit below = rw (pow-add 2 w k) (digits_lt fit below)

-- ---- what stands above a table's bits changes nothing in it

-- two numbers that a table reads alike
record Alike (t : Table) (m n : ℕ) : Type 0 where
  values : values_of t m ≡ values_of t n
  fixed_bits : fixed_hold t m ≡ fixed_hold t n
  reserved_bits : reserved_ones t m ≡ reserved_ones t n

alike_field : (f : Field) {t : Table} {m n : ℕ} → m / 2 ^ bits t % 2 ^ width f ≡ n / 2 ^ bits t % 2 ^ width f → Alike t m n → Alike (f ∷ t) m n
alike_field (value w name) e a = record { values = ap₂ (λ (v : ℕ) (vs : List ℕ). v ∷ vs) e a.values; fixed_bits = a.fixed_bits; reserved_bits = a.reserved_bits }
alike_field (reserved w) e a = record { values = a.values; fixed_bits = a.fixed_bits; reserved_bits = rw (e, a.reserved_bits) }
alike_field (fixed w b) e a = record { values = a.values; fixed_bits = rw (e, a.fixed_bits); reserved_bits = a.reserved_bits }

above : (t : Table) (h n : ℕ) → Alike t (h * 2 ^ bits t + n) n
above [] h n = record { values = refl; fixed_bits = refl; reserved_bits = refl }
above (f ∷ t) h n = alike_field f (field_above h n (width f) (bits t)) (rw (pow-add, ← mul_assoc) (above t (h * 2 ^ width f) n))

pub values_above : (t : Table) (h n : ℕ) → values_of t (h * 2 ^ bits t + n) ≡ values_of t n
values_above t h n = (above t h n).values

pub fixed_above : (t : Table) (h n : ℕ) → fixed_hold t (h * 2 ^ bits t + n) ≡ fixed_hold t n
fixed_above t h n = (above t h n).fixed_bits

pub reserved_above : (t : Table) (h n : ℕ) → reserved_ones t (h * 2 ^ bits t + n) ≡ reserved_ones t n
reserved_above t h n = (above t h n).reserved_bits

-- ---- what reading means: `values_of` and `fixed_hold` answer what a number is laid of, and a number is laid of what they answer

pub laid_below : {t : Table} {vs : List ℕ} {n : ℕ} → Laid t vs n → n < 2 ^ bits t
laid_below end = lit< tt
laid_below (value_then {w} {name} {t} fit d) = field_below w (bits t) fit (laid_below d)
laid_below (reserved_then {w} {t} fit d) = field_below w (bits t) fit (laid_below d)
laid_below (fixed_then {w} {b} {t} fit d) = field_below w (bits t) fit (laid_below d)

pub laid_values : {t : Table} {vs : List ℕ} {n : ℕ} → Laid t vs n → values_of t n ≡ vs
laid_values end = refl
laid_values (value_then {w} {name} {t} {v} {n} fit d) =
    ap₂ (λ (x : ℕ) (xs : List ℕ). x ∷ xs) (field_of w (bits t) fit (laid_below d)) (values_above t v n ∙ laid_values d)
laid_values (reserved_then {w} {t} {r} {n} fit d) = values_above t r n ∙ laid_values d
laid_values (fixed_then {w} {b} {t} {n} fit d) = values_above t b n ∙ laid_values d

pub laid_fixed : {t : Table} {vs : List ℕ} {n : ℕ} → Laid t vs n → fixed_hold t n ≡ true
laid_fixed end = refl
laid_fixed (value_then {w} {name} {t} {v} {n} fit d) = fixed_above t v n ∙ laid_fixed d
laid_fixed (reserved_then {w} {t} {r} {n} fit d) = fixed_above t r n ∙ laid_fixed d
laid_fixed (fixed_then {w} {b} {t} {n} fit d) =
    ap₂ ◌&&◌ (eq-eqb _ _ (field_of w (bits t) fit (laid_below d))) (fixed_above t b n ∙ laid_fixed d)

low_laid : (t : Table) (n : ℕ) → fixed_hold t n ≡ true → Laid t (values_of t n) (n % 2 ^ bits t)
low_laid [] n f = rw mod-one end
low_laid (value w name ∷ t) n f = rw (mod-pow-add n w (bits t)) (value_then (mod-lt (n / 2 ^ bits t) (pow_pos w)) (low_laid t n f))
low_laid (reserved w ∷ t) n f = rw (mod-pow-add n w (bits t)) (reserved_then (mod-lt (n / 2 ^ bits t) (pow_pos w)) (low_laid t n f))
low_laid (fixed w b ∷ t) n f =
    let both : (eqb (n / 2 ^ bits t % 2 ^ w) b ≡ true) × (fixed_hold t n ≡ true) = (and-eq-true_iff _ _).0 f in
    let e : n / 2 ^ bits t % 2 ^ w ≡ b = eqb-true _ _ both.0 in
    rw (mod-pow-add n w (bits t), e) (fixed_then (rw e at (mod-lt (n / 2 ^ bits t) (pow_pos w))) (low_laid t n both.1))

pub read_laid : (t : Table) {n : ℕ} → n < 2 ^ bits t → fixed_hold t n ≡ true → Laid t (values_of t n) n
read_laid t {n} below f = rw (mod-eq_of_lt below) at (low_laid t n f)

-- what is read fits, whatever the bytes
pub values_fit : (t : Table) (n : ℕ) → Fit t (values_of t n)
values_fit [] n = none
values_fit (value w name ∷ t) n = at_value (mod-lt (n / 2 ^ bits t) (pow_pos w)) (values_fit t n)
values_fit (reserved w ∷ t) n = at_reserved (values_fit t n)
values_fit (fixed w b ∷ t) n = at_fixed (values_fit t n)

-- the test of values says what it should
pub fits_fit : (t : Table) (vs : List ℕ) → fits t vs ≡ true → Fit t vs
fits_fit [] [] h = none
fits_fit [] (v ∷ vs) h = absurd (false≢true h)
fits_fit (value w name ∷ t) [] h = absurd (false≢true h)
fits_fit (value w name ∷ t) (v ∷ vs) h =
    let both : (ltb v (2 ^ w) ≡ true) × (fits t vs ≡ true) = (and-eq-true_iff _ _).0 h in
    at_value (ltb-true v (2 ^ w) both.0) (fits_fit t vs both.1)
fits_fit (reserved w ∷ t) vs h = at_reserved (fits_fit t vs h)
fits_fit (fixed w b ∷ t) vs h = at_fixed (fits_fit t vs h)

pub fit_fits : {t : Table} {vs : List ℕ} → Fit t vs → fits t vs ≡ true
fit_fits none = refl
fit_fits (at_value {w} {name} {t} {v} h fit) = ap₂ ◌&&◌ (lt-ltb v (2 ^ w) h) (fit_fits fit)
fit_fits (at_reserved fit) = fit_fits fit
fit_fits (at_fixed fit) = fit_fits fit

-- ---- which number writing makes: `joined` carries the values, and no other number of so many bits does

-- laid of the values, with its reserved bits 1
joined_made : {t : Table} {vs : List ℕ} → fixed_fit t ≡ true → Fit t vs → Laid t vs (joined t vs) × (reserved_ones t (joined t vs) ≡ true)
joined_made s none = (end, refl)
joined_made s (at_value {w} {name} {t} {v} {vs} h fit) =
    let rest : Laid t vs (joined t vs) × (reserved_ones t (joined t vs) ≡ true) = joined_made s fit in
    (value_then h rest.0, reserved_above t v (joined t vs) ∙ rest.1)
joined_made s (at_reserved {w} {t} {vs} fit) =
    let rest : Laid t vs (joined t vs) × (reserved_ones t (joined t vs) ≡ true) = joined_made s fit in (
      reserved_then (ones_lt w) rest.0,
      ap₂ ◌&&◌ (eq-eqb _ _ (field_of w (bits t) (ones_lt w) (laid_below rest.0))) (reserved_above t (2 ^ w - 1) (joined t vs) ∙ rest.1),
    )
joined_made s (at_fixed {w} {b} {t} {vs} fit) =
    let both : (ltb b (2 ^ w) ≡ true) × (fixed_fit t ≡ true) = (and-eq-true_iff _ _).0 s in
    let rest : Laid t vs (joined t vs) × (reserved_ones t (joined t vs) ≡ true) = joined_made both.1 fit in
    (fixed_then (ltb-true b (2 ^ w) both.0) rest.0, reserved_above t b (joined t vs) ∙ rest.1)

pub joined_laid : {t : Table} {vs : List ℕ} → fixed_fit t ≡ true → Fit t vs → Laid t vs (joined t vs)
joined_laid s fit = (joined_made s fit).0

pub joined_below : {t : Table} {vs : List ℕ} → fixed_fit t ≡ true → Fit t vs → joined t vs < 2 ^ bits t
joined_below s fit = laid_below (joined_laid s fit)

pub joined_carries : {t : Table} {vs : List ℕ} → fixed_fit t ≡ true → Fit t vs → Carries t vs (joined t vs)
joined_carries s fit =
    record { values = laid_values (joined_laid s fit); fixed_bits = laid_fixed (joined_laid s fit); reserved_bits = (joined_made s fit).1 }

laid_joined : {t : Table} {vs : List ℕ} {n : ℕ} → Laid t vs n → reserved_ones t n ≡ true → n ≡ joined t vs
laid_joined end ones = refl
laid_joined (value_then {w} {name} {t} {v} {n} fit d) ones =
    ap (λ (x : ℕ). v * 2 ^ bits t + x) (laid_joined d (sym (reserved_above t v n) ∙ ones))
laid_joined (reserved_then {w} {t} {r} {n} fit d) ones =
    let both : (eqb ((r * 2 ^ bits t + n) / 2 ^ bits t % 2 ^ w) (2 ^ w - 1) ≡ true) × (reserved_ones t (r * 2 ^ bits t + n) ≡ true) = (and-eq-true_iff _ _).0 ones in
    ap₂ (λ (x y : ℕ). x * 2 ^ bits t + y)
    (sym (field_of w (bits t) fit (laid_below d)) ∙ eqb-true _ _ both.0)
    (laid_joined d (sym (reserved_above t r n) ∙ both.1))
laid_joined (fixed_then {w} {b} {t} {n} fit d) ones = ap (λ (x : ℕ). b * 2 ^ bits t + x) (laid_joined d (sym (reserved_above t b n) ∙ ones))

pub joined_unique : {t : Table} {vs : List ℕ} {n : ℕ} → n < 2 ^ bits t → Carries t vs n → n ≡ joined t vs
joined_unique {t} {vs} {n} below c =
    laid_joined (read_laid t below c.fixed_bits) c.reserved_bits ∙ ap (joined t) c.values

-- ---- reading and writing, as bytes

-- a sound table's bytes hold as many numbers as its bits
pub whole_power : {t : Table} → Sound t → 256 ^ bytes t ≡ 2 ^ bits t
whole_power {t} s = byte_power (bytes t) ∙ ap (λ (k : ℕ). 2 ^ k) (sym s.whole)

pub number_fits : {t : Table} → Sound t → (l : List ℕ) → AreBytes l → number (bytes t) l < 2 ^ bits t
number_fits {t} s l b = rw (← whole_power s) (number_below (bytes t) l b)

pub read_fits : (t : Table) (l : List ℕ) → Fit t (read_table t l)
read_fits t l = values_fit t (number (bytes t) l)

-- reading looks at the bytes of the table alone
pub read_take : (t : Table) (l : List ℕ) → read_table t (take (bytes t) l) ≡ read_table t l
read_take t l = ap (values_of t) (number_take (bytes t) l)

pub read_before : (t : Table) (l rest : List ℕ) → bytes t ≤ length l → read_table t (l ++ rest) ≡ read_table t l
read_before t l rest long = ap (values_of t) (number_append (bytes t) l rest long)

pub length_written : (t : Table) (vs : List ℕ) → length (write_table t vs) ≡ bytes t
length_written t vs = length_bytes_of (bytes t) (joined t vs)

pub written_bytes : (t : Table) (vs : List ℕ) → AreBytes (write_table t vs)
written_bytes t vs = bytes_of_bytes (bytes t) (joined t vs)

module _ {t : Table} {vs : List ℕ} (s : Sound t) (fit : Fit t vs) (rest : List ℕ) where
  pub number_written : number (bytes t) (write_table t vs ++ rest) ≡ joined t vs
  number_written =
      number_bytes_of (bytes t) (joined t vs) rest ∙ mod-eq_of_lt (rw (whole_power s) (joined_below s.fixed_fit fit))

  written_carries : Carries t vs (number (bytes t) (write_table t vs ++ rest))
  written_carries = rw number_written (joined_carries s.fixed_fit fit)

  -- reading what was written gives the values back, whatever follows
  pub read_write : read_table t (write_table t vs ++ rest) ≡ vs
  read_write = written_carries.values

-- writing what was read gives the bytes back, where fixed bits are as printed and reserved bits 1
pub write_read : {t : Table} → Sound t → (l : List ℕ) → AreBytes l → bytes t ≤ length l
    → fixed_hold t (number (bytes t) l) ≡ true → reserved_ones t (number (bytes t) l) ≡ true → write_table t (read_table t l) ≡ take (bytes t) l
write_read {t} s l b long f r =
    let c : Carries t (read_table t l) (number (bytes t) l) = record { values = refl; fixed_bits = f; reserved_bits = r } in
    ap (bytes_of (bytes t)) (sym (joined_unique (number_fits s l b) c))
    ∙ bytes_of_number (bytes t) l b long

-- `write_table` meets what writing means, and nothing else does
pub written : {t : Table} {vs : List ℕ} → Sound t → Fit t vs → Written t vs (write_table t vs)
written {t} {vs} s fit =
    record { as_long = length_written t vs; in_bytes = written_bytes t vs; carries = rw append-nil at (written_carries s fit []) }

pub written_unique : {t : Table} {vs l : List ℕ} → Sound t → Written t vs l → l ≡ write_table t vs
written_unique {t} {vs} {l} s w =
    sym (take_all (bytes t) l (le_of_eq w.as_long))
    ∙ sym (write_read s l w.in_bytes (le_of_eq (sym w.as_long)) w.carries.fixed_bits w.carries.reserved_bits)
    ∙ ap (write_table t) w.carries.values
