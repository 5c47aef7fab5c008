-- A syntax table of the standard: its fields in order, each with its number of bits. What a reader answers for the bytes of a
-- table, and which bytes a writer makes of values, are both read off the one list. proofs/Laws.antt joins the two.
-- In order: tables; bytes as a number; reading; writing; which values and which tables can be written.
-- Assumes nothing.
use Rattle.std.specs.Prelude.{ℕ, zero, suc, ◌+◌, ◌-◌, ◌*◌, ◌/◌, ◌%◌, ◌^◌, ◌<◌, ◌≡◌, Bool, true, false, ◌&&◌, List, [], ◌∷◌, eqb, ltb, get_or, length}
use Prim.Native.String.{String}

-- One line of a table. A value has the standard's name and is what the table is read and written for. Reserved bits are
-- ignored in reading and written as 1. Fixed bits, markers and prefixes, have the number that the standard prints.
pub data Field : Type 0 where
  value : ℕ → String → Field
  reserved : ℕ → Field
  fixed : ℕ → ℕ → Field

abbrev pub Table : Type 0
Table = List Field

-- the number of bits of a field, the column 'No. of bits'
abbrev pub width : Field → ℕ
width (value w name) = w
width (reserved w) = w
width (fixed w bits) = w

-- the number of bits of a table, and the number of bytes that they fill
abbrev pub bits : Table → ℕ
bits [] = 0
bits (f ∷ t) = width f + bits t

abbrev pub bytes : Table → ℕ
bytes t = bits t / 8

-- a list of bytes: each element is below 256 (past the end of a list stands 0)
abbrev pub AreBytes : List ℕ → Type 0
AreBytes l = (i : ℕ) → get_or l i 0 < 256

-- k bytes of a list, from place i on, as one number, the first byte most significant (as bslbf and uimsbf are sent)
abbrev pub number_from : ℕ → ℕ → List ℕ → ℕ
number_from i zero l = 0
number_from i (suc k) l = get_or l i 0 * 256 ^ k + number_from (suc i) k l

abbrev pub number : ℕ → List ℕ → ℕ
number k l = number_from 0 k l

-- a number as k bytes, most significant first
abbrev pub bytes_of : ℕ → ℕ → List ℕ
bytes_of zero n = []
bytes_of (suc k) n = (n / 256 ^ k % 256) ∷ bytes_of k n

-- READING. The values of a table, in its order: each stands above the bits of the fields after it.
abbrev pub values_of : Table → ℕ → List ℕ
values_of [] n = []
values_of (value w name ∷ t) n = (n / 2 ^ bits t % 2 ^ w) ∷ values_of t n
values_of (reserved w ∷ t) n = values_of t n
values_of (fixed w b ∷ t) n = values_of t n

abbrev pub read_table : Table → List ℕ → List ℕ
read_table t l = values_of t (number (bytes t) l)

-- whether the markers and prefixes are as the table prints them
abbrev pub fixed_hold : Table → ℕ → Bool
fixed_hold [] n = true
fixed_hold (value w name ∷ t) n = fixed_hold t n
fixed_hold (reserved w ∷ t) n = fixed_hold t n
fixed_hold (fixed w b ∷ t) n = eqb (n / 2 ^ bits t % 2 ^ w) b && fixed_hold t n

-- whether the reserved bits are 1, as a writer leaves them
abbrev pub reserved_ones : Table → ℕ → Bool
reserved_ones [] n = true
reserved_ones (value w name ∷ t) n = reserved_ones t n
reserved_ones (reserved w ∷ t) n = eqb (n / 2 ^ bits t % 2 ^ w) (2 ^ w - 1) && reserved_ones t n
reserved_ones (fixed w b ∷ t) n = reserved_ones t n

-- What reading means: n is the number of a table's bits when the first field, whose number its width can hold, stands above the
-- bits of the other fields. A value's number is listed, reserved bits are any, fixed bits are as printed.
pub data Laid : Table → List ℕ → ℕ → Type 0 where
  end : Laid [] [] 0
  value_then : {w : ℕ} {name : String} {t : Table} {v n : ℕ} {vs : List ℕ} → v < 2 ^ w → Laid t vs n → Laid (value w name ∷ t) (v ∷ vs) (v * 2 ^ bits t + n)
  reserved_then : {w : ℕ} {t : Table} {r n : ℕ} {vs : List ℕ} → r < 2 ^ w → Laid t vs n → Laid (reserved w ∷ t) vs (r * 2 ^ bits t + n)
  fixed_then : {w b : ℕ} {t : Table} {n : ℕ} {vs : List ℕ} → b < 2 ^ w → Laid t vs n → Laid (fixed w b ∷ t) vs (b * 2 ^ bits t + n)

-- WRITING. The values laid into a table, in its order, reserved bits as 1 and fixed bits as printed.
abbrev pub joined : Table → List ℕ → ℕ
joined [] vs = 0
joined (value w name ∷ t) [] = joined t []
joined (value w name ∷ t) (v ∷ vs) = v * 2 ^ bits t + joined t vs
joined (reserved w ∷ t) vs = (2 ^ w - 1) * 2 ^ bits t + joined t vs
joined (fixed w b ∷ t) vs = b * 2 ^ bits t + joined t vs

abbrev pub write_table : Table → List ℕ → List ℕ
write_table t vs = bytes_of (bytes t) (joined t vs)

-- What writing means, of a number and of bytes: reading gives the values, fixed bits are as printed, reserved bits are 1.
pub record Carries (t : Table) (vs : List ℕ) (n : ℕ) : Type 0 where
  pub values : values_of t n ≡ vs
  pub fixed_bits : fixed_hold t n ≡ true
  pub reserved_bits : reserved_ones t n ≡ true

pub record Written (t : Table) (vs l : List ℕ) : Type 0 where
  pub as_long : length l ≡ bytes t
  pub in_bytes : AreBytes l
  pub carries : Carries t vs (number (bytes t) l)

-- Values that a table can hold: one for each value field, each below two to its width.
pub data Fit : Table → List ℕ → Type 0 where
  none : Fit [] []
  at_value : {w : ℕ} {name : String} {t : Table} {v : ℕ} {vs : List ℕ} → v < 2 ^ w → Fit t vs → Fit (value w name ∷ t) (v ∷ vs)
  at_reserved : {w : ℕ} {t : Table} {vs : List ℕ} → Fit t vs → Fit (reserved w ∷ t) vs
  at_fixed : {w b : ℕ} {t : Table} {vs : List ℕ} → Fit t vs → Fit (fixed w b ∷ t) vs

-- whether a table can hold the values
abbrev pub fits : Table → List ℕ → Bool
fits [] [] = true
fits [] (v ∷ vs) = false
fits (value w name ∷ t) [] = false
fits (value w name ∷ t) (v ∷ vs) = ltb v (2 ^ w) && fits t vs
fits (reserved w ∷ t) vs = fits t vs
fits (fixed w b ∷ t) vs = fits t vs

-- whether each field of fixed bits is as wide as its number needs
abbrev pub fixed_fit : Table → Bool
fixed_fit [] = true
fixed_fit (value w name ∷ t) = fixed_fit t
fixed_fit (reserved w ∷ t) = fixed_fit t
fixed_fit (fixed w b ∷ t) = ltb b (2 ^ w) && fixed_fit t

-- A table that can be written: it fills whole bytes, and its fixed bits fit their widths.
pub record Sound (t : Table) : Type 0 where
  pub whole : bits t ≡ 8 * bytes t
  pub fixed_fit : fixed_fit t ≡ true
