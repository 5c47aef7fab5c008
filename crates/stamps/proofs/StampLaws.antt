-- The bits of a time, byte by byte: what the code reads off five bytes is what the table says of them as one number, and the five bytes that
-- it makes of a time are those that the table has.
-- Assumes nothing.
use Prim.Native.Nat.{ℕ, ◌+◌, ◌*◌, ◌/◌, ◌%◌, ◌^◌, ◌≤◌, ◌<◌}
use mathlib.Core.Path.{◌≡◌, sym, ap, ◌∙◌}
use mathlib.Core.Bool.{Bool, true, false, ◌&&◌, cond}
use mathlib.Core.List.{List, [], ◌∷◌, ◌++◌}
use native.Mathlib.Omega.{arith}
use lib.Dec.{eqb}
use lib.ListN.{length, get_or}
use Rattle.syntax.proofs.Equations.{fixed_at, each}
use Rattle.syntax.proofs.Number.{number_append}
use Rattle.syntax.specs.Table.{Table, AreBytes, number, fixed_hold, write_table}
use Rattle.stamps.specs.Tables.{tref, prefixed}
use Rattle.stamps.specs.Stamps.{time_of, stamp_of, dts_flag, time_field}
use Rattle.stamps.specs.declared.Stamp.{Stamp}

abbrev pub stamp : Bool → ℕ → Stamp
stamp marked time = record { marked = marked; time = time }

parts : (a b c d e : ℕ) {x y z : ℕ} → a ≡ x → b * 2 ^ 7 + c ≡ y → d * 2 ^ 7 + e ≡ z → a * 2 ^ 30 + b * 2 ^ 22 + c * 2 ^ 15 + d * 2 ^ 7 + e ≡ x * 2 ^ 30 + y * 2 ^ 15 + z
parts a b c d e h m l = omega arith

module _ (l : List ℕ) (bytes : AreBytes l) where
  pub markers_of_bytes : eqb (get_or l 0 0 % 2) 1 && eqb (get_or l 2 0 % 2) 1 && eqb (get_or l 4 0 % 2) 1 ≡ fixed_hold tref (number 5 l)
  markers_of_bytes =
      sym
      (fixed_at tref (number 5 l) (get_or l 0 0 % 2 ∷ get_or l 2 0 % 2 ∷ get_or l 4 0 % 2 ∷ [])
      (omega (arith, bytes 0, bytes 1, bytes 2, bytes 3, bytes 4)))

  pub time_of_bytes : get_or l 0 0 / 2 % 8 * 2 ^ 30 + get_or l 1 0 * 2 ^ 22 + get_or l 2 0 / 2 * 2 ^ 15 + get_or l 3 0 * 2 ^ 7 + get_or l 4 0 / 2 ≡ time_of tref (number 5 l)
  time_of_bytes = parts (get_or l 0 0 / 2 % 8) (get_or l 1 0) (get_or l 2 0 / 2) (get_or l 3 0) (get_or l 4 0 / 2) high middle low
    where
      high : get_or l 0 0 / 2 % 8 ≡ number 5 l / 2 ^ 33 % 2 ^ 3
      high = omega (arith, bytes 0, bytes 1, bytes 2, bytes 3, bytes 4)

      middle : get_or l 1 0 * 2 ^ 7 + get_or l 2 0 / 2 ≡ number 5 l / 2 ^ 17 % 2 ^ 15
      middle = omega (arith, bytes 0, bytes 1, bytes 2, bytes 3, bytes 4)

      low : get_or l 3 0 * 2 ^ 7 + get_or l 4 0 / 2 ≡ number 5 l / 2 ^ 1 % 2 ^ 15
      low = omega (arith, bytes 0, bytes 1, bytes 2, bytes 3, bytes 4)

  pub prefix_of_bytes : (prefix : ℕ) → eqb (get_or l 0 0 / 16) prefix && fixed_hold tref (number 5 l) ≡ fixed_hold (prefixed prefix) (number 5 l)
  prefix_of_bytes prefix = ap (λ (x : ℕ). eqb x prefix && fixed_hold tref (number 5 l)) high
    where
      high : get_or l 0 0 / 16 ≡ number 5 l / 2 ^ 36 % 2 ^ 4
      high = omega (arith, bytes 0, bytes 1, bytes 2, bytes 3, bytes 4)

pub dts_at_most_once : (pts_dts_flags : ℕ) → dts_flag pts_dts_flags ≤ 1
dts_at_most_once pts_dts_flags = by_test (eqb pts_dts_flags 0b11)
  where
    by_test : (t : Bool) → cond t 1 0 ≤ 1
    by_test true = omega arith
    by_test false = omega arith

-- what stands after a time changes nothing in it
pub stamp_before : (t : Table) (field rest : List ℕ) → 5 ≤ length field → stamp_of t (field ++ rest) ≡ stamp_of t field
stamp_before t field rest long = ap (λ (n : ℕ). stamp (fixed_hold t n) (time_of t n)) (number_append 5 field rest long)

-- a time's field, byte by byte: of its parts, and of the time
field_of_parts : (prefix a b c : ℕ) → prefix < 2 ^ 4 → a < 2 ^ 3 → b < 2 ^ 15 → c < 2 ^ 15
    → write_table (prefixed prefix) (a ∷ b ∷ c ∷ []) ≡ (prefix * 16 + a * 2 + 1) ∷ b / 128 ∷ (b % 128 * 2 + 1) ∷ c / 128 ∷ (c % 128 * 2 + 1) ∷ []
field_of_parts prefix a b c hp ha hb hc = each (omega arith)

pub field_of_time : (prefix time : ℕ) → prefix < 2 ^ 4 → time < 2 ^ 33
    → time_field (prefixed prefix) time
    ≡ (prefix * 16 + time / 1073741824 * 2 + 1) ∷ time / 4194304 % 256 ∷ (time / 32768 % 128 * 2 + 1) ∷ time / 128 % 256 ∷ (time % 128 * 2 + 1) ∷ []
field_of_time prefix time hp ht =
    field_of_parts prefix (time / 2 ^ 30) (time / 2 ^ 15 % 2 ^ 15) (time % 2 ^ 15) hp (omega arith) (omega arith) (omega arith)
    ∙ each (omega arith)
