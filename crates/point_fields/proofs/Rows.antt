-- A row's numbers against their fields: the tests that the code makes, and what each is known to be below where none fails.
-- Assumes nothing.
use Prim.Native.Nat.{ℕ, ◌+◌, ◌*◌, ◌/◌, ◌%◌, ◌<◌}
use mathlib.Core.Path.{◌≡◌, refl, sym, ap, ◌∙◌}
use mathlib.Core.Bool.{Bool, true, false, cond, not, ◌&&◌, ◌||◌, and-true, or-false}
use mathlib.Core.List.{List, [], ◌∷◌, ◌++◌, append-nil}
use native.Mathlib.Omega.{arith}
use borrow.Author.Tests.{not-false, ltb-true}
use lib.Dec.{eqb, ltb}
use lib.ListN.{get_or}
use Rattle.combinators.specs.Bools.{apart}
use Rattle.syntax.specs.Table.{write_table}
use Rattle.syntax.proofs.Equations.{each}
use Rattle.operation_points.specs.Tables.{point_head, flags_count, rates, frame_rate, average_rate}
use Rattle.point_fields.specs.Fields.{row_too_wide, rate_bytes}

-- ---- 25

-- a number of a line that may be there
abbrev pub field_fits : Bool → ℕ → ℕ → Bool
field_fits there number bound = cond there (ltb number bound) (eqb number 0)

field_wide : (there below none : Bool) → cond there (not (below && true)) (not none || false) ≡ not (cond there below none)
field_wide true below none = ap not (and-true below)
field_wide false below none = or-false (not none)

-- of a line that is there
pub field_small : (there : Bool) (number bound : ℕ) → field_fits there number bound ≡ true → there ≡ true → number < bound
field_small true number bound e t = ltb-true number bound e
field_small false number bound e t = apart t

-- one test fails, in whichever part it stands
joined : (a b c d e f g x y z : Bool)
    → not (a && b && c && d && e && f && g && (x && y && z))
    ≡ (not (a && (b && true)) || (false || (not (c && true) || (false || (not (d && (e && (f && (g && true)))) || (not x || (not y || (not z || false))))))))
joined false b c d e f g x y z = refl
joined true false c d e f g x y z = refl
joined true true false d e f g x y z = refl
joined true true true false e f g x y z = refl
joined true true true true false f g x y z = refl
joined true true true true true false g x y z = refl
joined true true true true true true false x y z = refl
joined true true true true true true true false y z = refl
joined true true true true true true true true false z = refl
joined true true true true true true true true true false = refl
joined true true true true true true true true true true = refl

abbrev pub tests : List ℕ → Bool
tests row =
    ltb (get_or row 0 0) 256
    && ltb (get_or row 1 0) 256
    && ltb (get_or row 2 0) 64
    && ltb (get_or row 3 0) 2
    && ltb (get_or row 4 0) 2
    && ltb (get_or row 5 0) 4
    && ltb (get_or row 6 0) 8
    && (field_fits (ltb 0 (get_or row 5 0)) (get_or row 7 0) 4096
    && field_fits (eqb (get_or row 3 0) 1) (get_or row 8 0) 16777216
    && field_fits (eqb (get_or row 4 0) 1) (get_or row 9 0) 16777216)

pub tested : (row : List ℕ) → not (tests row) ≡ row_too_wide row
unfolding row_too_wide
tested row =
    joined (ltb (get_or row 0 0) 256) (ltb (get_or row 1 0) 256) (ltb (get_or row 2 0) 64) (ltb (get_or row 3 0) 2) (ltb (get_or row 4 0) 2) (ltb (get_or row 5 0) 4)
    (ltb (get_or row 6 0) 8) (field_fits (ltb 0 (get_or row 5 0)) (get_or row 7 0) 4096) (field_fits (eqb (get_or row 3 0) 1) (get_or row 8 0) 16777216)
    (field_fits (eqb (get_or row 4 0) 1) (get_or row 9 0) 16777216)
    ∙ sym (rw (
      field_wide (ltb 0 (get_or row 5 0)) (ltb (get_or row 7 0) 4096) (eqb (get_or row 7 0) 0),
      field_wide (eqb (get_or row 3 0) 1) (ltb (get_or row 8 0) 16777216) (eqb (get_or row 8 0) 0),
      field_wide (eqb (get_or row 4 0) 1) (ltb (get_or row 9 0) 16777216) (eqb (get_or row 9 0) 0),
    ))

-- what is known of a row in which nothing is too wide
pub record RowFits (row : List ℕ) : Type 0 where
  pub target_ols : get_or row 0 0 < 256
  pub references : get_or row 1 0 < 256
  pub layers : get_or row 2 0 < 64
  pub average_flag : get_or row 3 0 < 2
  pub maximum_flag : get_or row 4 0 < 2
  pub idc : get_or row 5 0 < 4
  pub temporal_id : get_or row 6 0 < 8
  pub indicator : field_fits (ltb 0 (get_or row 5 0)) (get_or row 7 0) 4096 ≡ true
  pub average : field_fits (eqb (get_or row 3 0) 1) (get_or row 8 0) 16777216 ≡ true
  pub maximum : field_fits (eqb (get_or row 4 0) 1) (get_or row 9 0) 16777216 ≡ true

each_test : (a b c d e f g x y z : Bool) → a && b && c && d && e && f && g && (x && y && z) ≡ true
    → (a ≡ true) × (b ≡ true) × (c ≡ true) × (d ≡ true) × (e ≡ true) × (f ≡ true) × (g ≡ true) × (x ≡ true) × (y ≡ true) × (z ≡ true)
each_test false b c d e f g x y z h = apart h
each_test true false c d e f g x y z h = apart h
each_test true true false d e f g x y z h = apart h
each_test true true true false e f g x y z h = apart h
each_test true true true true false f g x y z h = apart h
each_test true true true true true false g x y z h = apart h
each_test true true true true true true false x y z h = apart h
each_test true true true true true true true false y z h = apart h
each_test true true true true true true true true false z h = apart h
each_test true true true true true true true true true false h = apart h
each_test true true true true true true true true true true h = (refl, refl, refl, refl, refl, refl, refl, refl, refl, refl)

pub row_fits : (row : List ℕ) → row_too_wide row ≡ false → RowFits row
row_fits row e =
    let all =
    each_test (ltb (get_or row 0 0) 256) (ltb (get_or row 1 0) 256) (ltb (get_or row 2 0) 64) (ltb (get_or row 3 0) 2) (ltb (get_or row 4 0) 2) (ltb (get_or row 5 0) 4)
    (ltb (get_or row 6 0) 8) (field_fits (ltb 0 (get_or row 5 0)) (get_or row 7 0) 4096) (field_fits (eqb (get_or row 3 0) 1) (get_or row 8 0) 16777216)
    (field_fits (eqb (get_or row 4 0) 1) (get_or row 9 0) 16777216) (not-false (tests row) (tested row ∙ e)) in
    record {
      target_ols = ltb-true (get_or row 0 0) 256 all.0;
      references = ltb-true (get_or row 1 0) 256 all.1;
      layers = ltb-true (get_or row 2 0) 64 all.2;
      average_flag = ltb-true (get_or row 3 0) 2 all.3;
      maximum_flag = ltb-true (get_or row 4 0) 2 all.4;
      idc = ltb-true (get_or row 5 0) 4 all.5;
      temporal_id = ltb-true (get_or row 6 0) 8 all.6;
      indicator = all.7;
      average = all.8;
      maximum = all.9;
    }

-- ---- the tables of a point, each at numbers that fit it

pub point_head_written : (a b : ℕ) → a < 256 → b < 256 → a ∷ b ∷ [] ≡ write_table point_head (a ∷ b ∷ [])
point_head_written a b h k = each (omega arith)

pub flags_count_written : (n : ℕ) → n < 64 → (192 + n) ∷ [] ≡ write_table flags_count (n ∷ [])
flags_count_written n h = each (omega arith)

pub rates_written : (a b c d : ℕ) → a < 2 → b < 2 → c < 4 → d < 8
    → (128 + a * 64 + b * 32 + c * 8 + d) ∷ [] ≡ write_table rates (a ∷ b ∷ c ∷ d ∷ [])
rates_written a b c d h k l m = each (omega arith)

pub frame_rate_written : (n : ℕ) → n < 4096 → (240 + n / 256) ∷ (n % 256) ∷ [] ≡ write_table frame_rate (n ∷ [])
frame_rate_written n h = each (omega arith)

pub bit_rate_written : (n : ℕ) → n < 16777216 → (n / 65536) ∷ (n / 256 % 256) ∷ (n % 256) ∷ [] ≡ write_table average_rate (n ∷ [])
bit_rate_written n h = each (omega arith)

-- ---- the rates of a point

pub rates_in : (row : List ℕ)
    → write_table rates (get_or row 3 0 ∷ get_or row 4 0 ∷ get_or row 5 0 ∷ get_or row 6 0 ∷ [])
    ++ (cond (ltb 0 (get_or row 5 0)) (write_table frame_rate (get_or row 7 0 ∷ [])) []
    ++ (cond (eqb (get_or row 3 0) 1) (write_table average_rate (get_or row 8 0 ∷ [])) [] ++ cond (eqb (get_or row 4 0) 1) (write_table average_rate (get_or row 9 0 ∷ [])) []))
    ≡ rate_bytes row
unfolding rate_bytes
rates_in row =
    ap (λ (l : List ℕ). write_table rates (get_or row 3 0 ∷ get_or row 4 0 ∷ get_or row 5 0 ∷ get_or row 6 0 ∷ [])
    ++ (cond (ltb 0 (get_or row 5 0)) (write_table frame_rate (get_or row 7 0 ∷ [])) [] ++ (cond (eqb (get_or row 3 0) 1) (write_table average_rate (get_or row 8 0 ∷ [])) [] ++ l)))
    (sym (append-nil (cond (eqb (get_or row 4 0) 1) (write_table average_rate (get_or row 9 0 ∷ [])) [])))
