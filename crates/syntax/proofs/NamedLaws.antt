-- The laws of writing by name: `write_by` meets what it means and nothing else does, and what was given to a name is read by that name.
-- Assumes nothing.
use Prim.Native.Nat.{ℕ, ◌/◌, ◌%◌, ◌^◌}
use Prim.Native.String.{String}
use mathlib.Core.Path.{◌≡◌, refl, sym, ap, subst, ◌∙◌}
use mathlib.Core.Bool.{Bool, true, false, cond, ◌||◌, false≢true}
use mathlib.Core.List.{List, [], ◌∷◌, head-eq_of_cons-eq, tail-eq_of_cons-eq}
use lib.Dec.{T}
use lib.Text.{eqt, eqt→eq}
use Rattle.syntax.specs.Table.{value, reserved, fixed, Table, bits, bytes, number, values_of, Fit, Sound}
use Rattle.syntax.specs.Named.{named, Given, given_to, values_by, write_by, has_line, have_lines, WrittenBy}
use Rattle.syntax.proofs.Laws.{written, written_unique}

pub written_by_meant : {t : Table} {given : Given} → Sound t → have_lines given t ≡ true → Fit t (values_by t given) → WrittenBy t given (write_by t given)
written_by_meant s lines fit = record { lines = lines; written = written s fit }

pub written_by_only : {t : Table} {given : Given} {l : List ℕ} → Sound t → WrittenBy t given l → l ≡ write_by t given
written_by_only s w = written_unique s w.written

-- a number that holds the values that were given holds at each line what its name was given
named_given : (name : String) (given : Given) (t : Table) (n : ℕ) → has_line name t ≡ true → values_of t n ≡ values_by t given
    → named name t n ≡ given_to name given
named_given name given [] n has e = absurd (false≢true has)
named_given name given (value w line ∷ t) n has e = by_line (eqt name line) refl has (λ later. named_given name given t n later (tail-eq_of_cons-eq e))
  where
    by_line : (same : Bool) → eqt name line ≡ same → same || has_line name t ≡ true → (has_line name t ≡ true → named name t n ≡ given_to name given)
        → cond same (n / 2 ^ bits t % 2 ^ w) (named name t n) ≡ given_to name given
    by_line true is has later = head-eq_of_cons-eq e ∙ ap (λ (x : String). given_to x given) (sym (eqt→eq name line (subst T (sym is) tt)))
    by_line false is has later = later has
named_given name given (reserved w ∷ t) n has e = named_given name given t n has e
named_given name given (fixed w b ∷ t) n has e = named_given name given t n has e

-- READING BY NAME what was written by name
pub read_by_name : {t : Table} {given : Given} {l : List ℕ} → WrittenBy t given l → (name : String) → has_line name t ≡ true
    → named name t (number (bytes t) l) ≡ given_to name given
read_by_name {t} {given} {l} w name has = named_given name given t (number (bytes t) l) has w.written.carries.values
