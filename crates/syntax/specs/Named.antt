-- The values of a table by the names that the standard gives its lines: read off a number, and given to be written.
-- Assumes nothing.
use Rattle.std.specs.Prelude.{ℕ, ◌/◌, ◌%◌, ◌^◌, ◌≡◌, Bool, true, false, cond, ◌&&◌, ◌||◌, List, [], ◌∷◌}
use Prim.Native.String.{String}
use lib.Text.{eqt}
use Rattle.syntax.specs.Table.{value, reserved, fixed, Table, bits, read_table, write_table, Written}

-- READING. The value of the first line of that name, in a number that holds the table's bits; 0 where no line has it.
abbrev pub named : String → Table → ℕ → ℕ
named name [] n = 0
named name (value w line ∷ t) n = cond (eqt name line) (n / 2 ^ bits t % 2 ^ w) (named name t n)
named name (reserved w ∷ t) n = named name t n
named name (fixed w b ∷ t) n = named name t n

-- Numbers given to names, in any order. A name that is given none has 0.
abbrev pub Given : Type 0
Given = List (String × ℕ)

abbrev pub given_to : String → Given → ℕ
given_to name [] = 0
given_to name ((line, n) ∷ given) = cond (eqt name line) n (given_to name given)

-- the values of a table in its order, each given to the name of its line
abbrev pub by_names : Table → List ℕ → Given
by_names [] vs = []
by_names (value w name ∷ t) [] = []
by_names (value w name ∷ t) (v ∷ vs) = (name, v) ∷ by_names t vs
by_names (reserved w ∷ t) vs = by_names t vs
by_names (fixed w b ∷ t) vs = by_names t vs

-- what bytes give to the names of a table's lines
abbrev pub read_by : Table → List ℕ → Given
read_by t l = by_names t (read_table t l)

-- WRITING.

-- the values of a table in its order, each what its line's name is given
abbrev pub values_by : Table → Given → List ℕ
values_by [] given = []
values_by (value w name ∷ t) given = given_to name given ∷ values_by t given
values_by (reserved w ∷ t) given = values_by t given
values_by (fixed w b ∷ t) given = values_by t given

abbrev pub write_by : Table → Given → List ℕ
write_by t given = write_table t (values_by t given)

-- whether a table has a line of that name, and whether it has one for each name that is given a number
abbrev pub has_line : String → Table → Bool
has_line name [] = false
has_line name (value w line ∷ t) = eqt name line || has_line name t
has_line name (reserved w ∷ t) = has_line name t
has_line name (fixed w b ∷ t) = has_line name t

abbrev pub have_lines : Given → Table → Bool
have_lines [] t = true
have_lines ((name, n) ∷ given) t = has_line name t && have_lines given t

-- What writing by name means: no name is given a number in vain, and the bytes carry the numbers, fixed bits as printed and reserved bits 1.
pub record WrittenBy (t : Table) (given : Given) (l : List ℕ) : Type 0 where
  pub lines : have_lines given t ≡ true
  pub written : Written t (values_by t given) l
