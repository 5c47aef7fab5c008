-- A syntax table filled: each of its lines is given a number by its name. What is written is a list of filled tables, one after another.
-- Assumes nothing.
use Rattle.std.specs.Prelude.{ℕ, Bool, true, false, cond, not, List, [], ◌∷◌, ◌++◌}
use Rattle.syntax.specs.Table.{Table, fits}
use Rattle.syntax.specs.Named.{Given, values_by, write_by, WrittenBy}

pub record Filled : Type 0 where
  pub table : Table
  pub given : Given

abbrev pub filled : Table → Given → Filled
filled table given = record { table = table; given = given }

-- the numbers in the table's order, and its bytes
abbrev pub values_in : Filled → List ℕ
values_in f = values_by f.table f.given

abbrev pub bytes_in : Filled → List ℕ
bytes_in f = write_by f.table f.given

-- 25: 'a value to be written is too wide for its field'
abbrev pub too_wide_in : Filled → Bool
too_wide_in f = not (fits f.table (values_in f))

-- a flag as one bit
abbrev pub bit_of : Bool → ℕ
bit_of flag = cond flag 1 0

-- What writing filled tables means: the bytes of each, by the names of its lines, in order.
pub data Writes : List Filled → List ℕ → Type 0 where
  nothing : Writes [] []
  table_then : {f : Filled} {fs : List Filled} {l rest : List ℕ} → WrittenBy f.table f.given l → Writes fs rest → Writes (f ∷ fs) (l ++ rest)
