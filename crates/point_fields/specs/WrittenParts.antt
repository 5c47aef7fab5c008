-- WRITING A SYNTAX TABLE WITH LOOPS AND CONDITIONS: the same parts by which it is read (operation_points/specs/Parts.antt), filled by the names of their
-- lines. A loop has the items of the list that its count counts. Reserved bits are written as 1.
-- Assumes nothing.
use Rattle.std.specs.Prelude.{ℕ, Bool, true, false, cond, not, List, [], ◌∷◌, ◌++◌, ◌≡◌, eqb}
use Prim.Native.String.{String}
use Rattle.combinators.specs.Lists.{any, gather}
use Rattle.syntax.specs.Table.{Table, Fit, fits, Written}
use Rattle.syntax.specs.Named.{Given, values_by, write_by}
use Rattle.operation_points.specs.Parts.{Part, lines, repeated, when}

-- the items of each list, by the name of the line that counts them
abbrev pub Lists : Type 0
Lists = String → List Given

-- THE BYTES.
abbrev pub part_bytes : Given → Lists → Part → List ℕ
part_bytes given lists (lines t) = write_by t given
part_bytes given lists (repeated name t) = gather (write_by t) (lists name)
part_bytes given lists (when test t) = cond (test given) (write_by t given) []

abbrev pub parts_bytes : Given → Lists → List Part → List ℕ
parts_bytes given lists parts = gather (part_bytes given lists) parts

-- 25, of the numbers given to the lines: one is too wide for its field, or is not 0 where its line is not there. (The items of the lists are looked at apart.)
abbrev pub not_zero : ℕ → Bool
not_zero n = not (eqb n 0)

abbrev pub part_too_wide : Given → Part → Bool
part_too_wide given (lines t) = not (fits t (values_by t given))
part_too_wide given (repeated name t) = false
part_too_wide given (when test t) = cond (test given) (not (fits t (values_by t given))) (any not_zero (values_by t given))

-- MEANING. The bytes of each item of a list, and of each part, in order.
pub data WritesEach (t : Table) : List Given → List ℕ → Type 0 where
  nothing : WritesEach t [] []
  one_then : {given : Given} {items : List Given} {l rest : List ℕ} → Written t (values_by t given) l → WritesEach t items rest
      → WritesEach t (given ∷ items) (l ++ rest)

pub data WritesParts (given : Given) (lists : Lists) : List Part → List ℕ → Type 0 where
  nothing : WritesParts given lists [] []
  lines_then : {t : Table} {parts : List Part} {l rest : List ℕ} → Written t (values_by t given) l → WritesParts given lists parts rest
      → WritesParts given lists (lines t ∷ parts) (l ++ rest)
  repeated_then : {name : String} {t : Table} {parts : List Part} {l rest : List ℕ} → WritesEach t (lists name) l → WritesParts given lists parts rest
      → WritesParts given lists (repeated name t ∷ parts) (l ++ rest)
  when_there : {test : Given → Bool} {t : Table} {parts : List Part} {l rest : List ℕ} → test given ≡ true → Written t (values_by t given) l
      → WritesParts given lists parts rest → WritesParts given lists (when test t ∷ parts) (l ++ rest)
  when_not : {test : Given → Bool} {t : Table} {parts : List Part} {l : List ℕ} → test given ≡ false → WritesParts given lists parts l
      → WritesParts given lists (when test t ∷ parts) l

-- Numbers and items that the parts can hold, each line that is there.
pub data EachFits (t : Table) : List Given → Type 0 where
  none : EachFits t []
  one_then : {given : Given} {items : List Given} → Fit t (values_by t given) → EachFits t items → EachFits t (given ∷ items)

pub data FitParts (given : Given) (lists : Lists) : List Part → Type 0 where
  none : FitParts given lists []
  lines_then : {t : Table} {parts : List Part} → Fit t (values_by t given) → FitParts given lists parts → FitParts given lists (lines t ∷ parts)
  repeated_then : {name : String} {t : Table} {parts : List Part} → EachFits t (lists name) → FitParts given lists parts
      → FitParts given lists (repeated name t ∷ parts)
  when_there : {test : Given → Bool} {t : Table} {parts : List Part} → test given ≡ true → Fit t (values_by t given) → FitParts given lists parts
      → FitParts given lists (when test t ∷ parts)
  when_not : {test : Given → Bool} {t : Table} {parts : List Part} → test given ≡ false → FitParts given lists parts
      → FitParts given lists (when test t ∷ parts)
