-- THE WRITER'S OWN SHAPE of a payload: its fields fill it exactly, as reading parses it, with every reserved bit 1 and no ES_count reserved.
-- Assumes nothing.
use Rattle.std.specs.Prelude.{ℕ, suc, ◌≡◌, Bool, true, false, List, [], ◌∷◌, ◌++◌, length}
use Prim.Native.String.{String}
use Rattle.syntax.specs.Table.{Table, bytes, number, reserved_ones}
use Rattle.syntax.specs.Named.{Given, given_to, read_by}
use Rattle.operation_points.specs.Parts.{Part, lines, repeated, when}
use Rattle.operation_points.specs.Tables.{head_syntax, point_syntax}

-- the reserved bits of a table are 1
abbrev pub Ones : Table → List ℕ → Type 0
Ones t l = reserved_ones t (number (bytes t) l) ≡ true

-- so many items of a list
pub data OwnEach (t : Table) : ℕ → List ℕ → Type 0 where
  none : OwnEach t 0 []
  one_then : {n : ℕ} (l rest : List ℕ) → length l ≡ bytes t → Ones t l → OwnEach t n rest → OwnEach t (suc n) (l ++ rest)

-- the parts of a structure, as `Parses` has them
pub data OwnParts : List Part → Given → List ℕ → Given → Type 0 where
  nothing : {given : Given} → OwnParts [] given [] given
  lines_then : {t : Table} {parts : List Part} {given all : Given} (l rest : List ℕ) → length l ≡ bytes t → Ones t l → OwnParts parts (given ++ read_by t l) rest all
      → OwnParts (lines t ∷ parts) given (l ++ rest) all
  repeated_then : {name : String} {t : Table} {parts : List Part} {given all : Given} (l rest : List ℕ) → OwnEach t (given_to name given) l
      → OwnParts parts given rest all → OwnParts (repeated name t ∷ parts) given (l ++ rest) all
  when_there : {test : Given → Bool} {t : Table} {parts : List Part} {given all : Given} (l rest : List ℕ) → test given ≡ true → length l ≡ bytes t → Ones t l
      → OwnParts parts (given ++ read_by t l) rest all → OwnParts (when test t ∷ parts) given (l ++ rest) all
  when_not : {test : Given → Bool} {t : Table} {parts : List Part} {given all : Given} {l : List ℕ} → test given ≡ false → OwnParts parts given l all
      → OwnParts (when test t ∷ parts) given l all

pub data OwnPoints : ℕ → List ℕ → Type 0 where
  none : OwnPoints 0 []
  point_then : {count : ℕ} {given : Given} (point behind : List ℕ) → OwnParts point_syntax [] point given → (given_to "ES_count" given ≡ 255 → ⊥)
      → OwnPoints count behind → OwnPoints (suc count) (point ++ behind)

pub data OwnPayload : List ℕ → Type 0 where
  head_then : {given : Given} (head points : List ℕ) → OwnParts head_syntax [] head given → OwnPoints (given_to "operation_points_count" given) points
      → OwnPayload (head ++ points)
