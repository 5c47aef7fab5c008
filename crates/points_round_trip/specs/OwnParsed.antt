-- What bytes of the writer's own shape carry, for every list of parts. That they are parsed, and are written of whatever gives their lines and lists this,
-- stands in proofs/OwnParsed.antt.
-- Assumes nothing.
use Prim.Native.Nat.{ℕ}
use Rattle.std.specs.Prelude.{◌≡◌, true, false, List, [], ◌∷◌}
use Rattle.syntax.specs.Table.{Table, read_table, fixed_hold}
use Rattle.syntax.specs.Named.{Given, values_by, read_by}
use Rattle.operation_points.specs.Parts.{Part, lines, repeated, when}
use Rattle.point_fields.specs.WrittenParts.{Lists}
use Rattle.points_round_trip.specs.OwnShape.{OwnEach, OwnParts}

-- ---- as written

-- the items of a list
abbrev pub items_of : {t : Table} {n : ℕ} {l : List ℕ} → OwnEach t n l → List Given
items_of OwnEach.none = []
items_of {t} (OwnEach.one_then l rest long ones each) = read_by t l ∷ items_of each

module _ (given : Given) (lists : Lists) where
  -- what is given is what the bytes carry
  abbrev pub Carried : {parts : List Part} {before all : Given} {l : List ℕ} → OwnParts parts before l all → Type 0
  Carried OwnParts.nothing = Unit {0}
  Carried (OwnParts.lines_then {t} l rest long ones p) = (read_table t l ≡ values_by t given) × Carried p
  Carried (OwnParts.repeated_then {name} l rest each p) = (items_of each ≡ lists name) × Carried p
  Carried (OwnParts.when_there {test} {t} l rest e long ones p) = (test given ≡ true) × (read_table t l ≡ values_by t given) × Carried p
  Carried (OwnParts.when_not {test} e p) = (test given ≡ false) × Carried p

-- tables without fixed bits, of which items are read by names that tell their values
abbrev pub Plain : List Part → Type 0
Plain [] = Unit {0}
Plain (lines t ∷ parts) = ((n : ℕ) → fixed_hold t n ≡ true) × Plain parts
Plain (repeated name t ∷ parts) = ((n : ℕ) → fixed_hold t n ≡ true) × ((l : List ℕ) → read_table t l ≡ values_by t (read_by t l)) × Plain parts
Plain (when test t ∷ parts) = ((n : ℕ) → fixed_hold t n ≡ true) × Plain parts
