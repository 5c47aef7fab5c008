-- VALUES BY NAME. Two lists side by side, of names and of values: what stands under a name, and the values under some names in another order.
-- So a list of names says where each value stands, and serves whoever lays values there and whoever takes them from there.
-- Assumes nothing.
use Rattle.std.specs.Prelude.{ℕ, suc, cond, List, [], ◌∷◌, map, get_or}
use Prim.Native.String.{String, compare}
use Rattle.std.proofs.Math.Dec.{compare_is_eq}
use Rattle.syntax.specs.Table.{Table, value, reserved, fixed}

-- the names of a syntax table's values, in its order
abbrev pub names_of : Table → List String
names_of [] = []
names_of (value w name ∷ t) = name ∷ names_of t
names_of (reserved w ∷ t) = names_of t
names_of (fixed w bits ∷ t) = names_of t

-- the value beside the first name that is this one, counted from place i on; 0 where no name is
abbrev pub value_from : ℕ → String → List String → List ℕ → ℕ
value_from i name [] values = 0
value_from i name (first ∷ names) values = cond (compare_is_eq (compare name first)) (get_or values i 0) (value_from (suc i) name names values)

abbrev pub value_named : String → List String → List ℕ → ℕ
value_named name names values = value_from 0 name names values

-- the values under the wanted names, in their order
abbrev pub picked : List String → List String → List ℕ → List ℕ
picked wanted names values = map (λ name. value_named name names values) wanted
