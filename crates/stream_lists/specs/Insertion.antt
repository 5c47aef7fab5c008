-- Lists in which something is put immediately before a number, and the array that holds such a list.
-- Assumes nothing.
use Rattle.std.specs.Prelude.{ℕ, suc, ◌+◌, ◌-◌, cond, List, [], ◌∷◌, ◌++◌, eqb, length, take, drop}

-- The list with `new` immediately before the place of x. Where x does not stand in the list its place is the end, and there x is added.
abbrev pub placed : ℕ → List ℕ → List ℕ → List ℕ
placed x new [] = new ++ (x ∷ [])
placed x new (y ∷ list) = cond (eqb x y) (new ++ (y ∷ list)) (y ∷ placed x new list)

-- the place of x: the number of the list's members before it, which are all where x is none of them
abbrev pub place_of : ℕ → List ℕ → ℕ
place_of x [] = 0
place_of x (y ∷ list) = cond (eqb x y) 0 (suc (place_of x list))

-- An array that holds a list in its first `count` places, with `new` at a place of that list: what stood from there on moves back by as many places.
abbrev pub opened : List ℕ → ℕ → ℕ → List ℕ → List ℕ
opened array count place new = take place array ++ (new ++ (take (count - place) (drop place array) ++ drop (count + length new) array))
