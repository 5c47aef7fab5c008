-- A table at unknown bytes or unknown values: how a law on its lists comes down to equations of numbers, which one `omega` proves.
-- Assumes nothing.
use Prim.Native.Nat.{ℕ, ◌/◌, ◌%◌, ◌^◌, ◌<◌}
use mathlib.Core.Path.{◌≡◌, refl, ap, ap₂, ◌∙◌}
use mathlib.Core.Bool.{Bool, true, ◌&&◌, and-true, and_assoc}
use mathlib.Core.List.{List, [], ◌∷◌}
use lib.Dec.{eqb}
use Rattle.syntax.specs.Table.{value, reserved, fixed, Table, bits, fixed_hold, Fit, none, at_value, at_reserved, at_fixed}

-- two lists, element by element: at lists that are written out this is one equation for each place
abbrev pub Each : List ℕ → List ℕ → Type 0
Each [] [] = Unit {0}
Each [] (y ∷ ys) = ⊥
Each (x ∷ xs) [] = ⊥
Each (x ∷ xs) (y ∷ ys) = (x ≡ y) × Each xs ys

pub each : {xs ys : List ℕ} → Each xs ys → xs ≡ ys
each {xs = []} {ys = []} e = refl
each {xs = []} {ys = y ∷ ys} e = absurd e
each {xs = x ∷ xs} {ys = []} e = absurd e
each {xs = x ∷ xs} {ys = y ∷ ys} e = ap₂ (λ (z : ℕ) (zs : List ℕ). z ∷ zs) e.0 (each e.1)

-- the numbers that stand in the fixed fields of a table, in its order
abbrev pub fixed_of : Table → ℕ → List ℕ
fixed_of [] n = []
fixed_of (value w name ∷ t) n = fixed_of t n
fixed_of (reserved w ∷ t) n = fixed_of t n
fixed_of (fixed w b ∷ t) n = (n / 2 ^ bits t % 2 ^ w) ∷ fixed_of t n

-- these numbers against what the table prints, as code tests them: the first, and the second, and so on
abbrev pub tests_after : Bool → Table → List ℕ → Bool
tests_after before [] fs = before
tests_after before (value w name ∷ t) fs = tests_after before t fs
tests_after before (reserved w ∷ t) fs = tests_after before t fs
tests_after before (fixed w b ∷ t) [] = before
tests_after before (fixed w b ∷ t) (f ∷ fs) = tests_after (before && eqb f b) t fs

abbrev pub tests : Table → List ℕ → Bool
tests t fs = tests_after true t fs

fixed_after : (before : Bool) (t : Table) (n : ℕ) → (before && fixed_hold t n) ≡ tests_after before t (fixed_of t n)
fixed_after before [] n = and-true before
fixed_after before (value w name ∷ t) n = fixed_after before t n
fixed_after before (reserved w ∷ t) n = fixed_after before t n
fixed_after before (fixed w b ∷ t) n = rw (← and_assoc) (fixed_after (before && eqb (n / 2 ^ bits t % 2 ^ w) b) t n)

pub fixed_at : (t : Table) (n : ℕ) (fs : List ℕ) → Each (fixed_of t n) fs → fixed_hold t n ≡ tests t fs
fixed_at t n fs e = fixed_after true t n ∙ ap (tests t) (each e)

-- values that fit a table, value by value: at a list that is written out this is one bound for each
abbrev pub Bounds : Table → List ℕ → Type 0
Bounds [] vs = Unit {0}
Bounds (value w name ∷ t) [] = ⊥
Bounds (value w name ∷ t) (v ∷ vs) = (v < 2 ^ w) × Bounds t vs
Bounds (reserved w ∷ t) vs = Bounds t vs
Bounds (fixed w b ∷ t) vs = Bounds t vs

pub bounds : {t : Table} {vs : List ℕ} → Fit t vs → Bounds t vs
bounds none = tt
bounds (at_value h fit) = (h, bounds fit)
bounds (at_reserved fit) = bounds fit
bounds (at_fixed fit) = bounds fit
