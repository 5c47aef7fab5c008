-- What the walk over the heads asks and answers.
-- Assumes nothing.
use Rattle.std.specs.Prelude.{ℕ, ◌+◌, ◌^◌, ◌≤◌, ◌<◌, Bool, true, false, List, [], ◌∷◌, ◌≡◌, length, get_or, set}
use Rattle.std.proofs.Math.Seq.{slice}
use Rattle.combinators.specs.Once.{Once, Small}
use Rattle.sets.specs.Sets.{has}
use Rattle.rows.specs.Table.{Table, rows_in}
use Rattle.heads.specs.declared.Judged.{Judged}
use Rattle.heads.specs.Units.{Frame, is_head, own_of, assembly_of, unit_of, first_unpaired, first_shared, units_in}

-- a row number for each member of a set, below a bound
pub record Placed (own : ℕ) (rows : List ℕ) (bound : ℕ) : Type 0 where
  pub small : own < 2 ^ 64
  pub row : (layer : ℕ) → has own layer ≡ true → get_or rows layer 0 < bound

-- a frame in which a complete assembly of a head has a row for each layer that the head's own rests on, for no other layer, and none twice
pub record Whole (t : Table) (f : Frame) : Type 0 where
  pub layers : length f.own ≡ 64
  pub small : (k : ℕ) → k < rows_in t → is_head t f k ≡ true → own_of t f k < 2 ^ 64
  pub row : (k layer : ℕ) → k < rows_in t → is_head t f k ≡ true → (assembly_of t f k).complete ≡ true → has (own_of t f k) layer ≡ true
      → get_or (assembly_of t f k).rows layer 0 < rows_in t
  pub no_other : (k layer : ℕ) → k < rows_in t → is_head t f k ≡ true → (assembly_of t f k).complete ≡ true → layer < 64
      → has (own_of t f k) layer ≡ false → get_or (assembly_of t f k).rows layer 0 ≡ rows_in t
  pub once : (k : ℕ) → k < rows_in t → is_head t f k ≡ true → (assembly_of t f k).complete ≡ true → Once (unit_of t f k)

-- marks set at the places of a list
abbrev pub marked : List ℕ → List Bool → List Bool
marked [] marks = marks
marked (row ∷ rows) marks = marked rows (set marks row true)

-- the rows of some layers taken out again, where `none` stands for no row
abbrev pub cleared : ℕ → List ℕ → List ℕ → List ℕ
cleared none [] rows = rows
cleared none (layer ∷ members) rows = cleared none members (set rows layer none)

-- the rows of each head's unit, kept from a place on that is noted for the head
pub record Kept (t : Table) (f : Frame) (kept places : List ℕ) : Type 0 where
  pub noted : rows_in t ≤ length places
  pub inside : (k : ℕ) → k < rows_in t → is_head t f k ≡ true → get_or places k 0 + length (unit_of t f k) ≤ length kept
  pub unit : (k : ℕ) → k < rows_in t → is_head t f k ≡ true
      → slice (get_or places k 0) (get_or places k 0 + length (unit_of t f k)) kept ≡ unit_of t f k
  pub rows : (k : ℕ) → k < rows_in t → is_head t f k ≡ true → Small (rows_in t) (unit_of t f k)

-- The answer: the first head with no assembly; where there is none, the first that shares a row with a head before it; and where there
-- is none of these either, the number of units, and their rows.
pub record Judges (t : Table) (f : Frame) (r : Judged) (kept places : List ℕ) : Type 0 where
  pub no_assembly : r.unpaired ≡ first_unpaired t f
  pub two_units : r.unpaired ≡ rows_in t → r.shared ≡ first_shared t f
  pub counted : r.unpaired ≡ rows_in t → r.shared ≡ rows_in t → r.units ≡ units_in t f
  pub units_kept : r.unpaired ≡ rows_in t → r.shared ≡ rows_in t → Kept t f kept places
