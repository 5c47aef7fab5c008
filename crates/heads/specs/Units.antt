-- Units: one for each head, and what is judged of them together in table order: refusals 15 and 16.
-- Assumes nothing.
use Rattle.std.specs.Prelude.{ℕ, Bool, false, not, ◌&&◌, List, map, ℤ, get_or}
use Rattle.clock.specs.Clock.{lag_of}
use Rattle.combinators.specs.Below.{seek, count}
use Rattle.combinators.specs.Lists.{any, gather}
use Rattle.combinators.specs.Members.{member}
use Rattle.combinators.specs.Those.{those}
use Rattle.sets.specs.Sets.{has, members_of}
use Rattle.rows.specs.Table.{Table, rows_in, layer_of, decoding_of}
use Rattle.assembling.specs.Assemblies.{Assembly, assembled}

-- what units are made over: the layers of the closure as a set, a mark for each row that is claimed, for each layer of the closure the set of the layers that
-- it rests on, itself included, and the edges of the closure
pub record Frame : Type 0 where
  pub closure : ℕ
  pub claimed : List Bool
  pub own : List ℕ
  pub edges : List ℕ

abbrev pub frame : ℕ → List Bool → List ℕ → List ℕ → Frame
frame closure claimed own edges = record { closure = closure; claimed = claimed; own = own; edges = edges }

-- 'Every unclaimed closure row now heads a unit'
abbrev pub is_head : Table → Frame → ℕ → Bool
is_head t f k = has f.closure (layer_of t k) && not (get_or f.claimed k false)

-- 'its assembly over the closure of its own layer'
abbrev pub own_of : Table → Frame → ℕ → ℕ
own_of t f k = get_or f.own (layer_of t k) 0

abbrev pub assembly_of : Table → Frame → ℕ → Assembly
assembly_of t f k = assembled t f.edges (layer_of t k) k

-- a unit: 'each in rising layer index'
abbrev pub unit_from : List ℕ → List ℕ → List ℕ
unit_from members rows = map (λ layer. get_or rows layer 0) members

abbrev pub unit_of : Table → Frame → ℕ → List ℕ
unit_of t f k = unit_from (members_of (own_of t f k)) (assembly_of t f k).rows

-- 'The lag is against the head'
abbrev pub lags_from : Table → ℕ → List ℕ → List ℤ
lags_from t time unit = map (λ row. lag_of (decoding_of t row) time) unit

abbrev pub lags_of : Table → Frame → ℕ → List ℤ
lags_of t f k = lags_from t (decoding_of t k) (unit_of t f k)

-- the heads below k in table order, and the rows of their units
abbrev pub heads_below : Table → Frame → ℕ → List ℕ
heads_below t f k = those (is_head t f) k

abbrev pub rows_below : Table → Frame → ℕ → List ℕ
rows_below t f k = gather (unit_of t f) (heads_below t f k)

-- 15: a head has no assembly
abbrev pub unpaired : Table → Frame → ℕ → Bool
unpaired t f k = is_head t f k && not (assembly_of t f k).complete

-- 16: 'the earliest head in the table that shares a row with a head before it'
abbrev pub shares : Table → Frame → ℕ → Bool
shares t f k = is_head t f k && any (λ row. member row (rows_below t f k)) (unit_of t f k)

-- the first row of each kind, or the number of rows
abbrev pub first_unpaired : Table → Frame → ℕ
first_unpaired t f = seek (unpaired t f) (rows_in t)

abbrev pub first_shared : Table → Frame → ℕ
first_shared t f = seek (shares t f) (rows_in t)

-- the number of units
abbrev pub units_in : Table → Frame → ℕ
units_in t f = count (is_head t f) (rows_in t)
