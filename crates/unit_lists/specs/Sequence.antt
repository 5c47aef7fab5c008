-- THE ORDER OF UNITS, computed: 'Units come in order of the signed 33-bit distance of the head's decoding time from that of the first closure row in the table,
-- then by lower layer, then by row.' The heads by layer, those of a layer in table order, are put in the order of their keys; heads with one key stay as
-- they were given. And what the three lists then hold.
-- Assumes nothing.
use Rattle.std.specs.Prelude.{ℕ, ◌&&◌, true, List, map, eqb, ℤ, length}
use Rattle.buffers.specs.Buffers.{over}
use Rattle.combinators.specs.Lists.{gather}
use Rattle.combinators.specs.Those.{those}
use Rattle.ordering.specs.Ordering.{ordered_by}
use Rattle.spans.specs.Spans.{key_at}
use Rattle.rows.specs.Table.{Table, rows_in, layer_of}
use Rattle.heads.specs.Units.{Frame, is_head, unit_of, lags_of}

-- the heads of a layer in table order, and those of all 64 layers, layer after layer
abbrev pub heads_of_layer : Table → Frame → ℕ → List ℕ
heads_of_layer t f layer = those (λ k. is_head t f k && eqb (layer_of t k) layer) (rows_in t)

unfoldable pub heads_by_layer : Table → Frame → List ℕ
heads_by_layer t f = gather (heads_of_layer t f) (those (λ _. true) 64)

-- the heads in the order of their units
abbrev pub heads_in_order : Table → Frame → List ℕ
heads_in_order t f = ordered_by (key_at t f.closure) (heads_by_layer t f)

-- the rows of all units, a lag beside each, and the sizes: 'Each unit now reports its own size'
abbrev pub unit_rows : Table → Frame → List ℕ
unit_rows t f = gather (unit_of t f) (heads_in_order t f)

abbrev pub unit_lags : Table → Frame → List ℤ
unit_lags t f = gather (lags_of t f) (heads_in_order t f)

abbrev pub unit_sizes : Table → Frame → List ℕ
unit_sizes t f = map (λ head. length (unit_of t f head)) (heads_in_order t f)

-- The three lists: what stands in them.
pub record Lists : Type 0 where
  pub numbers : List ℕ
  pub lags : List ℤ
  pub sizes : List ℕ

abbrev pub lists : List ℕ → List ℤ → List ℕ → Lists
lists numbers lags sizes = record { numbers = numbers; lags = lags; sizes = sizes }

-- What the lists hold: the units, and after them what stood there.
abbrev pub lists_over : Table → Frame → Lists → Lists
lists_over t f before =
    lists (over (unit_rows t f) before.numbers) (over (unit_lags t f) before.lags) (over (unit_sizes t f) before.sizes)
