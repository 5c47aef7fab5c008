-- THE ANSWER of joining: the units of all heads, or the refusal, 11 to 18, with its place; and what the three lists then hold.
-- Assumes nothing.
use Rattle.std.specs.Prelude.{ℕ, min, Bool, cond, ◌||◌, List, [], ◌∷◌, ltb, length, Ok, Err}
use Rattle.closure.specs.declared.Layers.{Layers}
use Rattle.closure.specs.Answer.{Closure}
use Rattle.closure.specs.Closures.{rested_on, closure_of}
use Rattle.combinators.specs.Below.{count}
use Rattle.combinators.specs.Each.{each_below}
use Rattle.sets.specs.Sets.{has}
use Rattle.vocabulary.specs.declared.refusal.Refusal.TheVariants.{Unpaired, UsedTwice, SpanTooWide, NoRoom}
use Rattle.rows.specs.Verdicts.{Verdict, verdict_of}
use Rattle.rows.specs.Table.{Table, rows_in}
use Rattle.assembling.specs.Assemblies.{edges_of}
use Rattle.claims.specs.Claims.{claimed}
use Rattle.spans.specs.Spans.{is_closure_row, wide_span}
use Rattle.heads.specs.Units.{Frame, frame, first_unpaired, first_shared, units_in}
use Rattle.join_answers.specs.Answer.{joined_units, Joined}
pub use Rattle.unit_lists.specs.Sequence.{Lists, lists, lists_over}

-- what a layer of the closure rests on, itself included
abbrev pub own_set : Layers → ℕ → ℕ → ℕ
own_set layers closure layer = cond (has closure layer) (rested_on layers layer) 0

-- what units are made over: which rows are claimed, what each layer rests on, and the edges of the closure
abbrev pub frame_of : Layers → ℕ → Table → Frame
frame_of layers closure t =
    frame closure (each_below (claimed layers closure t) (rows_in t)) (each_below (own_set layers closure) 64) (edges_of layers closure)

-- how many closure rows the table has: 'each output list, the sizes too, needs one place per closure row'
abbrev pub closure_rows : Table → ℕ → ℕ
closure_rows t closure = count (is_closure_row t closure) (rows_in t)

-- the room of the three lists
pub record Room : Type 0 where
  pub numbers : ℕ
  pub lags : ℕ
  pub sizes : ℕ

abbrev pub too_small : Room → ℕ → Bool
too_small room rows = ltb room.numbers rows || (ltb room.lags rows || ltb room.sizes rows)

-- 15 for all heads, then 16, then 18, and 17 last; else the units
abbrev pub units_joined : Table → Frame → Room → Joined
units_joined t f room =
    cond (ltb (first_unpaired t f) (rows_in t)) (Err (Unpaired (first_unpaired t f)))
    (cond (ltb (first_shared t f) (rows_in t)) (Err (UsedTwice (first_shared t f)))
    (cond (wide_span t f.closure) (Err SpanTooWide)
    (cond (too_small room (closure_rows t f.closure)) (Err NoRoom)
    (joined_units f.closure (units_in t f) (closure_rows t f.closure)))))

-- before these 13 and 14, the verdict on the table itself
abbrev pub joined_by : Joined → Verdict → Joined
joined_by units (Ok in_order) = units
joined_by units (Err refusal) = Err refusal

-- `most` is how many rows a table may have
abbrev pub table_joined : ℕ → Layers → Table → ℕ → Room → Joined
table_joined most layers t closure room = joined_by (units_joined t (frame_of layers closure t) room) (verdict_of most t closure)

-- and before all of them 11 and 12, of the target
abbrev pub joined_in : ℕ → Layers → Table → Room → Closure → Joined
joined_in most layers t room (Ok closure) = table_joined most layers t closure room
joined_in most layers t room (Err refusal) = Err refusal

abbrev pub joined_of : ℕ → Layers → ℕ → Table → Room → Joined
joined_of most layers target t room = joined_in most layers t room (closure_of layers target)

-- what room the three lists have
abbrev pub room_of : Lists → Room
room_of before = record { numbers = length before.numbers; lags = length before.lags; sizes = length before.sizes }

-- What the lists hold: the units, and after them what stood there; after a refusal all is as it was.
abbrev pub lists_after : Layers → Table → Joined → Lists → Lists
lists_after layers t (Ok joined) before = lists_over t (frame_of layers joined.closure t) before
lists_after layers t (Err refusal) before = before

-- How many rows a table may have where a caller lends the work space: as many as the shortest of its lists has places, and no more than can be told as a place.
abbrev pub longest_table : ℕ
longest_table = 281474976710656

abbrev pub most_long : List ℕ → ℕ
most_long [] = longest_table
most_long (places ∷ others) = min places (most_long others)
