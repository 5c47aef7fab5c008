-- Claimed rows and heads, as W-204 of document 02 has them: 'A closure row is claimed if a row of a closure layer that embeds its layer has a
-- match time equal to its decoding time.' 'Every unclaimed closure row now heads a unit'. This file computes them; what they are, in these
-- words, is in Meaning.
-- Assumes nothing.
use Rattle.std.specs.Prelude.{ℕ, Bool, not, ◌&&◌, List, eqb, get_or}
use Rattle.closure.specs.declared.Layers.{Layers}
use Rattle.closure.specs.Closures.{named_by}
use Rattle.combinators.specs.Below.{some}
use Rattle.combinators.specs.Those.{those}
use Rattle.sets.specs.Sets.{has}
use Rattle.rows.specs.Table.{Table, rows_in, layer_of, decoding_of, match_of}

-- whether a layer of the closure embeds another: it names it, and only the closure's layers are asked
abbrev pub embeds : Layers → ℕ → ℕ → ℕ → Bool
embeds layers closure upper lower = has (named_by (has closure upper) (get_or layers.embedded upper 0) upper) lower

-- whether row j claims row k: 'a row of a closure layer that embeds its layer has a match time equal to its decoding time'
abbrev pub claimed_by : Layers → ℕ → Table → ℕ → ℕ → Bool
claimed_by layers closure t k j = embeds layers closure (layer_of t j) (layer_of t k) && eqb (decoding_of t k) (match_of t j)

abbrev pub claimed : Layers → ℕ → Table → ℕ → Bool
claimed layers closure t k = some (claimed_by layers closure t k) (rows_in t)

-- 'Every unclaimed closure row', and all of them in table order
abbrev pub is_head : Layers → ℕ → Table → ℕ → Bool
is_head layers closure t k = has closure (layer_of t k) && not (claimed layers closure t k)

abbrev pub heads_of : Layers → ℕ → Table → List ℕ
heads_of layers closure t = those (is_head layers closure t) (rows_in t)
