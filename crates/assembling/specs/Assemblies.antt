-- Assemblies: 'An assembly of a target row chooses one row for each closure layer, that row for the target, such that for each layer and
-- each of its embedded layers the decoding time of the lower row equals the match time of the upper row.' This file finds it; what it is,
-- in these words, is in Meaning of the crate `joining`.
-- Assumes nothing.
use Rattle.std.specs.Prelude.{ℕ, ◌-◌, ◌/◌, ◌%◌, ◌≤◌, ◌<◌, Bool, true, false, cond, ◌&&◌, List, [], ◌∷◌, ◌≡◌, eqb, ltb, get_or, set, replicate}
use Rattle.closure.specs.declared.Layers.{Layers}
use Rattle.combinators.specs.Those.{those}
use Rattle.sets.specs.Sets.{has}
use Rattle.rows.specs.Table.{Table, rows_in, decoding_of, match_of}
use Rattle.row_index.specs.Index.{row_at}

-- An edge, 'each layer and each of its embedded layers', is held as one number: the pairs of indices in this order have the highest
-- upper layer first.
abbrev pub upper_of : ℕ → ℕ
upper_of edge = 63 - edge / 64 % 64

abbrev pub lower_of : ℕ → ℕ
lower_of edge = edge % 64

-- whether an upper layer of the closure names a lower one, given the set of its embedded layers
abbrev pub joins : ℕ → ℕ → ℕ → ℕ → Bool
joins closure embedded upper lower = has closure upper && (ltb lower upper && has embedded lower)

abbrev pub is_edge : Layers → ℕ → ℕ → Bool
is_edge layers closure edge = joins closure (get_or layers.embedded (upper_of edge) 0) (upper_of edge) (lower_of edge)

-- the edges of a closure
unfoldable pub edges_of : Layers → ℕ → List ℕ
edges_of layers closure = those (is_edge layers closure) 4096

-- how many that are at the most: one for each two of 64 layers
abbrev pub most_edges : ℕ
most_edges = 2016

-- the pair to be looked at after one, given what its upper layer embeds: those in between have the same upper layer, and none is an edge
pub record Next (closure embedded edge next : ℕ) : Type 0 where
  pub after : edge < next
  pub within : next ≤ 4096
  pub same_upper : (k : ℕ) → edge < k → k < next → upper_of k ≡ upper_of edge
  pub no_edge : (k : ℕ) → edge < k → k < next → joins closure embedded (upper_of edge) (lower_of k) ≡ false

-- The row for the lower layer of an edge, given the time that the upper row asks for: where the layer has its row already, by another
-- edge, that row must meet this edge too. The number of rows stands for no row.
abbrev pub paired_row : Table → ℕ → ℕ → ℕ → ℕ
paired_row t row layer time =
    cond (ltb row (rows_in t)) (cond (eqb (decoding_of t row) time) row (rows_in t)) (row_at t layer time)

abbrev pub partner : Table → List ℕ → ℕ → ℕ
partner t rows edge = paired_row t (get_or rows (lower_of edge) 0) (lower_of edge) (match_of t (get_or rows (upper_of edge) 0))

-- the rows chosen, one for each layer index, the number of rows standing for none; and whether each edge was met
pub record Assembly : Type 0 where
  pub complete : Bool
  pub rows : List ℕ

-- Edge after edge, each lower layer is given its row; the first edge that finds none ends it. An edge whose upper layer has no row is passed over: the
-- edges of the highest layers come first, so that this layer is none that the head's own rests on. The edges of a closure thus serve the heads of all
-- its layers (`own_closure` of proofs/Own.antt).
abbrev pub assembled_from : Table → List ℕ → List ℕ → Assembly
assembled_from t [] rows = record { complete = true; rows = rows }
assembled_from t (edge ∷ edges) rows =
    cond (ltb (get_or rows (upper_of edge) 0) (rows_in t))
    (cond (ltb (partner t rows edge) (rows_in t))
    (assembled_from t edges (set rows (lower_of edge) (partner t rows edge)))
    (record { complete = false; rows = rows }))
    (assembled_from t edges rows)

-- no layer has a row, where `none` stands for no row
abbrev pub no_rows : ℕ → List ℕ
no_rows none = replicate 64 none

-- at the start the head's layer alone has one
abbrev pub assembled : Table → List ℕ → ℕ → ℕ → Assembly
assembled t edges top head = assembled_from t edges (set (no_rows (rows_in t)) top head)
