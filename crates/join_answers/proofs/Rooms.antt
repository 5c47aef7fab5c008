-- THE ROOM THAT IS ASKED FOR IS ENOUGH: where nothing is shared, the units have no more rows than the table has closure rows, and so no more lags, and there
-- are no more units either. (The rows of all units are exactly the closure rows: the crate `every_row` shows it.)
-- Assumes nothing.
use Prim.Native.Nat.{ℕ, ◌+◌, ◌≤◌}
use mathlib.Core.Bool.{true}
use mathlib.Core.List.{List, [], ◌∷◌}
use mathlib.Core.Path.{◌≡◌, refl, sym, ◌∙◌, ap₂, subst}
use lib.ListN.{length, length-append, length-map}
use Rattle.clock.specs.Clock.{lag_of}
use Rattle.closure.specs.declared.Layers.{Layers}
use Rattle.combinators.specs.Lists.{gather}
use Rattle.rows.specs.Table.{Table, rows_in, decoding_of}
use Rattle.claims.specs.Meaning.{Head}
use Rattle.heads.specs.Units.{Frame, assembly_of, unit_of, lags_of, first_unpaired, first_shared}
use Rattle.heads.specs.Orderly.{Orderly, Framed}
use Rattle.heads.proofs.Apart.{rows_few, heads_few}
use Rattle.heads.proofs.Meant.{head_only, complete_at, all_paired, none_shared_meant}
use Rattle.unit_lists.specs.Sequence.{heads_in_order, unit_rows, unit_lags, unit_sizes}
use Rattle.unit_lists.specs.Meaning.{HeadsInOrder}
use Rattle.unit_lists.proofs.Meant.{heads_in_order_lem}
use Rattle.join_answers.specs.Joining.{closure_rows}
use Rattle.join_answers.proofs.Contents.{heads_differ}

-- a lag beside each row
lags_long : (t : Table) (f : Frame) (heads : List ℕ) → length (gather (lags_of t f) heads) ≡ length (gather (unit_of t f) heads)
lags_long t f [] = refl
lags_long t f (head ∷ heads) =
    length-append (lags_of t f head) (gather (lags_of t f) heads)
    ∙ ap₂ (λ (a b : ℕ). a + b) (length-map (unit_of t f head) (λ row. lag_of (decoding_of t row) (decoding_of t head))) (lags_long t f heads)
    ∙ sym (length-append (unit_of t f head) (gather (unit_of t f) heads))

module _ (layers : Layers) (target closure : ℕ) (t : Table) (orderly : Orderly layers target closure t) (f : Frame) (framed : Framed layers closure t f) where
  -- every head has an assembly, where 15 is past
  pub each_complete : rows_in t ≤ first_unpaired t f → (k : ℕ) → Head layers target t k → (assembly_of t f k).complete ≡ true
  each_complete paired k head =
      complete_at layers target closure t orderly f framed k (head_only layers target closure t orderly f framed k head)
      (all_paired layers target closure t orderly f framed paired k head.inside)

  abbrev in_order : HeadsInOrder layers target t (heads_in_order t f)
  in_order = heads_in_order_lem layers target closure t orderly f framed

  pub rows_fit : rows_in t ≤ first_unpaired t f → rows_in t ≤ first_shared t f → length (unit_rows t f) ≤ closure_rows t closure
  rows_fit paired apart =
      rows_few layers target closure t orderly f framed (each_complete paired) (none_shared_meant layers target closure t orderly f framed paired apart)
      (heads_in_order t f) in_order.each (heads_differ layers target closure t orderly (heads_in_order t f) in_order)

  pub lags_fit : rows_in t ≤ first_unpaired t f → rows_in t ≤ first_shared t f → length (unit_lags t f) ≤ closure_rows t closure
  lags_fit paired apart = subst (λ (n : ℕ). n ≤ closure_rows t closure) (sym (lags_long t f (heads_in_order t f))) (rows_fit paired apart)

  pub sizes_fit : length (unit_sizes t f) ≤ closure_rows t closure
  sizes_fit =
      subst (λ (n : ℕ). n ≤ closure_rows t closure) (sym (length-map (heads_in_order t f) (λ head. length (unit_of t f head))))
      (heads_few layers target closure t orderly f framed (heads_in_order t f) in_order.each
      (heads_differ layers target closure t orderly (heads_in_order t f) in_order))
