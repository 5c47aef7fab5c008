-- What is shown of units headed by unclaimed rows: proofs/Lib.antt names the laws.
-- Assumes nothing.
use Rattle.std.specs.Prelude.{ℕ, ◌+◌, ◌<◌, true, List, [], ◌∷◌, ◌⊎◌, ◌↔◌, ◌≡◌}
use Rattle.closure.specs.declared.Layers.{Layers}
use Rattle.combinators.specs.Ascending.{Ascending}
use Rattle.combinators.specs.Members.{member}
use Rattle.combinators.specs.Once.{Once}
use Rattle.rows.specs.Table.{Table, rows_in, layer_of}
use Rattle.rows.specs.Meaning.{NoRow, BreaksOrder}
use Rattle.claims.specs.Meaning.{Head}
use Rattle.spans.specs.Meaning.{ClosureRow, SpansTooFar}
use Rattle.heads.specs.Meaning.{AssemblesOwn, InUnitOf, SharesRow}
use Rattle.unit_lists.specs.Meaning.{ComesBefore, HeadsInOrder}

-- What 14, 15 and 16 leave: closure layers in time order, an assembly for every head, and no head that shares a row with a head before it.
pub record Judged (layers : Layers) (target : ℕ) (t : Table) : Type 0 where
  pub in_order : NoRow t (BreaksOrder layers target t)
  pub assembled : (k : ℕ) → Head layers target t k → (choice : ℕ → ℕ) × AssemblesOwn layers t k choice
  pub apart : NoRow t (SharesRow layers target t)

-- 'each closure row stands in exactly one unit': it stands in that of one head, and in that of no other
pub record InOneUnit (layers : Layers) (target : ℕ) (t : Table) (row : ℕ) : Type 0 where
  pub head : ℕ
  pub is_head : Head layers target t head
  pub in_unit : InUnitOf layers t head row
  pub in_no_other : (other : ℕ) → Head layers target t other → InUnitOf layers t other row → other ≡ head

-- the sum of the sizes
abbrev pub total : List ℕ → ℕ
total [] = 0
total (size ∷ sizes) = size + total sizes

-- The same of the lists that hold the units: no row number stands twice among them, and the numbers of the closure rows stand there, and no others.
pub record EachOnce (layers : Layers) (target : ℕ) (t : Table) (rows : List ℕ) : Type 0 where
  pub once : Once rows
  pub exactly : (row : ℕ) → (member row rows ≡ true) ↔ ClosureRow layers target t row

-- 'The order is a total one: no two units compare equal.' Of two heads one comes before the other, and not the other before it.
pub record TotalOrder (layers : Layers) (target : ℕ) (t : Table) : Type 0 where
  pub never_itself : (k : ℕ) → ComesBefore layers target t k k → ⊥
  pub through : (i j k : ℕ) → Head layers target t i → Head layers target t k → ComesBefore layers target t i j → ComesBefore layers target t j k
      → ComesBefore layers target t i k
  pub either_way : (j k : ℕ) → Head layers target t j → Head layers target t k → (j ≡ k → ⊥)
      → ComesBefore layers target t j k ⊎ ComesBefore layers target t k j

-- a row of the target
pub record TargetRow (target : ℕ) (t : Table) (k : ℕ) : Type 0 where
  pub inside : k < rows_in t
  pub of_target : layer_of t k ≡ target

-- 'Where every unclaimed row is a target row, the units come in target row order', as long as the rows do not span too far (18): the heads in the
-- order of their units are the target rows in the order of the table.
abbrev pub InTargetOrder : Layers → ℕ → Table → Type 0
InTargetOrder layers target t = (heads : List ℕ)
    → (SpansTooFar layers target t → ⊥)
    → ((k : ℕ) → Head layers target t k → layer_of t k ≡ target)
    → HeadsInOrder layers target t heads
    → Ascending (TargetRow target t) heads
