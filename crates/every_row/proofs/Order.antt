-- THE ORDER OF UNITS is a total one (`total_order`), and the heads of one layer come in row order: so where every head is a target row, the units come
-- in target row order (`target_order`).
-- Assumes nothing.
use Prim.Native.Nat.{ℕ, ◌<◌}
use mathlib.Core.Logic.{◌⊎◌, inl, inr}
use mathlib.Core.Path.{◌≡◌, sym, ◌∙◌, subst}
use native.Mathlib.Decide.{dec_lt}
use native.Mathlib.Omega.{arith}
use lib.ListN.{get_or}
use Rattle.closure.specs.declared.Layers.{Layers}
use Rattle.closure.specs.Meaning.{WholeClosure}
use Rattle.rows.specs.Table.{Table, layer_of}
use Rattle.rows.specs.Meaning.{NoRow, BreaksOrder}
use Rattle.claims.proofs.Meant.{target_heads}
use Rattle.spans.specs.Meaning.{ClosureRow, SpansTooFar}
use Rattle.unit_lists.specs.Meaning.{ComesBefore}
use Rattle.unit_lists.proofs.Order.{KeyBefore, lower_key, key_irreflexive, key_transitive, key_total, before_key, key_before, never_itself}
use Rattle.unit_lists.proofs.Rising.{row_order}
use Rattle.every_row.specs.Statements.{TotalOrder, InTargetOrder}
use Rattle.every_row.proofs.Claims.{head_row}

module _ (layers : Layers) (target closure : ℕ) (whole : WholeClosure layers target closure) (t : Table) where
  -- THE ORDER IS TOTAL
  pub total_order : TotalOrder layers target t
  total_order =
      record {
        never_itself = never_itself layers target closure whole t;
        through = λ i j k h l b c.
            key_before layers target closure whole t i k (head_row h) (head_row l) (key_transitive t closure i j k (before_key layers target closure whole t i j b) (before_key layers target closure whole t j k c));
        either_way = λ j k h l n. either j k (head_row h) (head_row l) (key_total t closure j k n);
      }
    where
      either : (j k : ℕ) → ClosureRow layers target t j → ClosureRow layers target t k → KeyBefore t closure j k ⊎ KeyBefore t closure k j
          → ComesBefore layers target t j k ⊎ ComesBefore layers target t k j
      either j k c d (inl b) = inl (key_before layers target closure whole t j k c d b)
      either j k c d (inr b) = inr (key_before layers target closure whole t k j d c b)

  -- ---- the heads of one layer come in row order, where 14 and 18 are past

  module _ (ordered : NoRow t (BreaksOrder layers target t)) (narrow : SpansTooFar layers target t → ⊥) where
    pub layer_order : (j k : ℕ) → ClosureRow layers target t j → ClosureRow layers target t k → layer_of t j ≡ layer_of t k
        → ComesBefore layers target t j k → j < k
    layer_order j k c d same b = go (dec_lt j k) (dec_lt k j)
      where
        go : Dec (j < k) → Dec (k < j) → j < k
        go (yes h) e = h
        go (no n) (yes l) =
            absurd (key_irreflexive t closure j (key_transitive t closure j k j (before_key layers target closure whole t j k b) (lower_key (row_order layers target closure whole t narrow ordered k j d c (sym same) l))))
        go (no n) (no m) =
            let one : k ≡ j = omega arith in
            absurd (key_irreflexive t closure j (subst (KeyBefore t closure j) one (before_key layers target closure whole t j k b)))

  -- WHERE EVERY HEAD IS A TARGET ROW, the heads in the order of their units are the target rows in table order
  pub target_order : NoRow t (BreaksOrder layers target t) → InTargetOrder layers target t
  target_order ordered heads narrow every o =
      record {
        each = λ i h. (let head = o.each i h in
            record { inside = head.inside; of_target = every (get_or heads i 0) head });
        all = λ k r. o.all k (target_heads layers target closure whole t k r.inside r.of_target);
        rising = λ i j h l.
            (let first = o.each i (omega arith) in
            let second = o.each j l in
            layer_order ordered narrow (get_or heads i 0) (get_or heads j 0) (head_row first) (head_row second)
            (every (get_or heads i 0) first ∙ sym (every (get_or heads j 0) second)) (o.in_order i j h l));
      }
