-- Closure rows: one row of a layer has a decoding time, and a row is claimed or heads a unit.
-- Assumes nothing.
use Prim.Native.Nat.{ℕ, ◌<◌}
use mathlib.Core.Bool.{Bool, true, false, true≢false}
use mathlib.Core.Path.{◌≡◌, refl, sym, ◌∙◌, ap, ap₂, subst}
use mathlib.Core.Logic.{◌⊎◌, inl, inr}
use native.Mathlib.Decide.{dec_lt}
use native.Mathlib.Omega.{arith}
use Rattle.clock.specs.Clock.{distance_of}
use Rattle.closure.specs.declared.Layers.{Layers}
use Rattle.closure.specs.Meaning.{RestsOn, itself, by, WholeClosure}
use Rattle.rows.specs.Table.{Table, layer_of, decoding_of, match_of, first_row, ahead}
use Rattle.rows.specs.Meaning.{NoRow, BreaksOrder}
use Rattle.rows.proofs.Meant.{farther, unbroken}
use Rattle.claims.specs.Claims.{claimed}
use Rattle.claims.specs.Meaning.{Claimed, Head}
use Rattle.claims.proofs.Meant.{claimed_meant, claimed_only}
use Rattle.spans.specs.Meaning.{ClosureRow}
use Rattle.heads.specs.Meaning.{AssemblesOwn}

-- a head is a closure row
pub head_row : {layers : Layers} {target : ℕ} {t : Table} {k : ℕ} → Head layers target t k → ClosureRow layers target t k
head_row head = record { inside = head.inside; in_closure = head.closure_row }

-- what a layer of the closure rests on is in the closure
pub rests_through : {layers : Layers} {target layer lower : ℕ} → RestsOn layers target layer → RestsOn layers layer lower → RestsOn layers target lower
rests_through r itself = r
rests_through r (by s n) = by (rests_through r s) n

module _ (layers : Layers) (target closure : ℕ) (whole : WholeClosure layers target closure) (t : Table) where
  -- ---- 14: the rows of a closure layer lie farther and farther ahead, by less than half the clock, so that one row of it has a decoding time

  module _ (ordered : NoRow t (BreaksOrder layers target t)) where
    pub rises : (j k : ℕ) → j < k → ClosureRow layers target t k → layer_of t j ≡ layer_of t k → ahead t j < ahead t k
    rises j k h c same =
        farther t closure j k ((whole.members (layer_of t k)).1 c.in_closure) (unbroken layers target closure whole t ordered k c.inside) h same

    apart_in_time : (j k : ℕ) → j < k → ClosureRow layers target t k → layer_of t j ≡ layer_of t k → decoding_of t j ≡ decoding_of t k → ⊥
    apart_in_time j k h c same timed =
        let rise = rises j k h c same in
        let level : ahead t j ≡ ahead t k = ap₂ (λ (layer time : ℕ). distance_of (decoding_of t (first_row t layer)) time) same timed in
        omega arith

    pub one_row : (j k : ℕ) → ClosureRow layers target t j → ClosureRow layers target t k → layer_of t j ≡ layer_of t k
        → decoding_of t j ≡ decoding_of t k → j ≡ k
    one_row j k c d same timed = go (dec_lt j k) (dec_lt k j)
      where
        go : Dec (j < k) → Dec (k < j) → j ≡ k
        go (yes h) e = absurd (apart_in_time j k h d same timed)
        go (no h) (yes l) = absurd (apart_in_time k j l c (sym same) (sym timed))
        go (no h) (no l) = omega arith

    -- so that a closure row has one assembly at the most over the closure of its layer
    pub one_assembly : (head : ℕ) → ClosureRow layers target t head → (choice other : ℕ → ℕ) → AssemblesOwn layers t head choice
        → AssemblesOwn layers t head other → (layer : ℕ) → RestsOn layers (layer_of t head) layer → choice layer ≡ other layer
    one_assembly head c choice other a b layer itself = a.of_target ∙ sym b.of_target
    one_assembly head c choice other a b layer (by {i = upper} r n) =
        let above = one_assembly head c choice other a b upper r in
        one_row (choice layer) (other layer) (chosen choice a) (chosen other b)
        (a.of_layer layer (by r n) ∙ sym (b.of_layer layer (by r n)))
        (a.paired upper layer r n ∙ ap (match_of t) above ∙ sym (b.paired upper layer r n))
      where
        chosen : (f : ℕ → ℕ) → AssemblesOwn layers t head f → ClosureRow layers target t (f layer)
        chosen f x =
            record {
              inside = x.row layer (by r n);
              in_closure = subst (RestsOn layers target) (sym (x.of_layer layer (by r n))) (rests_through c.in_closure (by r n));
            }

  -- ---- a closure row is claimed, or heads a unit

  pub claimed_or_head : (k : ℕ) → ClosureRow layers target t k → Claimed layers target t k ⊎ Head layers target t k
  claimed_or_head k row = go (claimed layers closure t k) refl
    where
      go : (b : Bool) → claimed layers closure t k ≡ b → Claimed layers target t k ⊎ Head layers target t k
      go true e = inl (claimed_meant layers target closure whole t k e)
      go false e =
          inr
          record {
            inside = row.inside;
            closure_row = row.in_closure;
            unclaimed = λ c. true≢false (sym (claimed_only layers target closure whole t k c) ∙ e);
          }
