-- What the code tests of a row, a layer of the closure and no mark, is whether the row is a head; and a head's layer is below 64.
-- Assumes nothing.
use Prim.Native.Nat.{ℕ, ◌^◌, ◌<◌}
use mathlib.Core.Bool.{Bool, true, false, not, ◌&&◌}
use mathlib.Core.Path.{◌≡◌, sym, ◌∙◌, ap, ap₂}
use lib.ListN.{get_or}
use Rattle.combinators.specs.Bools.{both_left}
use Rattle.sets.specs.Sets.{has}
use Rattle.sets.proofs.Laws.{has_within}
use Rattle.rows.specs.Table.{Table, layer_of}
use Rattle.heads.specs.Units.{Frame, is_head, assembly_of, unpaired}

module _ (t : Table) (f : Frame) (k : ℕ) where
  pub head_tested : (inside tested : Bool) → inside ≡ has f.closure (layer_of t k) → (inside && not (get_or f.claimed k false)) ≡ tested
      → is_head t f k ≡ tested
  head_tested inside tested e h = ap (λ (b : Bool). b && not (get_or f.claimed k false)) (sym e) ∙ h

  pub head_layer : f.closure < 2 ^ 64 → is_head t f k ≡ true → layer_of t k < 64
  head_layer small m = has_within 64 small (both_left (has f.closure (layer_of t k)) (not (get_or f.claimed k false)) m)

  -- 15 of a row: it is a head, and has no assembly
  pub is_unpaired : is_head t f k ≡ true → (complete : Bool) → (assembly_of t f k).complete ≡ complete → unpaired t f k ≡ not complete
  is_unpaired m complete e = ap₂ (λ (a b : Bool). a && not b) m e

  pub no_head : is_head t f k ≡ false → unpaired t f k ≡ false
  no_head m = ap (λ (b : Bool). b && not (assembly_of t f k).complete) m
