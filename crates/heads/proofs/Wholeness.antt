-- The frame of a closure over a table in order is whole.
-- Assumes nothing.
use Prim.Native.Nat.{ℕ, ◌^◌, ◌≤◌, ◌<◌}
use mathlib.Core.Bool.{◌&&◌}
use mathlib.Core.Path.{◌≡◌, sym, ◌∙◌, ap₂, subst}
use native.Mathlib.Nat.{le_refl}
use native.Mathlib.Omega.{arith}
use borrow.Author.Tests.{lt-ltb}
use lib.Dec.{ltb}
use Rattle.closure.specs.declared.Layers.{Layers}
use Rattle.closure.specs.Closures.{rested_on}
use Rattle.closure.proofs.Reached.{member_rests_on, rests_on_at_most}
use Rattle.combinators.specs.Bools.{both_right, same_test}
use Rattle.sets.specs.Sets.{has, below}
use Rattle.sets.proofs.Laws.{has_below, below_within, same_members}
use Rattle.rows.specs.Table.{Table, layer_of}
use Rattle.heads.specs.Units.{Frame}
use Rattle.heads.specs.Orderly.{Orderly, Framed}
use Rattle.heads.specs.Judging.{Whole}
use Rattle.heads.proofs.Meant.{head_meant, own_is, own_meant, assembly_meant, assembly_no_other}
use Rattle.heads.proofs.Apart.{unit_once}

-- what a layer rests on is a set of 64 indices
closure_small : (layers : Layers) (layer : ℕ) → layer < 64 → rested_on layers layer < 2 ^ 64
closure_small layers layer h =
    subst (λ (s : ℕ). s < 2 ^ 64) (same_members (below (rested_on layers layer) 64) (rested_on layers layer) each) (below_within 64 (rested_on layers layer) 64 (le_refl 64))
  where
    each : (j : ℕ) → has (below (rested_on layers layer) 64) j ≡ has (rested_on layers layer) j
    each j =
        has_below (rested_on layers layer) 64 j
        ∙ same_test (ltb j 64 && has (rested_on layers layer) j) (has (rested_on layers layer) j) (both_right (ltb j 64) (has (rested_on layers layer) j))
        (λ t. ap₂ ◌&&◌ (lt-ltb j 64 (let at_most : j ≤ layer = rests_on_at_most layers layer j (member_rests_on layers layer j t) in omega arith)) t)

pub frame_whole : (layers : Layers) (target closure : ℕ) (t : Table) → Orderly layers target closure t → (f : Frame) → Framed layers closure t f → Whole t f
frame_whole layers target closure t orderly f framed =
    record {
      layers = framed.sets_long;
      small = λ k h m.
          subst (λ (s : ℕ). s < 2 ^ 64) (sym (own_is layers target closure t orderly f framed k (head_meant layers target closure t orderly f framed k h m)))
          (closure_small layers (layer_of t k) (orderly.within k h));
      row = λ k layer h m e o.
          (let head = head_meant layers target closure t orderly f framed k h m in
          (assembly_meant layers target closure t orderly f framed k head e).row layer (own_meant layers target closure t orderly f framed k head layer o));
      no_other = λ k layer h m e l o.
          assembly_no_other layers target closure t orderly f framed k (head_meant layers target closure t orderly f framed k h m) layer l o;
      once = λ k h m e. unit_once layers target closure t orderly f framed k (head_meant layers target closure t orderly f framed k h m) e;
    }
