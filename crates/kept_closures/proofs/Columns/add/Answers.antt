-- `add` meets its contract: the new layer's closure is put together and kept, and comes to those that rest on it.
-- Assumes nothing.
use Prim.Native.Nat.{ℕ}
use mathlib.Core.Path.{refl, ap, ap₂, ◌∙◌}
use Rattle.kept_closures.specs.declared.Columns.{Columns}
use Rattle.kept_closures.specs.Kept.{stored_at, grown_above, columns_added}
use Rattle.kept_closures.proofs.Columns.add.Goals as goal

pub returns : goal.returns
unfolding columns_added
returns c =
    let a = c.args in
    let kept : Columns = a.self.now in
    let present = c.with-now_present.ensures in record {
      answer = (present, refl);
      content = c.grow_all.ensures
          ∙ ap (grown_above c.with-now_present.result c.closure_over-own.result a.index) c.keep.ensures
          ∙ ap₂ (λ (p o : ℕ). grown_above p o a.index (stored_at p o a.index kept)) present c.closure_over-own.ensures;
    }
