-- `remove` meets its contract: nothing is kept of the layer, and the closures of those that rested on it are put together again.
-- Assumes nothing.
use Prim.Native.Nat.{ℕ}
use mathlib.Core.Path.{refl, ap, ◌∙◌}
use lib.ListN.{set}
use Rattle.sets.specs.Sets.{without}
use Rattle.sets.proofs.Laws.{one_shifted}
use Rattle.kept_closures.specs.declared.Columns.{Columns}
use Rattle.kept_closures.specs.Kept.{stored_at, shrunk_above, columns_removed}
use Rattle.kept_closures.proofs.Columns.remove.Goals as goal

pub returns : goal.returns
unfolding columns_removed
returns c =
    let a = c.args in
    let pre = c.requires in
    let kept : Columns = a.self.now in
    let present = c.without-now_present.ensures ∙ ap (without a.present) (one_shifted 64 a.index pre) in record {
      answer = (present, refl);
      content = c.shrink_all.ensures
          ∙ ap (shrunk_above c.without-now_present.result a.index (set a.embedded.now a.index 0)) c.keep.ensures
          ∙ ap (λ (p : ℕ). shrunk_above p a.index (set a.embedded.now a.index 0) (stored_at p 0 a.index kept)) present;
    }
