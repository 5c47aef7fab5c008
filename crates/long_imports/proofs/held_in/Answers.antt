-- `long_imports::held_in` meets its contract: the least of four. Assumes nothing.
use Prim.Native.Nat.{ℕ, min}
use mathlib.Core.Path.{ap, ◌∙◌}
use Rattle.recording_imports.specs.Imports.{held_rows}
use Rattle.long_imports.proofs.held_in.Goals as goal

pub returns : goal.returns
returns c =
    let a = c.args in
    c.held_rows.ensures
    ∙ ap (λ (n : ℕ). held_rows n a.rows) (c.min-3.ensures ∙ ap (min a.most) (c.min-2.ensures ∙ ap (min a.indices) c.min.ensures))
