-- `right_at` meets its contract: by whether the entry is a layer.
-- Assumes nothing.
use lib.Dec.{eqb}
use Rattle.layer_set_rows.specs.Buffers.{wrong_at}
use mathlib.Core.Bool.{Bool, not, cond, ◌&&◌}
use mathlib.Core.Path.{sym, ap, ◌∙◌}
use Rattle.layer_set_rows.proofs.testing.right_at.Goals as goal

pub returns-then-is_layer : goal.returns-then-is_layer
returns-then-is_layer c =
    let a = c.args in
    ap not c.wrong_at.ensures
    ∙ ap (λ (b : Bool). cond b (not (wrong_at a.index a.entry)) (eqb a.entry.stream_type 0 && eqb a.entry.pid 0)) (sym (sym c.is_layer.ensures ∙ c.if-is_layer.true))

pub returns : goal.returns
returns c =
    let a = c.args in
    ap (λ (b : Bool). cond b (not (wrong_at a.index a.entry)) (eqb a.entry.stream_type 0 && eqb a.entry.pid 0)) (sym (sym c.is_layer.ensures ∙ c.if-is_layer.false))
