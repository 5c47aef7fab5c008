-- `thq_set_remove` meets its contract: the buffers are tested, and then the layer is removed.
-- Assumes nothing.
use Prim.Native.Nat.{ℕ}
use mathlib.Core.Path.{sym, ap, ◌∙◌}
use Rattle.thoquenry_sets.specs.Calls.{set_reply}
use Rattle.thoquenry_sets.proofs.Replies.{held_long, held_narrow, stored_long, no_rows, tested, remove_no_set, remove_changed}
use Rattle.thoquenry_sets.proofs.thq_set_remove.Goals as goal

pub returns-then-not-rows_hold : goal.returns-then-not-rows_hold
returns-then-not-rows_hold c =
    let a = c.args in
    ap (λ (n : ℕ). set_reply n a.layers.now a.stored.now) c.not_a_call.ensures
    ∙ remove_no_set a.layers.now a.stored.now a.index (no_rows a.layers.now a.stored.now (sym c.rows_hold.ensures ∙ c.if-not-rows_hold.true))

pub set_in-set-requires : goal.set_in-set-requires
set_in-set-requires c =
    let a = c.args in
    let held = sym c.rows_hold.ensures ∙ c.if-not-rows_hold.false in
    (held_long a.layers.now held, held_narrow a.layers.now held)

pub returns-then-not-stored_right : goal.returns-then-not-stored_right
returns-then-not-stored_right c =
    let a = c.args in
    ap (λ (n : ℕ). set_reply n a.layers.now a.stored.now) c.not_a_call-then-not-stored_right.ensures
    ∙ remove_no_set a.layers.now a.stored.now a.index (tested a.layers.now a.stored.now (sym c.rows_hold.ensures ∙ c.if-not-rows_hold.false) c.set_in-set.result c.set_in-set.ensures c.stored_right.result c.stored_right.ensures (c.if-not-stored_right.true))

pub lay_changed-requires : goal.lay_changed-requires
lay_changed-requires c =
    let a = c.args in
    let held = sym c.rows_hold.ensures ∙ c.if-not-rows_hold.false in
    (held_long a.layers.now held, stored_long a.layers.now a.stored.now (tested a.layers.now a.stored.now (sym c.rows_hold.ensures ∙ c.if-not-rows_hold.false) c.set_in-set.result c.set_in-set.ensures c.stored_right.result c.stored_right.ensures (c.if-not-stored_right.false)))

pub returns : goal.returns
returns c =
    let a = c.args in
    c.lay_changed.ensures
    ∙ remove_changed a.layers.now a.stored.now a.index (tested a.layers.now a.stored.now (sym c.rows_hold.ensures ∙ c.if-not-rows_hold.false) c.set_in-set.result c.set_in-set.ensures c.stored_right.result c.stored_right.ensures (c.if-not-stored_right.false))
    c.set_in-set.result c.remove-changed.result c.set_in-set.ensures c.remove-changed.ensures
