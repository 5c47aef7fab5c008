-- `thq_set_add` meets its contract: the buffers are tested, and then the layer is added.
-- Assumes nothing.
use native.Mathlib.Omega.{arith}
use Prim.Native.Nat.{ℕ}
use mathlib.Core.Path.{sym, ap, ◌∙◌}
use Rattle.thoquenry_sets.specs.Calls.{set_reply}
use Rattle.thoquenry_sets.proofs.Replies.{held_long, held_narrow, stored_long, no_rows, tested, one_row, add_no_set, add_no_entry, add_wide, add_changed}
use Rattle.thoquenry_sets.proofs.thq_set_add.Goals as goal

pub returns-then-not-rows_hold : goal.returns-then-not-rows_hold
returns-then-not-rows_hold c =
    let a = c.args in
    ap (λ (n : ℕ). set_reply n a.layers.now a.stored.now) c.not_a_call.ensures
    ∙ add_no_set a.layers.now a.stored.now a.entry.now (no_rows a.layers.now a.stored.now (sym c.rows_hold.ensures ∙ c.if-not-rows_hold.true))

pub set_in-set-requires : goal.set_in-set-requires
set_in-set-requires c =
    let a = c.args in
    let held = sym c.rows_hold.ensures ∙ c.if-not-rows_hold.false in
    (held_long a.layers.now held, held_narrow a.layers.now held)

pub returns-then-not-stored_right : goal.returns-then-not-stored_right
returns-then-not-stored_right c =
    let a = c.args in
    ap (λ (n : ℕ). set_reply n a.layers.now a.stored.now) c.not_a_call-then-not-stored_right.ensures
    ∙ add_no_set a.layers.now a.stored.now a.entry.now (tested a.layers.now a.stored.now (sym c.rows_hold.ensures ∙ c.if-not-rows_hold.false) c.set_in-set.result c.set_in-set.ensures c.stored_right.result c.stored_right.ensures (c.if-not-stored_right.true))

pub returns-then-entry-ne-ENTRY_NUMBERS : goal.returns-then-entry-ne-ENTRY_NUMBERS
returns-then-entry-ne-ENTRY_NUMBERS c =
    let a = c.args in
    ap (λ (n : ℕ). set_reply n a.layers.now a.stored.now) c.not_a_call-then-entry-ne-ENTRY_NUMBERS.ensures
    ∙ add_no_entry a.layers.now a.stored.now a.entry.now (tested a.layers.now a.stored.now (sym c.rows_hold.ensures ∙ c.if-not-rows_hold.false) c.set_in-set.result c.set_in-set.ensures c.stored_right.result c.stored_right.ensures (c.if-not-stored_right.false)) c.if-entry-ne-ENTRY_NUMBERS.true

pub returns-then-some_too_wide : goal.returns-then-some_too_wide
returns-then-some_too_wide c =
    let a = c.args in
    ap (λ (n : ℕ). set_reply n a.layers.now a.stored.now) c.refused.ensures
    ∙ add_wide a.layers.now a.stored.now a.entry.now (tested a.layers.now a.stored.now (sym c.rows_hold.ensures ∙ c.if-not-rows_hold.false) c.set_in-set.result c.set_in-set.ensures c.stored_right.result c.stored_right.ensures (c.if-not-stored_right.false)) c.if-entry-ne-ENTRY_NUMBERS.false
    (sym c.some_too_wide.ensures ∙ c.if-some_too_wide.true)

pub entry_in-requires : goal.entry_in-requires
entry_in-requires c =
    let a = c.args in
    let long = c.if-entry-ne-ENTRY_NUMBERS.false in
    (omega arith, sym (one_row a.entry.now long) ∙ sym c.some_too_wide.ensures ∙ c.if-some_too_wide.false)

pub lay_changed-requires : goal.lay_changed-requires
lay_changed-requires c =
    let a = c.args in
    let held = sym c.rows_hold.ensures ∙ c.if-not-rows_hold.false in
    (held_long a.layers.now held, stored_long a.layers.now a.stored.now (tested a.layers.now a.stored.now (sym c.rows_hold.ensures ∙ c.if-not-rows_hold.false) c.set_in-set.result c.set_in-set.ensures c.stored_right.result c.stored_right.ensures (c.if-not-stored_right.false)))

pub returns : goal.returns
returns c =
    let a = c.args in
    c.lay_changed.ensures
    ∙ add_changed a.layers.now a.stored.now a.entry.now (tested a.layers.now a.stored.now (sym c.rows_hold.ensures ∙ c.if-not-rows_hold.false) c.set_in-set.result c.set_in-set.ensures c.stored_right.result c.stored_right.ensures (c.if-not-stored_right.false)) c.if-entry-ne-ENTRY_NUMBERS.false
    (sym c.some_too_wide.ensures ∙ c.if-some_too_wide.false)
    c.set_in-set.result c.entry_in.result c.add-changed.result c.set_in-set.ensures c.entry_in.ensures c.add-changed.ensures
