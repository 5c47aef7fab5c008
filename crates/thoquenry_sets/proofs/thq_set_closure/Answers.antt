-- `thq_set_closure` meets its contract: the buffers are tested, and then the answer is laid in.
-- Assumes nothing.
use Prim.Native.Nat.{ℕ}
use mathlib.Core.Path.{sym, ap, ◌∙◌}
use Rattle.c_answers.specs.Answers.{reply}
use Rattle.thoquenry_sets.proofs.Replies.{held_long, held_narrow, no_rows, tested, closure_no_set, closure_found}
use Rattle.thoquenry_sets.proofs.thq_set_closure.Goals as goal

pub returns-then-not-rows_hold : goal.returns-then-not-rows_hold
returns-then-not-rows_hold c =
    let a = c.args in
    ap (λ (n : ℕ). reply n a.closure.now) c.not_a_call.ensures
    ∙ closure_no_set a.layers.now a.stored.now a.target a.closure.now (no_rows a.layers.now a.stored.now (sym c.rows_hold.ensures ∙ c.if-not-rows_hold.true))

pub set_in-set-requires : goal.set_in-set-requires
set_in-set-requires c =
    let a = c.args in
    let held = sym c.rows_hold.ensures ∙ c.if-not-rows_hold.false in
    (held_long a.layers.now held, held_narrow a.layers.now held)

pub returns-then-not-stored_right : goal.returns-then-not-stored_right
returns-then-not-stored_right c =
    let a = c.args in
    ap (λ (n : ℕ). reply n a.closure.now) c.not_a_call-then-not-stored_right.ensures
    ∙ closure_no_set a.layers.now a.stored.now a.target a.closure.now (tested a.layers.now a.stored.now (sym c.rows_hold.ensures ∙ c.if-not-rows_hold.false) c.set_in-set.result c.set_in-set.ensures c.stored_right.result c.stored_right.ensures (c.if-not-stored_right.true))

pub returns : goal.returns
returns c =
    let a = c.args in
    c.lay_closure.ensures
    ∙ closure_found a.layers.now a.stored.now a.target a.closure.now (tested a.layers.now a.stored.now (sym c.rows_hold.ensures ∙ c.if-not-rows_hold.false) c.set_in-set.result c.set_in-set.ensures c.stored_right.result c.stored_right.ensures (c.if-not-stored_right.false))
    c.set_in-set.result c.closure.result c.set_in-set.ensures c.closure.ensures
