-- `rows::judge` meets its contract: each return is a case of the definition (Verdicts), given what its calls answer.
-- Assumes nothing.
use Prim.Native.Nat.{ℕ, ◌≤◌}
use mathlib.Core.Path.{sym, ◌∙◌, subst}
use Rattle.rows.specs.Table.{table, rows_in}
use Rattle.rows.proofs.Verdicts.{shape_decoded, shape_matched, is_misshapen, is_outside, is_broken, is_in_order}
use Rattle.rows.proofs.judge.Goals as goal

pub returns-then-wrong_shape : goal.returns-then-wrong_shape
returns-then-wrong_shape c =
    let a = c.args in
    let t = table a.indices.now a.decodings.now a.matches.now in
    is_misshapen a.most t a.closure (sym c.wrong_shape.ensures ∙ c.if-wrong_shape.true)

pub first_out_of_range-outside-requires : goal.first_out_of_range-outside-requires
first_out_of_range-outside-requires c =
    let a = c.args in
    let t = table a.indices.now a.decodings.now a.matches.now in
    let shape = sym c.wrong_shape.ensures ∙ c.if-wrong_shape.false in
    (shape_decoded a.most t shape, shape_matched a.most t shape)

pub returns-then-outside-indices : goal.returns-then-outside-indices
returns-then-outside-indices c =
    let a = c.args in
    let t = table a.indices.now a.decodings.now a.matches.now in
    let shape = sym c.wrong_shape.ensures ∙ c.if-wrong_shape.false in
    is_outside a.most t a.closure shape _ c.first_out_of_range-outside.ensures c.if-outside-indices.true

pub first_broken-broken-requires : goal.first_broken-broken-requires
first_broken-broken-requires c =
    let a = c.args in
    let t = table a.indices.now a.decodings.now a.matches.now in
    shape_decoded a.most t (sym c.wrong_shape.ensures ∙ c.if-wrong_shape.false)

pub returns-then-broken-indices : goal.returns-then-broken-indices
returns-then-broken-indices c =
    let a = c.args in
    let t = table a.indices.now a.decodings.now a.matches.now in
    let shape = sym c.wrong_shape.ensures ∙ c.if-wrong_shape.false in
    let range = subst (λ (k : ℕ). rows_in t ≤ k) c.first_out_of_range-outside.ensures c.if-outside-indices.false in
    is_broken a.most t a.closure shape range _ c.first_broken-broken.ensures c.if-broken-indices.true

pub returns : goal.returns
returns c =
    let a = c.args in
    let t = table a.indices.now a.decodings.now a.matches.now in
    let shape = sym c.wrong_shape.ensures ∙ c.if-wrong_shape.false in
    let range = subst (λ (k : ℕ). rows_in t ≤ k) c.first_out_of_range-outside.ensures c.if-outside-indices.false in
    let order = subst (λ (k : ℕ). rows_in t ≤ k) c.first_broken-broken.ensures c.if-broken-indices.false in
    is_in_order a.most t a.closure shape range order
