-- `judge` meets its contract: the counts, the references, and what the rows come to.
-- Assumes nothing.
use mathlib.Core.Path.{sym, ◌∙◌, ap}
use lib.ListN.{length}
use Rattle.std.specs.Prelude.{Err}
use Rattle.std.proofs.lemmas.Result.{err_from_is_err_and}
use Rattle.vocabulary.specs.declared.refusal.Refusal.{Refusal}
use Rattle.point_weights.specs.Weighing.{decided_by}
use Rattle.point_weights.proofs.Weights.{counts_decide, references_decide, points_decide, whole_rows}
use native.Mathlib.Omega.{arith}
use Rattle.point_weights.proofs.judge.Goals as goal

pub returns-then-counts_wrong : goal.returns-then-counts_wrong
returns-then-counts_wrong c = counts_decide c.args.profiles c.args.points.now c.args.references.now c.args.layers (sym c.counts_wrong.ensures ∙ c.if-counts_wrong.true)

pub returns-then-some_reference_too_wide : goal.returns-then-some_reference_too_wide
returns-then-some_reference_too_wide c = references_decide c.args.profiles c.args.points.now c.args.references.now c.args.layers (sym c.counts_wrong.ensures ∙ c.if-counts_wrong.false) (sym c.some_reference_too_wide.ensures ∙ c.if-some_reference_too_wide.true)

pub weigh_points-requires : goal.weigh_points-requires
weigh_points-requires c = (whole_rows c.args.profiles c.args.points.now c.args.references.now c.args.layers (sym c.counts_wrong.ensures ∙ c.if-counts_wrong.false)).few_points

pub returns-in_err-weighed : goal.returns-in_err-weighed
returns-in_err-weighed c =
    let a = c.args in
    let p = err_from_is_err_and c.from_residual.result c.from_residual.ensures.1 in
    p.1
    ∙ ap (λ (refusal : Refusal). Err refusal) p.2
    ∙ ap (λ w. decided_by w a.profiles (length a.references.now) a.layers) (sym c.in_err-weighed.was ∙ c.weigh_points.ensures.0)
    ∙ points_decide a.profiles a.points.now a.references.now a.layers (sym c.counts_wrong.ensures ∙ c.if-counts_wrong.false) (sym c.some_reference_too_wide.ensures ∙ c.if-some_reference_too_wide.false)

pub decide-requires : goal.decide-requires
decide-requires c =
    let a = c.args in
    let few = whole_rows a.profiles a.points.now a.references.now a.layers (sym c.counts_wrong.ensures ∙ c.if-counts_wrong.false) in
    let small = rw c.in_ok-weighed.was at c.weigh_points.ensures.1 in
    (omega arith, small.0, small.1, small.2)

pub returns : goal.returns
returns c =
    let a = c.args in
    c.decide.ensures
    ∙ ap (λ w. decided_by w a.profiles (length a.references.now) a.layers) (sym c.in_ok-weighed.was ∙ c.weigh_points.ensures.0)
    ∙ points_decide a.profiles a.points.now a.references.now a.layers (sym c.counts_wrong.ensures ∙ c.if-counts_wrong.false) (sym c.some_reference_too_wide.ensures ∙ c.if-some_reference_too_wide.false)
