-- `writer::write_points` meets its contract: by what the verdict is, and by whether there is room.
-- Assumes nothing.
use mathlib.Core.Path.{sym, ap, ◌∙◌}
use Rattle.std.specs.Prelude.{Err}
use Rattle.std.proofs.lemmas.Result.{err_from_is_err_and}
use Rattle.vocabulary.specs.declared.refusal.Refusal.{Refusal}
use Rattle.point_writer.proofs.Judged.{accepted, refused, no_room, written}
use native.Mathlib.Omega.{arith}
use Rattle.point_writer.proofs.writer.write_points.Goals as goal

pub returns-then-out-size : goal.returns-then-out-size
returns-then-out-size c = let a = no_room c.args.profiles.now c.args.points.now c.args.references.now c.args.layers.now c.args.out.now c.in_ok-size.size (sym c.judge.ensures ∙ c.in_ok-size.was) c.if-out-size.true in (a.answers, a.holds)

pub overflow_sub-size : goal.overflow_sub-size
overflow_sub-size c = let k = accepted c.args.profiles.now c.args.points.now c.args.references.now c.args.layers.now c.in_ok-size.size (sym c.judge.ensures ∙ c.in_ok-size.was) in omega (arith, k.sized)

pub put_before_points-place-requires : goal.put_before_points-place-requires
put_before_points-place-requires c = let k = accepted c.args.profiles.now c.args.points.now c.args.references.now c.args.layers.now c.in_ok-size.size (sym c.judge.ensures ∙ c.in_ok-size.was) in let w = k.sound.whole in (w.profiles_whole, w.few_profiles, w.few_points, omega (arith, k.sized, k.short))

pub put_points-requires : goal.put_points-requires
put_points-requires c = let k = accepted c.args.profiles.now c.args.points.now c.args.references.now c.args.layers.now c.in_ok-size.size (sym c.judge.ensures ∙ c.in_ok-size.was) in let s = k.sound in record {
  points_value = (s.rows_fine, s.references_fine);
  points_value_2 = (s.references_counted, s.layers_counted);
}

pub returns-in_err-size : goal.returns-in_err-size
returns-in_err-size c =
    let a = refused c.args.profiles.now c.args.points.now c.args.references.now c.args.layers.now c.args.out.now c.in_err-size.field-0.0 (sym c.judge.ensures ∙ c.in_err-size.was) in
    let p = err_from_is_err_and c.from_residual.result c.from_residual.ensures.1 in
    (p.1 ∙ ap (λ (refusal : Refusal). Err refusal) p.2 ∙ a.answers, a.holds)

pub returns : goal.returns
returns c = let a = written c.args.profiles.now c.args.points.now c.args.references.now c.args.layers.now c.args.out.now c.in_ok-size.size _ _ _ _ (sym c.judge.ensures ∙ c.in_ok-size.was) c.if-out-size.false c.put_before_points-place.ensures c.put_points.ensures in (a.answers, a.holds)
