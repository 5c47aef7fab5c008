-- `long_imports::join_held` meets its contract: as many rows as are there are joined, and else the refusal is told. Assumes nothing.
use Rattle.std.specs.Prelude.{Err}
use Prim.Native.Nat.{ℕ}
use borrow.Author.Rules.{rules}
use mathlib.Core.Path.{◌≡◌, sym, ap, ◌∙◌}
use lib.ListN.{length}
use lib.Seq.{length-take-le}
use Rattle.rows.specs.Table.{table}
use Rattle.unit_lists.specs.Sequence.{lists}
use Rattle.join_answers.specs.Joining.{room_of, most_long}
use Rattle.join_answers.specs.Steps.{spaces}
use Rattle.recording_imports.specs.Answer.{Imported}
use Rattle.recording_imports.specs.Imports.{rows_held, lists_held}
use Rattle.long_imports.proofs.Held.{in_columns, by_held, rows_joined}
use Rattle.long_imports.proofs.join_held.Goals as goal

pub slice_bounds-join_long-end : goal.slice_bounds-join_long-end
slice_bounds-join_long-end c =
    let a = c.args in
    sym (length-take-le _ _ (in_columns c.most_long-most.result (length a.indices.now) (length a.decodings.now) (length a.matches.now) a.rows c.in_ok-count.count c.held_in-held.ensures c.in_ok-count.was).0)

pub slice_bounds-join_long-end-2 : goal.slice_bounds-join_long-end-2
slice_bounds-join_long-end-2 c =
    let a = c.args in
    sym (length-take-le _ _ (in_columns c.most_long-most.result (length a.indices.now) (length a.decodings.now) (length a.matches.now) a.rows c.in_ok-count.count c.held_in-held.ensures c.in_ok-count.was).1.0)

pub slice_bounds-join_long-end-3 : goal.slice_bounds-join_long-end-3
slice_bounds-join_long-end-3 c =
    let a = c.args in
    sym (length-take-le _ _ (in_columns c.most_long-most.result (length a.indices.now) (length a.decodings.now) (length a.matches.now) a.rows c.in_ok-count.count c.held_in-held.ensures c.in_ok-count.was).1.1)

pub returns : goal.returns
returns c =
    let a = c.args in
    let t = table a.indices.now a.decodings.now a.matches.now in
    let before = lists a.numbers.now a.lags.now a.sizes.now in
    let most = most_long (spaces (length a.order.now) (length a.keys.now) (length a.kept.now) (length a.places.now) (length a.heads.now) (length a.claimed.now) (length a.used.now)) in
    let all_of_it = rows_joined most a.layers a.target t (room_of before) before a.rows c.in_ok-count.count
    (c.held_in-held.ensures ∙ ap (λ (n : ℕ). rows_held n t a.rows) c.most_long-most.ensures)
    c.in_ok-count.was c.join_long.ensures.answer c.imported_of.ensures c.join_long.ensures.content in record {
      answer = all_of_it.0;
      content = all_of_it.1;
    }

pub returns-in_err-count : goal.returns-in_err-count
returns-in_err-count c =
    let a = c.args in
    let t = table a.indices.now a.decodings.now a.matches.now in
    let before = lists a.numbers.now a.lags.now a.sizes.now in
    let most = most_long (spaces (length a.order.now) (length a.keys.now) (length a.kept.now) (length a.places.now) (length a.heads.now) (length a.claimed.now) (length a.used.now)) in
    let unread = c.in_err-count.field-0.0 in
    let given : ◌≡◌ {A = Imported} c.from_residual.result (Err unread) = search rules in
    let all_of_it = by_held most a.layers a.target t (room_of before) before a.rows (Err unread)
    (sym c.in_err-count.was ∙ c.held_in-held.ensures ∙ ap (λ (n : ℕ). rows_held n t a.rows) c.most_long-most.ensures)
    given (sym (ap (λ (r : Imported). lists_held a.layers t (Err unread) r before) given)) in record {
      answer = all_of_it.0;
      content = all_of_it.1;
    }
