-- `import_under` meets its contract: what reading answered says which of the two cases it is, and an accepted loop's layers are those that
-- the rows are joined over.
-- Assumes nothing.
use Prim.Native.Nat.{ℕ}
use mathlib.Core.List.{List}
use mathlib.Core.Path.{refl, sym, ◌∙◌, ap}
use lib.ListN.{length}
use Rattle.closure.specs.declared.Layers.{Layers}
use Rattle.es_loop.specs.Answer.{Outcome}
use Rattle.loop_layers.specs.declared.layer_sets.LayersRead.{LayersRead}
use Rattle.rows.specs.Table.{Table, table}
use Rattle.unit_lists.specs.Sequence.{Lists, lists}
use Rattle.join_answers.specs.Joining.{room_of}
use Rattle.importing.specs.Importing.{import_for}
use Rattle.thoquenry_joins.specs.Joins.{with_summary, JoinReply, join_reply}
use Rattle.thoquenry_joins.proofs.Joined.{left_as}
use Rattle.thoquenry_joins.proofs.import_under.Goals as goal

-- what is left when the loop's reading came to an outcome, with its layers
abbrev leaves : Outcome → Layers → ℕ → Table → Lists → List ℕ → JoinReply
leaves outcome layers target t before summary =
    join_reply layers t (with_summary (length summary) (import_for outcome layers target t (room_of before))) before summary

pub returns-in-Ok : goal.returns-in-Ok
returns-in-Ok c =
    let a = c.args in
    let t = table a.indices.now a.decodings.now a.matches.now in
    let before = lists a.numbers.now a.lags.now a.sizes.now in
    let read = c.read_layers-read in
    let all_of_it = left_as
    (sym (ap (λ (o : Outcome). leaves o read.result.layers a.target t before a.summary.now) c.in-Ok.is)
    ∙ ap (λ (r : LayersRead). leaves r.outcome r.layers a.target t before a.summary.now) read.ensures)
    (c.join_over.ensures.answer, (c.join_over.ensures.content, c.join_over.ensures.summed)) in record {
      answer = all_of_it.0;
      content = all_of_it.1.0;
      summed = all_of_it.1.1;
    }

pub returns-in-Err : goal.returns-in-Err
returns-in-Err c =
    let a = c.args in
    let t = table a.indices.now a.decodings.now a.matches.now in
    let before = lists a.numbers.now a.lags.now a.sizes.now in
    let read = c.read_layers-read in
    let all_of_it = left_as
    (sym (ap (λ (o : Outcome). leaves o read.result.layers a.target t before a.summary.now) c.in-Err.is)
    ∙ ap (λ (r : LayersRead). leaves r.outcome r.layers a.target t before a.summary.now) read.ensures)
    (c.refused.ensures, (refl, refl)) in record {
      answer = all_of_it.0;
      content = all_of_it.1.0;
      summed = all_of_it.1.1;
    }
