-- `thq_join` meets its contract: the rows joined over the layers that the caller gives.
-- Assumes nothing.
use mathlib.Core.Path.{ap}
use Rattle.closure.specs.declared.Layers.{Layers}
use Rattle.rows.specs.Table.{table, most_rows}
use Rattle.unit_lists.specs.Sequence.{lists}
use Rattle.thoquenry_joins.specs.Joins.{join_over}
use Rattle.thoquenry_joins.proofs.Joined.{left_as}
use Rattle.thoquenry_joins.proofs.thq_join.Goals as goal

pub returns : goal.returns
returns c =
    let a = c.args in
    let t = table a.indices.now a.decodings.now a.matches.now in
    let before = lists a.numbers.now a.lags.now a.sizes.now in
    let all_of_it = left_as (ap (λ (l : Layers). join_over most_rows l a.target t before a.summary.now) c.layers_given-layers.ensures) (c.join_over.ensures.answer, (c.join_over.ensures.content, c.join_over.ensures.summed)) in record {
      answer = all_of_it.0;
      content = all_of_it.1.0;
      summed = all_of_it.1.1;
    }
