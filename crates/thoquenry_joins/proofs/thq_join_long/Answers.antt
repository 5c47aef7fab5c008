-- `thq_join_long` meets its contract: the rows joined over the layers that the caller gives, with work space of the caller's.
-- Assumes nothing.
use mathlib.Core.Path.{ap}
use lib.ListN.{length}
use Rattle.closure.specs.declared.Layers.{Layers}
use Rattle.rows.specs.Table.{table}
use Rattle.unit_lists.specs.Sequence.{lists}
use Rattle.join_answers.specs.Joining.{most_long}
use Rattle.join_answers.specs.Steps.{spaces}
use Rattle.thoquenry_joins.specs.Joins.{join_over}
use Rattle.thoquenry_joins.proofs.Joined.{left_as}
use Rattle.thoquenry_joins.proofs.thq_join_long.Goals as goal

pub returns : goal.returns
returns c =
    let a = c.args in
    let t = table a.indices.now a.decodings.now a.matches.now in
    let before = lists a.numbers.now a.lags.now a.sizes.now in
    let most = most_long (spaces (length a.order.now) (length a.keys.now) (length a.kept.now) (length a.places.now) (length a.heads.now) (length a.claimed.now) (length a.used.now)) in
    let all_of_it = left_as (ap (λ (l : Layers). join_over most l a.target t before a.summary.now) c.layers_given-layers.ensures) (c.join_long_over.ensures.answer, (c.join_long_over.ensures.content, c.join_long_over.ensures.summed)) in record {
      answer = all_of_it.0;
      content = all_of_it.1.0;
      summed = all_of_it.1.1;
    }
