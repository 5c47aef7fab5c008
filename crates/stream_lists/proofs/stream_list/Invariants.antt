-- `stream_lists::stream_list` meets its contract (Building has the turns). Assumes nothing.
use Rattle.stream_lists.proofs.Building.{Building}
use Rattle.stream_lists.proofs.stream_list.Given as goal

abbrev pub invariant-loop-reference : goal.invariant-loop-reference
invariant-loop-reference l = Building l.layers l.references l.members l.count l.present l.reference-index
