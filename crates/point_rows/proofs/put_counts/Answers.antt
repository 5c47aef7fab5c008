-- `put_counts` meets its contract.
-- Assumes nothing.
use Rattle.buffers.proofs.Laws.{laid_as}
use mathlib.Core.List.{[], ◌∷◌}
use Rattle.operation_points.specs.declared.Head.{Head}
use mathlib.Core.Path.{ap, ◌∙◌}
use Rattle.program_points.proofs.Tallying.{head_parts}
use Rattle.point_rows.proofs.put_counts.Goals as goal

pub head_at-head-requires : goal.head_at-head-requires
head_at-head-requires c = (head_parts c.args.program.now (λ i. (c.shared_slice_known-1.given i).fits) c.args.place c.requires.0).at_within

pub returns : goal.returns
returns c = laid_as (λ i. (c.from.ensures ∙ ap (λ (h : Head). h.num_ptl) c.head_at-head.ensures) i ∷ (c.from-2.ensures ∙ ap (λ (h : Head). h.operation_points_count) c.head_at-head.ensures) i ∷ []) c.put_numbers.ensures
