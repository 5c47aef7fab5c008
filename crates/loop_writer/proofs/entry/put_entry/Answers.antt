-- `put_entry` meets its contract: the head, with the size of the descriptor in it, and the descriptor.
-- Assumes nothing.
use Rattle.buffers.proofs.Laws.{laid_then, laid_as}
use Prim.Native.Nat.{ℕ}
use mathlib.Core.Path.{◌∙◌, ap}
use mathlib.Core.List.{[], ◌∷◌}
use native.Mathlib.Omega.{arith}
use Rattle.syntax.specs.Table.{write_table}
use Rattle.loop_entries.specs.Entries.{entry_head}
use Rattle.loop_writer.proofs.Entries.{record_fit, pid_small}
use Rattle.loop_writer.proofs.entry.put_entry.Goals as goal

pub record_size-info_length-requires : goal.record_size-info_length-requires
record_size-info_length-requires c = record_fit c.args.entry c.requires

pub overflow_cast-info_length : goal.overflow_cast-info_length
overflow_cast-info_length c = omega (arith, c.record_size-info_length.ensures.1)

pub entry_head-head-requires : goal.entry_head-head-requires
entry_head-head-requires c = (pid_small c.args.entry c.requires, omega (arith, c.record_size-info_length.ensures.1))

pub put_record-requires : goal.put_record-requires
put_record-requires c = record_fit c.args.entry c.requires

pub returns : goal.returns
returns c =
    let e = c.args.entry in
    laid_then
    (laid_as
    (c.entry_head-head.ensures
    ∙ ap (λ (n : ℕ). write_table entry_head (e.stream_type ∷ e.pid ∷ n ∷ [])) c.record_size-info_length.ensures.0)
    c.put-next.ensures)
    c.put_record.ensures
