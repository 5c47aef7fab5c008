-- `put_entries` meets its contract. The invariant: the entries passed are laid in, after the empty text at the start.
-- Assumes nothing.
use Rattle.buffers.proofs.Laws.{laid_as, laid_length, laid_then}
use mathlib.Core.List.{List}
use mathlib.Core.Path.{ap}
use native.Mathlib.Omega.{arith}
use lib.ListN.{take}
use lib.Seq.{take_all}
use Rattle.buffers.proofs.Pieces.{pieces_start, pieces_next}
use Rattle.combinators.specs.Lists.{any_false, gather, get_d_nth}
use Rattle.loop_entries.specs.declared.Entry.{Entry}
use Rattle.loop_writer.specs.Layout.{entry_bytes, too_wide}
use Rattle.loop_writer.proofs.passes.put_entries.Goals as goal

pub loop-entry-init : goal.loop-entry-init
loop-entry-init c = (omega arith, pieces_start (take c.args.count c.args.entries) entry_bytes c.put-place.ensures)

pub put_entry-place-requires : goal.put_entry-place-requires
put_entry-place-requires c =
    let items : List Entry = take c.args.count c.args.entries in
    any_false too_wide c.requires.1 (get_d_nth items c.loop-entry.entry-index _ (omega arith))

pub loop-entry-preserved : goal.loop-entry-preserved
loop-entry-preserved c =
    let items : List Entry = take c.args.count c.args.entries in
    let loop = c.loop-entry in
    (omega arith, pieces_next items entry_bytes loop.entry-index _ (omega arith) loop.invariant.1 c.put_entry-place.ensures)

pub returns : goal.returns
returns c =
    let items : List Entry = take c.args.count c.args.entries in
    let loop = c.loop-entry in
    laid_as (ap (gather entry_bytes) (take_all loop.entry-index items (omega arith))) (laid_then c.put-place.ensures loop.invariant.1)

pub shape_of-out : goal.shape_of-out
shape_of-out c = laid_length (returns c)
