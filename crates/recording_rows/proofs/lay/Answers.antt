-- `recording_rows::lay` meets its contract. The invariant: the rows of the packets so far stand in the columns. The measure is the number of packets left.
-- Assumes nothing.
use native.Mathlib.Omega.{arith}
use mathlib.Core.Path.{ap, ◌∙◌}
use mathlib.Core.List.{map}
use lib.ListN.{length, take}
use lib.Seq.{length-sets}
use Rattle.recording_rows.specs.Columns.{Beside, beside, index_in, decoding_in, match_in, tref_in}
use Rattle.recording_rows.specs.Again.{row_from}
use Rattle.recording_rows.proofs.Laying.{laying_start, laying_room, laying_turn, laying_end}
use Rattle.recording_rows.proofs.lay.Goals as goal

pub loop-i-init : goal.loop-i-init
loop-i-init c =
    let a = c.args in
    laying_start a.table.now a.bytes.now a.first a.starts.now a.place (beside a.indices.now a.decodings.now a.matches.now a.trefs.now)

pub row_from-row-requires : goal.row_from-row-requires
row_from-row-requires c = c.requires.1 c.loop-i.i (omega arith)

pub overflow_add-place : goal.overflow_add-place
overflow_add-place c = omega (arith, c.requires.0)

pub put_row-requires : goal.put_row-requires
put_row-requires c =
    let a = c.args in
    laying_room a.table.now a.bytes.now a.first a.starts.now a.place (beside a.indices.now a.decodings.now a.matches.now a.trefs.now)
    c.loop-i.invariant (omega arith) c.requires.0

pub loop-i-preserved : goal.loop-i-preserved
loop-i-preserved c =
    let a = c.args in
    laying_turn a.table.now a.bytes.now a.first a.starts.now a.place (beside a.indices.now a.decodings.now a.matches.now a.trefs.now)
    c.row_from-row.result c.loop-i.invariant (omega arith) c.row_from-row.ensures c.put_row.ensures

pub shape_of-indices : goal.shape_of-indices
shape_of-indices c =
    let a = c.args in
    ap (λ (x : Beside). length x.indices) c.loop-i.invariant.content
    ∙ length-sets a.indices.now a.place (map index_in (map (row_from a.table.now a.bytes.now a.first) (take c.loop-i.i a.starts.now)))

pub shape_of-decodings : goal.shape_of-decodings
shape_of-decodings c =
    let a = c.args in
    ap (λ (x : Beside). length x.decodings) c.loop-i.invariant.content
    ∙ length-sets a.decodings.now a.place (map decoding_in (map (row_from a.table.now a.bytes.now a.first) (take c.loop-i.i a.starts.now)))

pub shape_of-matches : goal.shape_of-matches
shape_of-matches c =
    let a = c.args in
    ap (λ (x : Beside). length x.matches) c.loop-i.invariant.content
    ∙ length-sets a.matches.now a.place (map match_in (map (row_from a.table.now a.bytes.now a.first) (take c.loop-i.i a.starts.now)))

pub shape_of-trefs : goal.shape_of-trefs
shape_of-trefs c =
    let a = c.args in
    ap (λ (x : Beside). length x.trefs) c.loop-i.invariant.content
    ∙ length-sets a.trefs.now a.place (map tref_in (map (row_from a.table.now a.bytes.now a.first) (take c.loop-i.i a.starts.now)))

pub returns : goal.returns
returns c =
    let a = c.args in
    laying_end a.table.now a.bytes.now a.first a.starts.now a.place (beside a.indices.now a.decodings.now a.matches.now a.trefs.now)
    c.loop-i.invariant (omega arith)
