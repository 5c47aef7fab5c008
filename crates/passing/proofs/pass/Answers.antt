-- `passing::pass` meets its contract: what was noted is what is laid, as far as there is room. Assumes nothing.
use native.Mathlib.Omega.{arith}
use mathlib.Core.Path.{sym}
use lib.Seq.{length-take-le}
use Rattle.recording_rows.specs.Columns.{columns}
use Rattle.passing.proofs.Passes.{held_within, room_each, ends_long, in_order, to_old, part_inside, part_room, passed_all}
use Rattle.passing.proofs.pass.Goals as goal

pub slice_bounds-walk-end-2 : goal.slice_bounds-walk-end-2
slice_bounds-walk-end-2 c =
    let a = c.args in
    let old = columns a.indices.now a.decodings.now a.matches.now a.trefs.now a.numbers.now in
    sym (length-take-le a.room a.numbers.now (room_each a.room old c.requires.3))

pub walk-after-requires : goal.walk-after-requires
walk-after-requires c = (c.requires.0, c.requires.1, c.requires.2, held_within c.requires.4 c.args.bytes.now)

pub offset_bounds-numbers-from : goal.offset_bounds-numbers-from
offset_bounds-numbers-from c =
    let a = c.args in
    let old = columns a.indices.now a.decodings.now a.matches.now a.trefs.now a.numbers.now in
    let place = to_old a.table.now a.bytes.now a.first a.found a.room a.kept.now a.ends.now old c.requires.4 c.requires.3 c.walk-after.ensures c.min-from.ensures c.min-to.ensures in
    let order = in_order a.table.now a.bytes.now a.first a.found a.room a.kept.now a.ends.now old c.requires.4 c.requires.3 c.walk-after.ensures c.min-from.ensures c.min-to.ensures in
    omega (arith, place, order, c.well_formed)

pub slice_bounds-lay-count : goal.slice_bounds-lay-count
slice_bounds-lay-count c =
    let a = c.args in
    let old = columns a.indices.now a.decodings.now a.matches.now a.trefs.now a.numbers.now in
    in_order a.table.now a.bytes.now a.first a.found a.room a.kept.now a.ends.now old c.requires.4 c.requires.3 c.walk-after.ensures c.min-from.ensures c.min-to.ensures

pub slice_bounds-lay-start : goal.slice_bounds-lay-start
slice_bounds-lay-start c =
    let a = c.args in
    let old = columns a.indices.now a.decodings.now a.matches.now a.trefs.now a.numbers.now in
    in_order a.table.now a.bytes.now a.first a.found a.room a.kept.now a.ends.now old c.requires.4 c.requires.3 c.walk-after.ensures c.min-from.ensures c.min-to.ensures

pub lay-requires : goal.lay-requires
lay-requires c =
    let a = c.args in
    let old = columns a.indices.now a.decodings.now a.matches.now a.trefs.now a.numbers.now in (
      part_room a.table.now a.bytes.now a.first a.found a.room a.kept.now a.ends.now old c.requires.4 c.requires.3 c.walk-after.ensures c.min-from.ensures c.min-to.ensures,
      part_inside a.table.now a.bytes.now a.first a.found a.room a.kept.now a.ends.now old c.requires.4 c.requires.3 c.walk-after.ensures c.min-from.ensures c.min-to.ensures,
    )

pub settle-requires : goal.settle-requires
settle-requires c =
    let a = c.args in
    let old = columns a.indices.now a.decodings.now a.matches.now a.trefs.now a.numbers.now in (
      c.requires.4.room,
      ends_long a.table.now a.bytes.now a.first a.found a.room a.kept.now a.ends.now old c.requires.4 c.requires.3 c.walk-after.ensures,
      c.walk-after.ensures.within,
    )

pub returns : goal.returns
returns c =
    let a = c.args in
    let old = columns a.indices.now a.decodings.now a.matches.now a.trefs.now a.numbers.now in
    passed_all a.table.now a.bytes.now a.first a.found a.room a.kept.now a.ends.now old c.requires.4 c.requires.3 c.walk-after.ensures c.min-from.ensures c.min-to.ensures
    c.lay.ensures c.settle.ensures
