-- `feeding::feed_rest` meets its contract: the whole packets, and what is left over. Assumes nothing.
use native.Mathlib.Omega.{arith}
use Prim.Native.Nat.{◌*◌, ◌/◌, ◌≤◌}
use mathlib.Core.Path.{sym, ap, ◌∙◌}
use lib.ListN.{length}
use lib.Seq.{sets, length-take-le}
use Rattle.combinators.specs.Lists.{part_to_end}
use Rattle.unit_starts.proofs.Running.{whole_part}
use Rattle.recording_rows.specs.Columns.{columns}
use Rattle.feeding.proofs.Rest.{left_short, rest_feeds}
use Rattle.feeding.proofs.feed_rest.Goals as goal

pub slice_bounds-pass-end : goal.slice_bounds-pass-end
slice_bounds-pass-end c =
    let a = c.args in
    let within : 188 * (length a.bytes.now / 188) ≤ length a.bytes.now = omega arith in
    sym (length-take-le (188 * (length a.bytes.now / 188)) a.bytes.now within)

pub pass-found-requires : goal.pass-found-requires
pass-found-requires c =
    let a = c.args in
    let within : 188 * (length a.bytes.now / 188) ≤ length a.bytes.now = omega arith in
    let size = length-take-le (188 * (length a.bytes.now / 188)) a.bytes.now within in
    (whole_part a.bytes.now, omega (arith, size, within, c.requires.1), c.requires.2.few, c.requires.3, c.requires.2.held)

pub put_whole-requires : goal.put_whole-requires
put_whole-requires c =
    let a = c.args in
    let same = ap length (part_to_end a.bytes.now (188 * (length a.bytes.now / 188))) in
    omega (arith, same, left_short a.bytes.now, c.requires.2.long)

-- LEFT: no goal of today has the name overflow-sub-t35
-- sub-t35 : tie.Need-overflow-sub-t35
-- sub-t35 c = search rules

-- LEFT: no goal of today has the name overflow-add-t38
-- add-t38 : tie.Need-overflow-add-t38
-- add-t38 c = omega (arith, c.before.before.before.before.before.before.before.before.before.before.before.before.before.before.before.before.before.before.before.before.before.before.before.before.before.before.before.before.before.before.before.before.before.before.before.requires.1)

pub returns : goal.returns
returns c =
    let a = c.args in
    rest_feeds a.table.now a.bytes.now a.room a.progress a.part.now a.kept.now a.ends.now
    (columns a.indices.now a.decodings.now a.matches.now a.trefs.now a.numbers.now) c.requires.0 c.requires.2 c.pass-found.ensures
    (c.put_whole.ensures.content ∙ ap (sets a.part.now 0) (part_to_end a.bytes.now (188 * (length a.bytes.now / 188))))
