-- `feeding::feed_front` meets its contract: the bytes are carried, or make a packet whole. Assumes nothing.
use native.Mathlib.Omega.{arith}
use Rattle.recording_rows.specs.Columns.{columns}
use Rattle.feeding.proofs.Front.{new_long, front_carried, front_whole}
use Rattle.feeding.proofs.feed_front.Goals as goal

pub returns-then-size-lt-PACKET_BYTES : goal.returns-then-size-lt-PACKET_BYTES
returns-then-size-lt-PACKET_BYTES c =
    let a = c.args in
    front_carried a.table.now a.bytes.now a.room a.progress a.part.now a.kept.now a.ends.now
    (columns a.indices.now a.decodings.now a.matches.now a.trefs.now a.numbers.now) c.requires.2 c.requires.0 c.put_whole.ensures.content c.if-size-lt-PACKET_BYTES.true

pub pass-found-requires : goal.pass-found-requires
pass-found-requires c =
    let a = c.args in
    let long = new_long a.table.now a.bytes.now a.room a.progress a.part.now a.kept.now a.ends.now
    (columns a.indices.now a.decodings.now a.matches.now a.trefs.now a.numbers.now) c.requires.2 c.requires.0 c.put_whole.ensures.content in
    (omega (arith, long), omega (arith, long, c.requires.1), c.requires.2.few, c.requires.3, c.requires.2.held)

pub overflow_add-result : goal.overflow_add-result
overflow_add-result c = omega (arith, c.requires.1)

pub shape_of-part : goal.shape_of-part
shape_of-part c = c.part-1.given

pub returns : goal.returns
returns c =
    let a = c.args in
    front_whole a.table.now a.bytes.now a.room a.progress a.part.now a.kept.now a.ends.now
    (columns a.indices.now a.decodings.now a.matches.now a.trefs.now a.numbers.now) c.requires.2 c.requires.0 c.put_whole.ensures.content
    c.if-size-lt-PACKET_BYTES.false c.pass-found.ensures
