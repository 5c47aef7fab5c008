-- `recordings::read_recording` meets its contract: the answer to what the walk found, and what is then laid. Assumes nothing.
use Rattle.recording_rows.specs.Columns.{columns}
use Rattle.recordings.proofs.Preparing.{called, columns_laid}
use Rattle.recordings.proofs.read_recording.Goals as goal

pub slice_bounds-lay_all-end : goal.slice_bounds-lay_all-end
slice_bounds-lay_all-end c =
    let a = c.args in
    let old = columns a.indices.now a.decodings.now a.matches.now a.trefs.now a.numbers.now in
    let k = called a.table.now a.bytes.now a.starts.now old c.judge-found.ensures.finds c.judge-found.ensures.notes c.room_for-room.ensures c.answer_of-answer.ensures c.rows_in-rows.ensures in
    k.prefix

pub slice_bounds-lay_all-end-2 : goal.slice_bounds-lay_all-end-2
slice_bounds-lay_all-end-2 c =
    let a = c.args in
    let old = columns a.indices.now a.decodings.now a.matches.now a.trefs.now a.numbers.now in
    let k = called a.table.now a.bytes.now a.starts.now old c.judge-found.ensures.finds c.judge-found.ensures.notes c.room_for-room.ensures c.answer_of-answer.ensures c.rows_in-rows.ensures in
    k.long

pub lay_all-requires : goal.lay_all-requires
lay_all-requires c =
    let a = c.args in
    let old = columns a.indices.now a.decodings.now a.matches.now a.trefs.now a.numbers.now in
    let k = called a.table.now a.bytes.now a.starts.now old c.judge-found.ensures.finds c.judge-found.ensures.notes c.room_for-room.ensures c.answer_of-answer.ensures c.rows_in-rows.ensures in
    (k.fits, k.ready.inside)

pub returns : goal.returns
returns c =
    let a = c.args in
    let old = columns a.indices.now a.decodings.now a.matches.now a.trefs.now a.numbers.now in
    let k = called a.table.now a.bytes.now a.starts.now old c.judge-found.ensures.finds c.judge-found.ensures.notes c.room_for-room.ensures c.answer_of-answer.ensures c.rows_in-rows.ensures in record {
      answer = k.is;
      content = columns_laid a.table.now a.bytes.now old k.ready k.enough c.lay_all.ensures;
    }
