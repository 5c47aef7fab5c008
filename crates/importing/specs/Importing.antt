-- THE WHOLE IMPORT: from the bytes of a loop, a target and a row table to the closure with the answer of joining, or the refusal with its
-- place; and what the three lists then hold. Refusals 1 to 9 are those of reading the loop, 11 and 12 those of the target in the layers of
-- the loop that was read, 13 to 18 those of joining.
-- Assumes nothing.
use Rattle.std.specs.Prelude.{ℕ, List, Err, Ok}
use Rattle.vocabulary.specs.declared.stream_types.Reading.{Reading}
use Rattle.es_loop.specs.Answer.{Outcome}
use Rattle.es_loop.specs.declared.reader.LoopRead.{LoopRead}
use Rattle.es_loop.specs.Reading.{loop_read}
use Rattle.closure.specs.declared.Layers.{Layers}
use Rattle.loop_layers.specs.Layers.{layers_of}
use Rattle.loop_layers.specs.Closures.{entries_read}
use Rattle.join_answers.specs.Answer.{Joined}
use Rattle.rows.specs.Table.{Table, most_rows}
use Rattle.unit_lists.specs.Sequence.{Lists}
use Rattle.join_answers.specs.Joining.{Room, joined_of, lists_after}

-- the layers of the entries that were read
abbrev pub layers_read : LoopRead → Layers
layers_read read = layers_of (entries_read read)

-- Loop reading uses 1 to 9, 'the target 11 and 12, joining 13 to 17 after these', and 18: a refused loop gives its refusal, and an accepted one
-- the answer of joining in its layers, which asks for the target first
abbrev pub import_for : Outcome → Layers → ℕ → Table → Room → Joined
import_for (Ok tt) layers target t room = joined_of most_rows layers target t room
import_for (Err refusal) layers target t room = Err refusal

abbrev pub import_in : LoopRead → ℕ → Table → Room → Joined
import_in read target t room = import_for read.outcome (layers_read read) target t room

-- 'the answer is the closure with the answer of joining, or the refusal with its place'
abbrev pub import_of : Reading → List ℕ → ℕ → Table → Room → Joined
import_of reading bytes target t room = import_in (loop_read reading bytes) target t room

-- What the lists hold: the units over the layers of the loop, and after them what stood there; after a refusal all is as it was.
abbrev pub imported_lists : Reading → List ℕ → Table → Joined → Lists → Lists
imported_lists reading bytes t answer before = lists_after (layers_read (loop_read reading bytes)) t answer before
