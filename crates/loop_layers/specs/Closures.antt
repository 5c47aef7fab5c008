-- What is answered straight from the bytes of a loop: its layers, their table, and the closure of a target; or the refusal. Refusals 1 to 9 are
-- those of reading the loop, 11 and 12 those of the target in the layers of the loop that was read.
-- Assumes nothing.
use Rattle.std.specs.Prelude.{ℕ, List, take, Err, Ok}
use Rattle.vocabulary.specs.declared.stream_types.Reading.{Reading}
use Rattle.loop_entries.specs.declared.Entry.{Entry}
use Rattle.es_loop.specs.Answer.{Outcome}
use Rattle.es_loop.specs.declared.reader.LoopRead.{LoopRead}
use Rattle.es_loop.specs.Reading.{loop_read}
use Rattle.closure.specs.declared.Layers.{Layers}
use Rattle.closure.specs.Answer.{Closure}
use Rattle.closure.specs.Closures.{closure_of}
use Rattle.loop_layers.specs.declared.layer_sets.LayersRead.{LayersRead}
use Rattle.loop_layers.specs.declared.table.TableRead.{TableRead}
use Rattle.loop_layers.specs.Layers.{layers_of, table_of}

-- the entries that were read, out of the array that holds them
abbrev pub entries_read : LoopRead → List Entry
entries_read read = take read.count read.entries

-- the layers, and their table, given what reading the loop answered: of a refused loop there are none
abbrev pub layers_in : LoopRead → LayersRead
layers_in read = record { outcome = read.outcome; layers = layers_of (entries_read read) }

abbrev pub loop_layers : Reading → List ℕ → LayersRead
loop_layers reading bytes = layers_in (loop_read reading bytes)

abbrev pub table_in : LoopRead → TableRead
table_in read = record { outcome = read.outcome; table = table_of (entries_read read) }

abbrev pub loop_table : Reading → List ℕ → TableRead
loop_table reading bytes = table_in (loop_read reading bytes)

-- the answer to a target, given what reading the loop answered
abbrev pub closure_for : Outcome → Layers → ℕ → Closure
closure_for (Ok tt) layers target = closure_of layers target
closure_for (Err refusal) layers target = Err refusal

abbrev pub closure_in : LoopRead → ℕ → Closure
closure_in read target = closure_for read.outcome (layers_of (entries_read read)) target

abbrev pub loop_closure : Reading → List ℕ → ℕ → Closure
loop_closure reading bytes target = closure_in (loop_read reading bytes) target
