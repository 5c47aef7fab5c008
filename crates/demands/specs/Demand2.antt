-- DEMAND 2. 'Descriptors and packet times are read and written as H.222.0 and its layered-video amendments lay them out, under the reading rules
-- of document 01. Each component of the chosen layer yields one unit' (in W-204's words 'each unclaimed row'): 'one component from every layer it rests on, paired by TREF or else by
-- decoding time, in rising layer index. Where no refusal listed before it applies, the whole is refused as unpaired exactly when some unit
-- has no such choice, and otherwise as used twice exactly when two units would share a component.'
--
-- What is laid out is said by the syntax tables, each once for reading and writing: `entry_head` of es_loop, `hierarchy/specs/Hierarchy.antt`, `extension/specs/Extension.antt` and
-- those of the PES header. A row's match time is its TREF, or its decoding time without one: `match_of` of PES reading.
-- Assumes nothing.
use Rattle.join_answers.specs.Answer.{joined_units, Joined}
use Rattle.std.specs.Prelude.{ℕ, ◌≤◌, Bool, List, map, ◌↔◌, ◌≡◌, length, take, Err, Ok}
use Rattle.buffers.specs.Buffers.{over}
use Rattle.combinators.specs.Padding.{pad_to}
use Rattle.syntax.specs.Table.{AreBytes}
use Rattle.vocabulary.specs.declared.refusal.Refusal.TheVariants.{Unpaired, UsedTwice}
use Rattle.vocabulary.specs.declared.stream_types.Reading.TheVariants.{Edition2015}
use Rattle.loop_entries.specs.declared.Entry.{Entry}
use Rattle.loop_entries.specs.declared.Stream.{Stream}
use Rattle.loop_entries.specs.Entries.{blank_entry, entry_of}
use Rattle.es_loop.specs.Reading.{accepted}
use Rattle.es_loop.specs.Meaning as LoopMeaning
use Rattle.es_loop.specs.declared.reader.LoopRead.{LoopRead}
use Rattle.loop_writer.specs.Answer.{Written}
use Rattle.loop_writer.specs.Writing.{answer}
use Rattle.loop_round_trip.specs.ReadBack.{normal, Typed}
use Rattle.loop_round_trip.specs.OwnShape.{OwnShape}
use Rattle.stamps.specs.declared.Times.{Times}
use Rattle.pes_reader.specs.declared.Header.{Header as HeaderRead}
use Rattle.pes_reader.specs.Reading.{read_of}
use Rattle.pes_writer.specs.Writing.{header_of, write_of, buffer_of}
use Rattle.pes_writer.specs.OwnShape.{OwnShape as OwnHeader}
use Rattle.closure.specs.declared.Layers.{Layers}
use Rattle.closure.specs.Meaning.{RestsOn, Answers as ClosureAnswers}
use Rattle.loop_layers.specs.Meaning.{LayersOf}
use Rattle.rows.specs.Table.{Table, layer_of, most_rows}
use Rattle.rows.specs.Meaning.{FirstRow, NoRow, InOrder}
use Rattle.claims.specs.Meaning.{Head}
use Rattle.spans.specs.Meaning.{SpansTooFar}
use Rattle.heads.specs.Meaning.{AssemblesOwn, NoAssembly, SharesRow}
use Rattle.unit_lists.specs.Sequence.{Lists}
use Rattle.join_answers.specs.Meaning.{Accepted}
use Rattle.promised.specs.Calls.{Promised}
use Rattle.promised.specs.Readers.{read_loop, read_times}
use Rattle.promised.specs.Writers.{EntriesGiven, write_loop, write_times}
use Rattle.promised.specs.Joiners.{RowsGiven, join_rows, join_long, ImportGiven, import_loop}

-- the entries that a writer is given, and what reading them answers: each as it was given, but for what its record does not have (`normal`)
abbrev pub entries_of : EntriesGiven → List Entry
entries_of given = take given.count given.array

abbrev pub as_given : List Entry → LoopRead
as_given entries = record { outcome = Ok tt; count = length entries; entries = pad_to 201 blank_entry (map normal entries) }

-- Whatever the writer accepts, a reading of the bytes that it left in its buffer gives back.
abbrev pub LoopReadBack : Type 0
LoopReadBack =
    (wrote : write_loop.Ran) → write_loop.Ensures wrote → (n : ℕ) → write_loop.answer wrote ≡ Ok n → Typed (entries_of (write_loop.given wrote))
    → (read : read_loop.Ran) → read_loop.Ensures read
    → read_loop.given read ≡ record { reading = Edition2015; bytes = take n (write_loop.after wrote) }
    → read_loop.answer read ≡ as_given (entries_of (write_loop.given wrote))

-- Whatever is read from a loop in the writer's own shape, a writing of that gives the same bytes, where there is room.
abbrev pub LoopRewritten : Type 0
LoopRewritten =
    (read : read_loop.Ran) → read_loop.Ensures read → (read_loop.given read).reading ≡ Edition2015
    → AreBytes (read_loop.given read).bytes → OwnShape (read_loop.given read).bytes → (read_loop.answer read).outcome ≡ Ok tt
    → (wrote : write_loop.Ran) → write_loop.Ensures wrote → (write_loop.given wrote).count ≡ (read_loop.answer read).count
    → (write_loop.given wrote).array ≡ (read_loop.answer read).entries → length (read_loop.given read).bytes ≤ length (write_loop.given wrote).out
    → (write_loop.answer wrote ≡ Ok (length (read_loop.given read).bytes))
    × (write_loop.after wrote ≡ over (read_loop.given read).bytes (write_loop.given wrote).out)

-- 'read and written as H.222.0 and its layered-video amendments lay them out': each call's answer has its meaning, and nothing else has; and
-- the round trips of document 01, 'reading what a writer wrote gives back what was given, and rewriting gives the same bytes for headers
-- and loops in the writer's own shape'.
pub record ReadAndWritten : Type 0 where
  pub loops_read : Promised read_loop
  pub loops_written : Promised write_loop
  pub times_are_read : Promised read_times
  pub times_are_written : Promised write_times
  pub loop_read_back : LoopReadBack
  pub loop_rewritten : LoopRewritten
  pub times_read_back : (times : Times) (with_tref : Bool) (out : List ℕ) {size : ℕ} → write_of times with_tref (length out) ≡ Ok size
      → read_of (buffer_of (Ok size) (header_of times with_tref) out) ≡ Ok (record { times = times; tref_sent = with_tref; end = size })
  pub times_rewritten : {bytes : List ℕ} {times : Times} {with_tref : Bool} → OwnHeader bytes times with_tref → (header : HeaderRead)
      → read_of bytes ≡ Ok header → (out : List ℕ) → length bytes ≤ length out
      → (write_of header.times header.tref_sent (length out) ≡ Ok (length bytes))
      × (buffer_of (Ok (length bytes)) (header_of header.times header.tref_sent) out ≡ over bytes out)

-- the layers of a loop in place of its bytes
abbrev pub over_layers : ImportGiven → Layers → RowsGiven
over_layers given layers = record { most = most_rows; layers = layers; target = given.target; rows = given.rows; before = given.before }

-- THE UNITS of an accepted table, and what the three lists then hold: over a closure, a table in range and in order, no row in two units, and the closure rows no
-- farther apart than half the clock
pub record OneUnitEach (given : RowsGiven) (closure units rows : ℕ) (after : Lists) : Type 0 where
  pub closed : ClosureAnswers given.layers given.target (Ok closure)
  pub in_order : InOrder given.most given.layers given.target given.rows
  pub in_one_unit : NoRow given.rows (SharesRow given.layers given.target given.rows)
  pub near : SpansTooFar given.layers given.target given.rows → ⊥
  pub accepted : Accepted given.layers given.target given.rows given.before units rows after

-- the same from the bytes of a loop: in the layers of its entries
pub record OneUnitEachOfLoop (given : ImportGiven) (closure units rows : ℕ) (after : Lists) : Type 0 where
  pub streams : List Stream
  pub layers : Layers
  pub loop_accepted : LoopMeaning.Answers given.reading given.bytes (accepted streams)
  pub layers_of_loop : LayersOf (map entry_of streams) layers
  pub one_unit_each : OneUnitEach (over_layers given layers) closure units rows after

-- 'unpaired exactly when some unit has no such choice': at the first head that has none
pub record FirstUnpaired (given : RowsGiven) (row : ℕ) : Type 0 where
  pub closure : ℕ
  pub closed : ClosureAnswers given.layers given.target (Ok closure)
  pub in_order : InOrder given.most given.layers given.target given.rows
  pub first : FirstRow given.rows (NoAssembly given.layers given.target given.rows) row

-- 'otherwise as used twice exactly when two units would share a component': at the first head whose unit shares one with a head before it
pub record FirstSharing (given : RowsGiven) (row : ℕ) : Type 0 where
  pub closure : ℕ
  pub closed : ClosureAnswers given.layers given.target (Ok closure)
  pub in_order : InOrder given.most given.layers given.target given.rows
  pub all_paired : NoRow given.rows (NoAssembly given.layers given.target given.rows)
  pub first : FirstRow given.rows (SharesRow given.layers given.target given.rows) row

-- What the answer of joining says: units answered and written, neither alone is enough, 15 and 16 each exactly when.
pub record Says (given : RowsGiven) (answer : Joined) (left : Lists) : Type 0 where
  pub units : (closure units rows : ℕ) (after : Lists) → ((answer ≡ joined_units closure units rows) × (left ≡ after)) ↔ OneUnitEach given closure units rows after
  pub unpaired : (row : ℕ) → (answer ≡ Err (Unpaired row)) ↔ FirstUnpaired given row
  pub used_twice : (row : ℕ) → (answer ≡ Err (UsedTwice row)) ↔ FirstSharing given row

-- Of every run of the functions that join, by their contracts, 'each unclaimed row' yields one unit:
pub record Joins : Type 0 where
  pub of_512_rows : (run : join_rows.Ran) → join_rows.Ensures run → Says (join_rows.given run) (join_rows.answer run) (join_rows.after run)
  pub of_any_length : (run : join_long.Ran) → join_long.Ensures run → Says (join_long.given run) (join_long.answer run) (join_long.after run)
  pub units_of_loop : (run : import_loop.Ran) → import_loop.Ensures run → (closure units rows : ℕ) (after : Lists)
      → ((import_loop.answer run ≡ joined_units closure units rows) × (import_loop.after run ≡ after))
      ↔ OneUnitEachOfLoop (import_loop.given run) closure units rows after
  -- a head has no two assemblies
  pub one_choice : (most : ℕ) (layers : Layers) (target closure : ℕ) (rows : Table) → ClosureAnswers layers target (Ok closure)
      → InOrder most layers target rows → (head : ℕ) → Head layers target rows head → (choice other : ℕ → ℕ) → AssemblesOwn layers rows head choice
      → AssemblesOwn layers rows head other → (layer : ℕ) → RestsOn layers (layer_of rows head) layer → choice layer ≡ other layer

pub record Demand2 : Type 0 where
  pub read_and_written : ReadAndWritten
  pub joins : Joins
