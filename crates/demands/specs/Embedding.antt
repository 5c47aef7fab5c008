-- W-206. 'Let the extension list as many as its six bits allow. Every loop that was accepted keeps its bytes and its answers. A loop written with more
-- than 8 will be refused with 10 by 2015 readers that haven't been updated, and by no other number of the loop reading, where all else is sound. Show
-- that in the new build refusal 10 never occurs.'
--
-- Four statements: `TenNever`, `kept`, `refused_before`, `RoundTrips63`; the first and the last hold by `ten_never` and `lists_of_63` of proofs/Embedding.antt. What the reading and the writing before were is said by
-- `embedding/specs/ReadingBefore.antt` and `WritingBefore.antt`, the words of the request by `embedding/specs/Changed.antt`.
-- Assumes nothing.
use Rattle.std.specs.Prelude.{ℕ, List, ◌++◌, ◌≡◌, take, Ok}
use Rattle.std.proofs.Math.Option.{some}
use Rattle.combinators.specs.Lists.{Nth}
use Rattle.text.specs.Text.{ascii}
use Rattle.vocabulary.specs.declared.stream_types.Reading.{Reading}
use Rattle.vocabulary.specs.declared.stream_types.Reading.TheVariants.{Edition2015}
use Rattle.vocabulary.specs.declared.refusal.Refusal.{Refusal}
use Rattle.vocabulary.specs.Refusals.{number_of}
use Rattle.extension.specs.declared.ExtensionRecord.{ExtensionRecord}
use Rattle.records.specs.declared.Record.TheVariants.{Extension}
use Rattle.loop_entries.specs.declared.Entry.{Entry}
use Rattle.loop_layers.specs.Closures.{entries_read}
use Rattle.loop_round_trip.specs.ReadBack.{Typed}
use Rattle.listing.specs.Lines.{loop_text}
use Rattle.embedding.specs.Changed.{AnswersKept, LongLists}
use Rattle.embedding.proofs.Kept.{answers_kept}
use Rattle.embedding.proofs.Long.{long_lists}
use Rattle.promised.specs.Calls.{Call}
use Rattle.promised.specs.Readers.{read_loop, closure_of_target, closure_of_loop, read_times}
use Rattle.promised.specs.Writers.{write_loop, write_times}
use Rattle.promised.specs.Joiners.{join_table, join_rows, join_long, import_loop}
use Rattle.demands.specs.Told.{for_c}
use Rattle.demands.specs.ForC.{thq_read_loop, thq_write_loop, thq_closure, thq_read_times, thq_write_times}
use Rattle.demands.specs.JoinsForC.{thq_join, thq_join_long, thq_import}
use Rattle.demands.specs.Sets.{read_layer_set, add_layer, remove_layer, thq_set_read, thq_set_add, thq_set_remove, thq_set_closure}
use Rattle.demands.specs.Stereo.{thq_read_stereo, thq_write_stereo}
use Rattle.demands.specs.PointsRead.{thq_read_points}
use Rattle.demands.specs.PointsWritten.{thq_write_points}
use Rattle.demands.specs.Demand2.{entries_of, LoopRewritten}

-- ---- 'Show that in the new build refusal 10 never occurs.'

-- No run of a call, whatever it is handed, answers 10.
abbrev pub Never10 : Call → Type 0
Never10 call = (run : call.Ran) → call.Ensures run → call.number_in (call.answer run) ≡ some 10 → ⊥

pub record TenNever : Type 0 where
  -- no refusal has the number, so that nothing which answers a refusal can give it
  pub no_refusal : (refusal : Refusal) → number_of refusal ≡ 10 → ⊥
  pub reading_a_loop : Never10 read_loop
  pub writing_a_loop : Never10 write_loop
  pub closure_of_a_target : Never10 closure_of_target
  pub closure_from_a_loop : Never10 closure_of_loop
  pub reading_times : Never10 read_times
  pub writing_times : Never10 write_times
  pub joining_a_table : Never10 join_table
  pub joining_rows : Never10 join_rows
  pub joining_long_tables : Never10 join_long
  pub importing : Never10 import_loop
  -- the functions for C, which answer the number as a number
  pub thq_read_loop : Never10 (for_c thq_read_loop)
  pub thq_write_loop : Never10 (for_c thq_write_loop)
  pub thq_closure : Never10 (for_c thq_closure)
  pub thq_read_times : Never10 (for_c thq_read_times)
  pub thq_write_times : Never10 (for_c thq_write_times)
  pub thq_join : Never10 (for_c thq_join)
  pub thq_join_long : Never10 (for_c thq_join_long)
  pub thq_import : Never10 (for_c thq_import)
  -- layer sets
  pub reading_a_layer_set : Never10 read_layer_set
  pub adding_a_layer : Never10 add_layer
  pub removing_a_layer : Never10 remove_layer
  pub thq_set_read : Never10 (for_c thq_set_read)
  pub thq_set_add : Never10 (for_c thq_set_add)
  pub thq_set_remove : Never10 (for_c thq_set_remove)
  pub thq_set_closure : Never10 (for_c thq_set_closure)
  pub thq_read_stereo : Never10 (for_c thq_read_stereo)
  pub thq_write_stereo : Never10 (for_c thq_write_stereo)
  pub thq_read_points : Never10 (for_c thq_read_points)
  pub thq_write_points : Never10 (for_c thq_write_points)
  -- the listing, and with it the program `layers`, which prints it
  pub listing : (reading : Reading) (bytes rest : List ℕ) → loop_text reading bytes ≡ ascii "refused 10 " ++ rest → ⊥

-- ---- 'Every loop that was accepted keeps its bytes and its answers.'

pub kept : AnswersKept
kept = answers_kept

-- ---- 'A loop written with more than 8 will be refused with 10 by 2015 readers that haven't been updated, and by no other number of the loop reading'

pub refused_before : LongLists
refused_before = long_lists

-- ---- the round trips, with as many layers as six bits allow

-- an entry whose extension lists 63 layers
pub record Lists63 (e : Entry) : Type 0 where
  pub extension : ExtensionRecord
  pub is_extension : e.«record» ≡ Extension extension
  pub all_63 : extension.num_embedded_layers ≡ 63

pub record RoundTrips63 : Type 0 where
  -- What is read back of an entry that was written with 63 layers is that entry: all 63 in their order, and every other field.
  pub read_back : (wrote : write_loop.Ran) → write_loop.Ensures wrote → (n : ℕ) → write_loop.answer wrote ≡ Ok n
      → Typed (entries_of (write_loop.given wrote)) → (read : read_loop.Ran) → read_loop.Ensures read
      → read_loop.given read ≡ record { reading = Edition2015; bytes = take n (write_loop.after wrote) }
      → {k : ℕ} {e : Entry} → Nth (entries_of (write_loop.given wrote)) k e → Lists63 e → Nth (entries_read (read_loop.answer read)) k e
  -- And rewriting gives the same bytes, whatever the lists.
  pub rewritten : LoopRewritten
