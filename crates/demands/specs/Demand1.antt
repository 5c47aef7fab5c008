-- DEMAND 1. 'Every loop, packet header, row table and output buffer gets an answer that ends, whether the bytes are sound or damaged. The refusal
-- is one of the listed numbers, given exactly under its listed condition, and the output buffers then hold what they held before.'
--
-- One statement for all calls that refuse, the eight functions for C among them: each keeps the promise of Calls for whatever it is handed. The calls
-- that refuse nothing are bound beside them, each to the one definition that it equals. (The tests of `judging`, which reading and writing a loop are
-- made of, are not said again.) `joining::join_table` asks for the target's closure and for work space, and keeps
-- the promise wherever it is handed these.
-- Assumes nothing.
use Rattle.promised.specs.Calls.{Promised}
use Rattle.promised.specs.Readers.{read_loop, closure_of_target, closure_of_loop, read_times}
use Rattle.promised.specs.Writers.{write_loop, write_times}
use Rattle.promised.specs.Joiners.{join_table, join_rows, join_long, import_loop}
use Rattle.recording_promises.specs.Rows.{read_rows}
use Rattle.recording_promises.specs.Imports.{import_packets, import_long}
use Rattle.demands.specs.Told.{for_c}
use Rattle.demands.specs.Others.{RefuseNothing}
use Rattle.demands.specs.ForC.{thq_read_loop, thq_write_loop, thq_closure, thq_read_times, thq_write_times}
use Rattle.demands.specs.JoinsForC.{thq_join, thq_join_long, thq_import}
use Rattle.demands.specs.Stereo.{thq_read_stereo, thq_write_stereo}
use Rattle.demands.specs.PointsRead.{thq_read_points}
use Rattle.demands.specs.PointsWritten.{thq_write_points}
use Rattle.demands.specs.Points.{read_program_points}
use Rattle.demands.specs.Sets.{read_layer_set, add_layer, remove_layer, thq_set_read, thq_set_add, thq_set_remove, thq_set_closure}

pub record Demand1 : Type 0 where
  -- 1 to 9
  pub reading_a_loop : Promised read_loop
  -- 1, 3, 6 to 9, 17, 25
  pub writing_a_loop : Promised write_loop
  -- 11 and 12
  pub closure_of_a_target : Promised closure_of_target
  -- 1 to 9, 11, 12
  pub closure_from_a_loop : Promised closure_of_loop
  -- 20 to 24
  pub reading_times : Promised read_times
  -- 17, 24, 25
  pub writing_times : Promised write_times
  -- 13 to 18, over the closure that was found
  pub joining_a_table : Promised join_table
  -- 11 to 18, of at most 512 rows, and of as many as the work space has places for
  pub joining_rows : Promised join_rows
  pub joining_long_tables : Promised join_long
  -- 1 to 9, 11 to 18
  pub importing : Promised import_loop
  -- 1 to 9, 13, 20 to 24, 30 to 33, of the packets of a recording
  pub reading_rows_of_packets : Promised read_rows
  -- 1 to 9, 11 to 18, 20 to 24, 30 to 33, of at most 512 rows, and of as many as columns and work space have places for
  pub importing_packets : Promised import_packets
  pub importing_long_recordings : Promised import_long
  -- 1 to 9, 17, 255
  pub thq_read_loop : Promised (for_c thq_read_loop)
  -- 1, 3, 6 to 9, 17, 25
  pub thq_write_loop : Promised (for_c thq_write_loop)
  -- 1 to 9, 11, 12, 17, 255
  pub thq_closure : Promised (for_c thq_closure)
  -- 17, 20 to 24
  pub thq_read_times : Promised (for_c thq_read_times)
  -- 17, 24, 25
  pub thq_write_times : Promised (for_c thq_write_times)
  -- 11 to 18
  pub thq_join : Promised (for_c thq_join)
  pub thq_join_long : Promised (for_c thq_join_long)
  -- 1 to 9, 11 to 18, 255
  pub thq_import : Promised (for_c thq_import)
  -- 1 to 9, 17, 44 to 46
  pub thq_read_stereo : Promised (for_c thq_read_stereo)
  -- 1, 3, 6 to 9, 17, 25, 44, 46
  pub thq_write_stereo : Promised (for_c thq_write_stereo)
  -- 1 to 9, 17, 40 to 42
  pub thq_read_points : Promised (for_c thq_read_points)
  -- 17, 25, 41
  pub thq_write_points : Promised (for_c thq_write_points)
  -- 1 to 9, 40 to 42
  pub reading_operation_points : Promised read_program_points
  -- 1 to 9
  pub reading_a_layer_set : Promised read_layer_set
  -- 3, 6 to 9, 25, of a layer set
  pub adding_a_layer : Promised add_layer
  -- 11, of a layer set
  pub removing_a_layer : Promised remove_layer
  -- 1 to 9, 255
  pub thq_set_read : Promised (for_c thq_set_read)
  -- 3, 6 to 9, 25, 255
  pub thq_set_add : Promised (for_c thq_set_add)
  -- 11, 255
  pub thq_set_remove : Promised (for_c thq_set_remove)
  -- 11, 12, 17, 255
  pub thq_set_closure : Promised (for_c thq_set_closure)
  -- none
  pub others : RefuseNothing
