-- DEMAND 1 is kept: each call of specs/Demand1.antt keeps its promise.
-- Assumes nothing.
use Rattle.promised.proofs.Readers.{loop_read_lem, closure_found, loop_closure_found, times_read}
use Rattle.promised.proofs.Writers.{loop_written, times_written}
use Rattle.promised.proofs.Joiners.{table_joined_lem, rows_joined, long_joined, loop_imported}
use Rattle.recording_promises.proofs.Rows.{rows_are_read}
use Rattle.recording_promises.proofs.Imports.{packets_imported, long_imported}
use Rattle.demands.specs.Others.{refuse_nothing}
use Rattle.demands.specs.ForC.{thq_read_loop, thq_write_loop, thq_closure, thq_read_times, thq_write_times}
use Rattle.demands.specs.JoinsForC.{thq_join, thq_join_long, thq_import}
use Rattle.demands.proofs.ForCShown.{thq_loop_read, thq_loop_written, thq_closure_found, thq_times_read, thq_times_written}
use Rattle.demands.proofs.JoinsForCShown.{thq_rows_joined, thq_long_joined, thq_loop_imported}
use Rattle.demands.specs.Stereo.{thq_read_stereo, thq_write_stereo}
use Rattle.demands.proofs.StereoShown.{thq_stereo_read, thq_stereo_written}
use Rattle.demands.specs.PointsRead.{thq_read_points}
use Rattle.demands.proofs.PointsReadShown.{thq_points_read}
use Rattle.demands.specs.PointsWritten.{thq_write_points}
use Rattle.demands.proofs.PointsWrittenShown.{thq_points_written}
use Rattle.demands.specs.Points.{program_points_read}
use Rattle.demands.specs.Sets.{thq_set_read, thq_set_add, thq_set_remove, thq_set_closure}
use Rattle.demands.proofs.SetsShown.{set_read, layer_added, layer_removed}
use Rattle.demands.proofs.SetsShown as shown
use Rattle.demands.specs.Demand1.{Demand1}

pub demand_1 : Demand1
demand_1 =
    record {
      reading_a_loop = loop_read_lem;
      writing_a_loop = loop_written;
      closure_of_a_target = closure_found;
      closure_from_a_loop = loop_closure_found;
      reading_times = times_read;
      writing_times = times_written;
      joining_a_table = table_joined_lem;
      joining_rows = rows_joined;
      joining_long_tables = long_joined;
      importing = loop_imported;
      reading_rows_of_packets = rows_are_read;
      importing_packets = packets_imported;
      importing_long_recordings = long_imported;
      thq_read_loop = thq_loop_read;
      thq_write_loop = thq_loop_written;
      thq_closure = thq_closure_found;
      thq_read_times = thq_times_read;
      thq_write_times = thq_times_written;
      thq_join = thq_rows_joined;
      thq_join_long = thq_long_joined;
      thq_import = thq_loop_imported;
      thq_read_stereo = thq_stereo_read;
      thq_write_stereo = thq_stereo_written;
      thq_read_points = thq_points_read;
      thq_write_points = thq_points_written;
      reading_operation_points = program_points_read;
      reading_a_layer_set = set_read;
      adding_a_layer = layer_added;
      removing_a_layer = layer_removed;
      thq_set_read = shown.thq_set_read_lem;
      thq_set_add = shown.thq_set_add_lem;
      thq_set_remove = shown.thq_set_remove_lem;
      thq_set_closure = shown.thq_set_closure_lem;
      others = refuse_nothing;
    }
