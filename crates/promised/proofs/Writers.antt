-- The promises of the calls that write, each of its function. The calls stand in specs/Writers.antt.
-- Assumes nothing.
use Rattle.promised.specs.Calls.{Promised}
use Rattle.promised.specs.Shown.{promised}
use Rattle.promised.specs.Writers.{loop_written_computed, times_written_computed, write_loop, write_times}

pub loop_written : Promised write_loop
loop_written = promised loop_written_computed

pub times_written : Promised write_times
times_written = promised times_written_computed
