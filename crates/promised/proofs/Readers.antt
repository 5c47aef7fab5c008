-- The promises of the calls that read, each of its function. The calls stand in specs/Readers.antt.
-- Assumes nothing.
use Rattle.promised.specs.Calls.{Promised}
use Rattle.promised.specs.Shown.{promised}
use Rattle.promised.specs.Readers.{closure_computed, closure_of_loop, closure_of_target, loop_closure_computed, loop_read_computed, read_loop, read_times, times_read_computed}

pub loop_read_lem : Promised read_loop
loop_read_lem = promised loop_read_computed

pub closure_found : Promised closure_of_target
closure_found = promised closure_computed

pub loop_closure_found : Promised closure_of_loop
loop_closure_found = promised loop_closure_computed

pub times_read : Promised read_times
times_read = promised times_read_computed
