-- `read_points` meets its contract.
-- Assumes nothing.
use Rattle.program_points.proofs.Filled.{loop_accepted, loop_refused}
use Rattle.program_points.proofs.read_points.Goals as goal

pub returns-in-Ok : goal.returns-in-Ok
returns-in-Ok c = loop_accepted c.args.program.now c.args.bytes.now c.read_layers-read.result c.read_layers-read.ensures c.in-Ok.is c.read_in.ensures

pub returns-in-Err : goal.returns-in-Err
returns-in-Err c = loop_refused c.args.program.now c.args.bytes.now c.read_layers-read.result c.read_layers-read.ensures _ c.find_points-found.result c.in-Err.is c.find_points-found.ensures c.refused.ensures
