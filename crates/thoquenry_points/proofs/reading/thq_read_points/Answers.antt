-- `thq_read_points` meets its contract.
-- Assumes nothing.
use Rattle.thoquenry_points.proofs.Answered.{ready_of, reply_accepted, reply_refused}
use Rattle.thoquenry_points.specs.Reading.{lists}
use Rattle.thoquenry_points.proofs.reading.thq_read_points.Goals as goal

pub lay_read-requires : goal.lay_read-requires
lay_read-requires c = ready_of c.args.program.now c.args.bytes.now c.read_points-read.result c.read_points-read.ensures c.in-Ok.is

pub returns-in-Ok : goal.returns-in-Ok
returns-in-Ok c = reply_accepted c.args.program.now c.args.bytes.now c.read_points-read.result c.read_points-read.ensures (lists c.args.descriptors.now c.args.profiles.now c.args.points.now c.args.references.now c.args.layers.now c.args.streams.now c.args.summary.now) c.in-Ok.is c.lay_read.ensures

pub returns-in-Err : goal.returns-in-Err
returns-in-Err c = reply_refused c.args.program.now c.args.bytes.now c.read_points-read.result c.read_points-read.ensures (lists c.args.descriptors.now c.args.profiles.now c.args.points.now c.args.references.now c.args.layers.now c.args.streams.now c.args.summary.now) _ c.in-Err.is c.refused.ensures
