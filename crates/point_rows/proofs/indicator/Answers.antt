-- `indicator` meets its contract.
-- Assumes nothing.
use Rattle.point_rows.proofs.Laying.{indicator_there, indicator_none}
use native.Mathlib.Omega.{arith}
use Rattle.point_rows.proofs.indicator.Goals as goal

pub returns-then-idc-gt0 : goal.returns-then-idc-gt0
returns-then-idc-gt0 c = indicator_there c.args.idc c.args.number c.if-idc-gt0.true

pub returns : goal.returns
returns c = indicator_none c.args.idc c.args.number (omega (arith, c.if-idc-gt0.false))
