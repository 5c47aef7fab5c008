-- `weigh_next` meets its contract.
-- Assumes nothing.
use Rattle.point_fields.proofs.Rows.{row_fits}
use native.Mathlib.Omega.{arith}
use Rattle.point_weights.proofs.weigh_next.Goals as goal

pub overflow_cast-result : goal.overflow_cast-result
overflow_cast-result c = let f = row_fits c.args.row.now c.requires.1 in omega arith

pub overflow_add-result : goal.overflow_add-result
overflow_add-result c = let f = row_fits c.args.row.now c.requires.1 in omega arith

pub overflow_cast-result-2 : goal.overflow_cast-result-2
overflow_cast-result-2 c = let f = row_fits c.args.row.now c.requires.1 in omega arith

pub overflow_add-result-2 : goal.overflow_add-result-2
overflow_add-result-2 c = let f = row_fits c.args.row.now c.requires.1 in omega arith

pub returns : goal.returns
returns c = let f = row_fits c.args.row.now c.requires.1 in (rw c.fields_size.ensures.0, omega arith, omega arith, omega (arith, c.fields_size.ensures.1))
