-- `embedded_layer` meets its contract: the byte of an index that fits.
-- Assumes nothing.
use native.Mathlib.Omega.{arith}
use Rattle.syntax.proofs.Equations.{bounds}
use Rattle.extension.proofs.Payloads.{layer_written}
use Rattle.extension.proofs.embedded_layer.Goals as goal

pub overflow_add-result : goal.overflow_add-result
overflow_add-result c = let b = bounds c.requires in omega arith

pub returns : goal.returns
returns c = layer_written c.args.index c.requires
