-- `layer_too_wide` meets its contract: the one value of its table is below 64 or not.
-- Assumes nothing.
use mathlib.Core.Bool.{and-true}
use Rattle.extension.proofs.layer_too_wide.Goals as goal

pub returns : goal.returns
returns c = rw and-true
