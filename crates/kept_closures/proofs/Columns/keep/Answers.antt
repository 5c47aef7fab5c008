-- `keep` meets its contract: three stores.
-- Assumes nothing.
use Rattle.kept_closures.proofs.Steps.{size_small}
use Rattle.kept_closures.proofs.Columns.keep.Goals as goal

pub overflow_cast-self : goal.overflow_cast-self
overflow_cast-self c = record { fits = rw c.size.ensures (size_small c.args.closure) }

pub returns : goal.returns
returns c =
    rw (c.size.ensures, c.without.ensures)
