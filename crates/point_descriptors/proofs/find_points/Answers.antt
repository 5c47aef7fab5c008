-- `find_points` meets its contract.
-- Assumes nothing.
use Rattle.point_descriptors.proofs.Walking.{found_long}
use Rattle.point_descriptors.proofs.find_points.Goals as goal

pub returns-then-program-gt-MOST_BYTES : goal.returns-then-program-gt-MOST_BYTES
returns-then-program-gt-MOST_BYTES c = found_long c.args.program.now c.no_places.ensures c.no_places-then-program-gt-MOST_BYTES.ensures c.if-program-gt-MOST_BYTES.true
