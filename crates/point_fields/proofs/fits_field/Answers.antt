-- `fits_field` meets its contract: by whether the line is there.
-- Assumes nothing.
use Rattle.point_fields.proofs.fits_field.Goals as goal

pub returns-then-there : goal.returns-then-there
returns-then-there c = rw c.if-there.true

pub returns : goal.returns
returns c = rw c.if-there.false
