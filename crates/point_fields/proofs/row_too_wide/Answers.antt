-- `row_too_wide` meets its contract: one of the tests fails.
-- Assumes nothing.
use Rattle.point_fields.proofs.Rows.{tested}
use Rattle.point_fields.proofs.row_too_wide.Goals as goal

pub returns : goal.returns
returns c = rw (c.fits_field.ensures, c.fits_field-2.ensures, c.fits_field-3.ensures) (tested c.args.row.now)
