-- `entry_rows::extension_too_wide` meets its contract: 16 bits always fit, and each other value is tested.
-- Assumes nothing.
use mathlib.Core.Bool.{and-true, and_assoc}
use borrow.Author.Tests.{lt-ltb}
use lib.ListN.{get_or}
use Rattle.entry_rows.proofs.extension_too_wide.Goals as goal

pub returns : goal.returns
returns c =
    let row = c.args.row.now in
    simp (lt-ltb (get_or row 12 0) 65536 (c.shared_slice_known-6-1.given 12).fits, and-true, and_assoc)
