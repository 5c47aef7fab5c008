-- `row_heads::head_with_extension` meets its contract: the numbers in the order of the names, 0 for those that its table lacks.
-- Assumes nothing.
use Rattle.entry_rows.specs.Rows.{head_of}
use Rattle.descriptor_heads.proofs.Bits.{bit_is}
use Rattle.row_heads.proofs.head_with_extension.Goals as goal

pub returns : goal.returns
unfolding head_of
returns c =
    rw (
      c.from.ensures,
      c.from-2.ensures,
      bit_is c.args.extension.tref_present_flag c.from-3.ensures,
      c.from-4.ensures,
      c.from-5.ensures,
      c.from-6.ensures,
      c.from-7.ensures,
    )
