-- `row_heads::head_with_hierarchy` meets its contract: the numbers in the order of the names, 0 for those that its table lacks.
-- Assumes nothing.
use Rattle.entry_rows.specs.Rows.{head_of}
use Rattle.descriptor_heads.proofs.Bits.{bit_is}
use Rattle.row_heads.proofs.head_with_hierarchy.Goals as goal

pub returns : goal.returns
unfolding head_of
returns c =
    rw (
      c.from.ensures,
      bit_is c.args.hierarchy.no_view c.from-2.ensures,
      bit_is c.args.hierarchy.no_temporal c.from-3.ensures,
      bit_is c.args.hierarchy.no_spatial c.from-4.ensures,
      bit_is c.args.hierarchy.no_quality c.from-5.ensures,
      c.from-6.ensures,
      c.from-7.ensures,
      bit_is c.args.hierarchy.tref_present_flag c.from-8.ensures,
      c.from-9.ensures,
      c.from-10.ensures,
    )
