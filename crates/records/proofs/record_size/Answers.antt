-- `record_size` meets its contract: which arm was taken says which record it is.
-- Assumes nothing.
use mathlib.Core.Path.{◌≡◌, sym, ◌∙◌, ap}
use mathlib.Core.Bool.{false}
use native.Mathlib.Omega.{arith}
use lib.ListN.{length}
use Rattle.combinators.specs.Lists.{any, gather}
use Rattle.records.specs.declared.Record.{Record}
use Rattle.records.specs.declared.Record.TheVariants.{Extension}
use Rattle.syntax.specs.Filled.{bytes_in, too_wide_in}
use Rattle.records.specs.Records.{record_tables}
use Rattle.extension.proofs.Widths.{count_small}
use Rattle.records.proofs.Sizes.{record_size_lem}
use Rattle.records.proofs.record_size.Goals as goal

pub returns-in-Extension : goal.returns-in-Extension
returns-in-Extension c =
    let layers = c.args.embedded in
    let room : length layers ≡ 63 = omega arith in
    let fit : any too_wide_in (record_tables (Extension c.in-Extension.extension) layers) ≡ false =
    sym (ap (λ (r : Record). any too_wide_in (record_tables r layers)) c.in-Extension.is) ∙ c.requires in (
      rw c.from.ensures (sym (ap (λ (r : Record). length (gather bytes_in (record_tables r layers))) c.in-Extension.is ∙ record_size_lem (Extension c.in-Extension.extension) layers room fit)),
      omega (arith, count_small c.in-Extension.extension layers fit),
    )
