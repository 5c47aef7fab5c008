-- `row_weighing::size_in` meets its contract: which kind of record the row has decides.
-- Assumes nothing.
use mathlib.Core.Path.{ap}
use native.Mathlib.Omega.{arith}
use lib.ListN.{length}
use Rattle.extension.specs.Extension.{extension_head}
use Rattle.loop_entries.specs.declared.Entry.{Entry}
use Rattle.loop_writer.specs.Layout.{entry_bytes}
use Rattle.entry_rows.proofs.Laws.{hierarchy_entry}
use Rattle.entry_rows.proofs.Judged.{extension_fine}
use Rattle.entry_rows.proofs.Widths.{row_bounds}
use Rattle.row_weighing.proofs.Numbers.{extension_size, fieldless_size}
use Rattle.row_weighing.proofs.size_in.Goals as goal

pub returns-then-kind-eq1 : goal.returns-then-kind-eq1
returns-then-kind-eq1 c = (ap (λ (e : Entry). length (entry_bytes e)) (hierarchy_entry c.args.row.now c.if-kind-eq1.true), omega arith)

pub overflow_cast-result : goal.overflow_cast-result
overflow_cast-result c = omega (arith, (c.shared_slice_known-then-kind-eq2-1.given 15).fits)

pub overflow_add-result : goal.overflow_add-result
overflow_add-result c =
    let b = row_bounds extension_head c.args.row.now (extension_fine c.args.row.now c.requires.1 c.if-kind-eq2.true) in
    omega arith

pub returns-then-kind-eq2 : goal.returns-then-kind-eq2
returns-then-kind-eq2 c =
    let row = c.args.row.now in
    let b = row_bounds extension_head row (extension_fine row c.requires.1 c.if-kind-eq2.true) in
    (extension_size row c.requires.1 c.requires.0 c.if-kind-eq2.true, omega arith)

pub returns : goal.returns
returns c =
    (fieldless_size c.args.row.now c.requires.1 c.if-kind-eq1.false c.if-kind-eq2.false, omega arith)
