-- `row_taking::hierarchy_in` meets its contract: each value is the one under its name, and the casts keep it, since it fits its field.
-- Assumes nothing.
use Prim.Native.Nat.{◌<◌}
use lib.ListN.{get_or}
use Rattle.hierarchy.specs.Hierarchy.{hierarchy_descriptor}
use Rattle.entry_rows.proofs.Widths.{row_bounds}
use Rattle.vocabulary.specs.declared.stream_types.Reading.TheVariants.{Edition2015}
use native.Mathlib.Omega.{arith}
use Rattle.row_taking.proofs.hierarchy_in.Goals as goal

pub overflow_cast-result : goal.overflow_cast-result
overflow_cast-result c =
    let row = c.args.row.now in
    let b = row_bounds (hierarchy_descriptor Edition2015) row c.requires.1 in
    let small : get_or row 7 0 < 256 = omega arith in
    record { fits = small }

pub overflow_cast-result-2 : goal.overflow_cast-result-2
overflow_cast-result-2 c =
    let row = c.args.row.now in
    let b = row_bounds (hierarchy_descriptor Edition2015) row c.requires.1 in
    let small : get_or row 8 0 < 256 = omega arith in
    record { fits = small }

pub overflow_cast-result-3 : goal.overflow_cast-result-3
overflow_cast-result-3 c =
    let row = c.args.row.now in
    let b = row_bounds (hierarchy_descriptor Edition2015) row c.requires.1 in
    let small : get_or row 10 0 < 256 = omega arith in
    record { fits = small }

pub overflow_cast-result-4 : goal.overflow_cast-result-4
overflow_cast-result-4 c =
    let row = c.args.row.now in
    let b = row_bounds (hierarchy_descriptor Edition2015) row c.requires.1 in
    let small : get_or row 11 0 < 256 = omega arith in
    record { fits = small }
