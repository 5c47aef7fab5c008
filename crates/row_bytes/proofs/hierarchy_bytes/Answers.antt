-- `row_bytes::hierarchy_bytes` meets its contract: each byte is that of the tables at the row's numbers, which fit their fields.
-- Assumes nothing.
use Prim.Native.Nat.{ℕ, ◌+◌, ◌*◌, ◌/◌, ◌%◌, ◌<◌}
use mathlib.Core.List.{List}
use native.Mathlib.Omega.{arith}
use lib.ListN.{get_or}
use Rattle.vocabulary.specs.declared.stream_types.Reading.TheVariants.{Edition2015}
use Rattle.hierarchy.specs.Hierarchy.{hierarchy_descriptor}
use Rattle.entry_rows.proofs.Judged.{type_bound, pid_bound, hierarchy_fine}
use Rattle.entry_rows.proofs.Widths.{row_bounds}
use Rattle.row_bytes.proofs.Rows.{hierarchy_row}
use Rattle.row_bytes.proofs.hierarchy_bytes.Goals as goal

pub overflow_mul-flags : goal.overflow_mul-flags
overflow_mul-flags c =
    let row : List ℕ = c.args.row.now in
    let b = row_bounds (hierarchy_descriptor Edition2015) row (hierarchy_fine row c.requires.1 c.requires.2) in
    let p = pid_bound row c.requires.1 in
    omega arith

pub overflow_mul-flags-2 : goal.overflow_mul-flags-2
overflow_mul-flags-2 c =
    let row : List ℕ = c.args.row.now in
    let b = row_bounds (hierarchy_descriptor Edition2015) row (hierarchy_fine row c.requires.1 c.requires.2) in
    let p = pid_bound row c.requires.1 in
    omega arith

pub overflow_add-flags : goal.overflow_add-flags
overflow_add-flags c =
    let row : List ℕ = c.args.row.now in
    let b = row_bounds (hierarchy_descriptor Edition2015) row (hierarchy_fine row c.requires.1 c.requires.2) in
    let p = pid_bound row c.requires.1 in
    omega arith

pub overflow_mul-flags-3 : goal.overflow_mul-flags-3
overflow_mul-flags-3 c =
    let row : List ℕ = c.args.row.now in
    let b = row_bounds (hierarchy_descriptor Edition2015) row (hierarchy_fine row c.requires.1 c.requires.2) in
    let p = pid_bound row c.requires.1 in
    omega arith

pub overflow_add-flags-2 : goal.overflow_add-flags-2
overflow_add-flags-2 c =
    let row : List ℕ = c.args.row.now in
    let b = row_bounds (hierarchy_descriptor Edition2015) row (hierarchy_fine row c.requires.1 c.requires.2) in
    let p = pid_bound row c.requires.1 in
    omega arith

pub overflow_mul-flags-4 : goal.overflow_mul-flags-4
overflow_mul-flags-4 c =
    let row : List ℕ = c.args.row.now in
    let b = row_bounds (hierarchy_descriptor Edition2015) row (hierarchy_fine row c.requires.1 c.requires.2) in
    let p = pid_bound row c.requires.1 in
    omega arith

pub overflow_add-flags-3 : goal.overflow_add-flags-3
overflow_add-flags-3 c =
    let row : List ℕ = c.args.row.now in
    let b = row_bounds (hierarchy_descriptor Edition2015) row (hierarchy_fine row c.requires.1 c.requires.2) in
    let p = pid_bound row c.requires.1 in
    omega arith

pub overflow_cast-result : goal.overflow_cast-result
overflow_cast-result c =
    let row : List ℕ = c.args.row.now in
    let b = row_bounds (hierarchy_descriptor Edition2015) row (hierarchy_fine row c.requires.1 c.requires.2) in
    let p = pid_bound row c.requires.1 in
    let t = type_bound row c.requires.1 in
    let small : get_or row 0 0 < 256 = omega arith in
    record { fits = small }

pub overflow_add-result : goal.overflow_add-result
overflow_add-result c =
    let row : List ℕ = c.args.row.now in
    let b = row_bounds (hierarchy_descriptor Edition2015) row (hierarchy_fine row c.requires.1 c.requires.2) in
    let p = pid_bound row c.requires.1 in
    omega arith

pub overflow_cast-result-2 : goal.overflow_cast-result-2
overflow_cast-result-2 c =
    let row : List ℕ = c.args.row.now in
    let b = row_bounds (hierarchy_descriptor Edition2015) row (hierarchy_fine row c.requires.1 c.requires.2) in
    let p = pid_bound row c.requires.1 in
    let t = type_bound row c.requires.1 in
    let small : 224 + get_or row 1 0 / 256 < 256 = omega arith in
    record { fits = small }

pub overflow_cast-result-3 : goal.overflow_cast-result-3
overflow_cast-result-3 c =
    let row : List ℕ = c.args.row.now in
    let b = row_bounds (hierarchy_descriptor Edition2015) row (hierarchy_fine row c.requires.1 c.requires.2) in
    let p = pid_bound row c.requires.1 in
    let t = type_bound row c.requires.1 in
    let small : get_or row 1 0 % 256 < 256 = omega arith in
    record { fits = small }

pub overflow_add-result-2 : goal.overflow_add-result-2
overflow_add-result-2 c =
    let row : List ℕ = c.args.row.now in
    let b = row_bounds (hierarchy_descriptor Edition2015) row (hierarchy_fine row c.requires.1 c.requires.2) in
    let p = pid_bound row c.requires.1 in
    omega arith

pub overflow_cast-result-4 : goal.overflow_cast-result-4
overflow_cast-result-4 c =
    let row : List ℕ = c.args.row.now in
    let b = row_bounds (hierarchy_descriptor Edition2015) row (hierarchy_fine row c.requires.1 c.requires.2) in
    let p = pid_bound row c.requires.1 in
    let t = type_bound row c.requires.1 in
    let small : get_or row 3 0 * 128 + get_or row 4 0 * 64 + get_or row 5 0 * 32 + get_or row 6 0 * 16 + get_or row 7 0 < 256 = omega arith in
    record { fits = small }

pub overflow_add-result-3 : goal.overflow_add-result-3
overflow_add-result-3 c =
    let row : List ℕ = c.args.row.now in
    let b = row_bounds (hierarchy_descriptor Edition2015) row (hierarchy_fine row c.requires.1 c.requires.2) in
    let p = pid_bound row c.requires.1 in
    omega arith

pub overflow_cast-result-5 : goal.overflow_cast-result-5
overflow_cast-result-5 c =
    let row : List ℕ = c.args.row.now in
    let b = row_bounds (hierarchy_descriptor Edition2015) row (hierarchy_fine row c.requires.1 c.requires.2) in
    let p = pid_bound row c.requires.1 in
    let t = type_bound row c.requires.1 in
    let small : 192 + get_or row 8 0 < 256 = omega arith in
    record { fits = small }

pub overflow_mul-result : goal.overflow_mul-result
overflow_mul-result c =
    let row : List ℕ = c.args.row.now in
    let b = row_bounds (hierarchy_descriptor Edition2015) row (hierarchy_fine row c.requires.1 c.requires.2) in
    let p = pid_bound row c.requires.1 in
    omega arith

pub overflow_add-result-4 : goal.overflow_add-result-4
overflow_add-result-4 c =
    let row : List ℕ = c.args.row.now in
    let b = row_bounds (hierarchy_descriptor Edition2015) row (hierarchy_fine row c.requires.1 c.requires.2) in
    let p = pid_bound row c.requires.1 in
    omega arith

pub overflow_add-result-5 : goal.overflow_add-result-5
overflow_add-result-5 c =
    let row : List ℕ = c.args.row.now in
    let b = row_bounds (hierarchy_descriptor Edition2015) row (hierarchy_fine row c.requires.1 c.requires.2) in
    let p = pid_bound row c.requires.1 in
    omega arith

pub overflow_cast-result-6 : goal.overflow_cast-result-6
overflow_cast-result-6 c =
    let row : List ℕ = c.args.row.now in
    let b = row_bounds (hierarchy_descriptor Edition2015) row (hierarchy_fine row c.requires.1 c.requires.2) in
    let p = pid_bound row c.requires.1 in
    let t = type_bound row c.requires.1 in
    let small : get_or row 9 0 * 128 + 64 + get_or row 10 0 < 256 = omega arith in
    record { fits = small }

pub overflow_add-result-6 : goal.overflow_add-result-6
overflow_add-result-6 c =
    let row : List ℕ = c.args.row.now in
    let b = row_bounds (hierarchy_descriptor Edition2015) row (hierarchy_fine row c.requires.1 c.requires.2) in
    let p = pid_bound row c.requires.1 in
    omega arith

pub overflow_cast-result-7 : goal.overflow_cast-result-7
overflow_cast-result-7 c =
    let row : List ℕ = c.args.row.now in
    let b = row_bounds (hierarchy_descriptor Edition2015) row (hierarchy_fine row c.requires.1 c.requires.2) in
    let p = pid_bound row c.requires.1 in
    let t = type_bound row c.requires.1 in
    let small : 192 + get_or row 11 0 < 256 = omega arith in
    record { fits = small }

pub returns : goal.returns
returns c = let start = c.before.before.before.before.before.before.before.before.before.before.before.before in hierarchy_row start.args.row.now start.requires.1 start.requires.2
