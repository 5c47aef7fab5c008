-- `row_bytes::extension_bytes` meets its contract: each byte is that of the tables at the row's numbers, which fit their fields.
-- Assumes nothing.
use Prim.Native.Nat.{ℕ, ◌+◌, ◌*◌, ◌/◌, ◌%◌, ◌<◌}
use mathlib.Core.List.{List}
use native.Mathlib.Omega.{arith}
use lib.ListN.{get_or}
use Rattle.extension.specs.Extension.{extension_head}
use Rattle.entry_rows.proofs.Judged.{type_bound, pid_bound, extension_fine}
use Rattle.entry_rows.proofs.Widths.{row_bounds}
use Rattle.row_bytes.proofs.Rows.{extension_front_lem}
use Rattle.row_bytes.proofs.extension_bytes.Goals as goal

pub overflow_cast-result : goal.overflow_cast-result
overflow_cast-result c =
    let row : List ℕ = c.args.row.now in
    let b = row_bounds extension_head row (extension_fine row c.requires.1 c.requires.2) in
    let p = pid_bound row c.requires.1 in
    let t = type_bound row c.requires.1 in
    let small : get_or row 0 0 < 256 = omega arith in
    record { fits = small }

pub overflow_add-result : goal.overflow_add-result
overflow_add-result c =
    let row : List ℕ = c.args.row.now in
    let b = row_bounds extension_head row (extension_fine row c.requires.1 c.requires.2) in
    let p = pid_bound row c.requires.1 in
    omega arith

pub overflow_cast-result-2 : goal.overflow_cast-result-2
overflow_cast-result-2 c =
    let row : List ℕ = c.args.row.now in
    let b = row_bounds extension_head row (extension_fine row c.requires.1 c.requires.2) in
    let p = pid_bound row c.requires.1 in
    let t = type_bound row c.requires.1 in
    let small : 224 + get_or row 1 0 / 256 < 256 = omega arith in
    record { fits = small }

pub overflow_cast-result-3 : goal.overflow_cast-result-3
overflow_cast-result-3 c =
    let row : List ℕ = c.args.row.now in
    let b = row_bounds extension_head row (extension_fine row c.requires.1 c.requires.2) in
    let p = pid_bound row c.requires.1 in
    let t = type_bound row c.requires.1 in
    let small : get_or row 1 0 % 256 < 256 = omega arith in
    record { fits = small }

pub overflow_add-result-2 : goal.overflow_add-result-2
overflow_add-result-2 c =
    let row : List ℕ = c.args.row.now in
    let b = row_bounds extension_head row (extension_fine row c.requires.1 c.requires.2) in
    let p = pid_bound row c.requires.1 in
    omega arith

pub overflow_cast-result-4 : goal.overflow_cast-result-4
overflow_cast-result-4 c =
    let row : List ℕ = c.args.row.now in
    let b = row_bounds extension_head row (extension_fine row c.requires.1 c.requires.2) in
    let p = pid_bound row c.requires.1 in
    let t = type_bound row c.requires.1 in
    let small : 9 + get_or row 15 0 < 256 = omega arith in
    record { fits = small }

pub overflow_add-result-3 : goal.overflow_add-result-3
overflow_add-result-3 c =
    let row : List ℕ = c.args.row.now in
    let b = row_bounds extension_head row (extension_fine row c.requires.1 c.requires.2) in
    let p = pid_bound row c.requires.1 in
    omega arith

pub overflow_cast-result-5 : goal.overflow_cast-result-5
overflow_cast-result-5 c =
    let row : List ℕ = c.args.row.now in
    let b = row_bounds extension_head row (extension_fine row c.requires.1 c.requires.2) in
    let p = pid_bound row c.requires.1 in
    let t = type_bound row c.requires.1 in
    let small : 7 + get_or row 15 0 < 256 = omega arith in
    record { fits = small }

pub overflow_cast-result-6 : goal.overflow_cast-result-6
overflow_cast-result-6 c =
    let row : List ℕ = c.args.row.now in
    let b = row_bounds extension_head row (extension_fine row c.requires.1 c.requires.2) in
    let p = pid_bound row c.requires.1 in
    let t = type_bound row c.requires.1 in
    let small : get_or row 12 0 / 256 < 256 = omega arith in
    record { fits = small }

pub overflow_cast-result-7 : goal.overflow_cast-result-7
overflow_cast-result-7 c =
    let row : List ℕ = c.args.row.now in
    let b = row_bounds extension_head row (extension_fine row c.requires.1 c.requires.2) in
    let p = pid_bound row c.requires.1 in
    let t = type_bound row c.requires.1 in
    let small : get_or row 12 0 % 256 < 256 = omega arith in
    record { fits = small }

pub overflow_mul-result : goal.overflow_mul-result
overflow_mul-result c =
    let row : List ℕ = c.args.row.now in
    let b = row_bounds extension_head row (extension_fine row c.requires.1 c.requires.2) in
    let p = pid_bound row c.requires.1 in
    omega arith

pub overflow_add-result-4 : goal.overflow_add-result-4
overflow_add-result-4 c =
    let row : List ℕ = c.args.row.now in
    let b = row_bounds extension_head row (extension_fine row c.requires.1 c.requires.2) in
    let p = pid_bound row c.requires.1 in
    omega arith

pub overflow_cast-result-8 : goal.overflow_cast-result-8
overflow_cast-result-8 c =
    let row : List ℕ = c.args.row.now in
    let b = row_bounds extension_head row (extension_fine row c.requires.1 c.requires.2) in
    let p = pid_bound row c.requires.1 in
    let t = type_bound row c.requires.1 in
    let small : get_or row 8 0 * 4 + get_or row 13 0 / 2 < 256 = omega arith in
    record { fits = small }

pub overflow_mul-result-2 : goal.overflow_mul-result-2
overflow_mul-result-2 c =
    let row : List ℕ = c.args.row.now in
    let b = row_bounds extension_head row (extension_fine row c.requires.1 c.requires.2) in
    let p = pid_bound row c.requires.1 in
    omega arith

pub overflow_mul-result-3 : goal.overflow_mul-result-3
overflow_mul-result-3 c =
    let row : List ℕ = c.args.row.now in
    let b = row_bounds extension_head row (extension_fine row c.requires.1 c.requires.2) in
    let p = pid_bound row c.requires.1 in
    omega arith

pub overflow_add-result-5 : goal.overflow_add-result-5
overflow_add-result-5 c =
    let row : List ℕ = c.args.row.now in
    let b = row_bounds extension_head row (extension_fine row c.requires.1 c.requires.2) in
    let p = pid_bound row c.requires.1 in
    omega arith

pub overflow_add-result-6 : goal.overflow_add-result-6
overflow_add-result-6 c =
    let row : List ℕ = c.args.row.now in
    let b = row_bounds extension_head row (extension_fine row c.requires.1 c.requires.2) in
    let p = pid_bound row c.requires.1 in
    omega arith

pub overflow_cast-result-9 : goal.overflow_cast-result-9
overflow_cast-result-9 c =
    let row : List ℕ = c.args.row.now in
    let b = row_bounds extension_head row (extension_fine row c.requires.1 c.requires.2) in
    let p = pid_bound row c.requires.1 in
    let t = type_bound row c.requires.1 in
    let small : get_or row 13 0 % 2 * 128 + get_or row 14 0 * 2 + get_or row 9 0 < 256 = omega arith in
    record { fits = small }

pub overflow_add-result-7 : goal.overflow_add-result-7
overflow_add-result-7 c =
    let row : List ℕ = c.args.row.now in
    let b = row_bounds extension_head row (extension_fine row c.requires.1 c.requires.2) in
    let p = pid_bound row c.requires.1 in
    omega arith

pub overflow_cast-result-10 : goal.overflow_cast-result-10
overflow_cast-result-10 c =
    let row : List ℕ = c.args.row.now in
    let b = row_bounds extension_head row (extension_fine row c.requires.1 c.requires.2) in
    let p = pid_bound row c.requires.1 in
    let t = type_bound row c.requires.1 in
    let small : 192 + get_or row 15 0 < 256 = omega arith in
    record { fits = small }

pub overflow_add-result-8 : goal.overflow_add-result-8
overflow_add-result-8 c =
    let row : List ℕ = c.args.row.now in
    let b = row_bounds extension_head row (extension_fine row c.requires.1 c.requires.2) in
    let p = pid_bound row c.requires.1 in
    omega arith

pub overflow_cast-result-11 : goal.overflow_cast-result-11
overflow_cast-result-11 c =
    let row : List ℕ = c.args.row.now in
    let b = row_bounds extension_head row (extension_fine row c.requires.1 c.requires.2) in
    let p = pid_bound row c.requires.1 in
    let t = type_bound row c.requires.1 in
    let small : 192 + get_or row 11 0 < 256 = omega arith in
    record { fits = small }

pub returns : goal.returns
returns c = let start = c.before.before.before.before.before.before.before.before.before.before.before.before in extension_front_lem start.args.row.now start.requires.1 start.requires.2
