-- `unit_starts::judge` meets its contract: the walk over the whole packets, and 30 for a last part of one. Assumes nothing.
use native.Mathlib.Omega.{arith}
use Prim.Native.Nat.{◌*◌, ◌/◌, ◌≤◌}
use mathlib.Core.Path.{sym, subst}
use lib.ListN.{length}
use lib.Seq.{length-take-le}
use Rattle.scanning.proofs.Looking.{ends_none}
use Rattle.unit_starts.specs.declared.Found.{Found}
use Rattle.unit_starts.proofs.Running.{whole_part}
use Rattle.unit_starts.proofs.Walking.{judged_few, judged_part, judged_whole}
use Rattle.unit_starts.proofs.judge.Goals as goal

pub slice_bounds-walk-end-2 : goal.slice_bounds-walk-end-2
slice_bounds-walk-end-2 c =
    let a = c.args in
    let within : 188 * (length a.bytes.now / 188) ≤ length a.bytes.now = omega arith in
    sym (length-take-le (188 * (length a.bytes.now / 188)) a.bytes.now within)

pub nothing-requires : goal.nothing-requires
nothing-requires c = tt

pub walk-found-requires : goal.walk-found-requires
walk-found-requires c =
    let a = c.args in
    let within : 188 * (length a.bytes.now / 188) ≤ length a.bytes.now = omega arith in
    let size = length-take-le (188 * (length a.bytes.now / 188)) a.bytes.now within in
    (whole_part a.bytes.now, omega (arith, size), subst (λ (f : Found). f.rows ≤ 0) (sym c.nothing.ensures) (omega arith), ends_none _ _ 64)

pub note-requires : goal.note-requires
note-requires c =
    let a = c.args in
    let within : 188 * (length a.bytes.now / 188) ≤ length a.bytes.now = omega arith in
    let few = judged_few a.table.now _ a.bytes.now (length a.bytes.now / 188) within c.nothing.ensures c.walk-found.ensures in
    omega (arith, few)

pub returns-then-whole-bytes : goal.returns-then-whole-bytes
returns-then-whole-bytes c =
    let a = c.args in
    let within : 188 * (length a.bytes.now / 188) ≤ length a.bytes.now = omega arith in
    let all_of_it = judged_part a.table.now _ a.bytes.now (length a.bytes.now / 188) within c.nothing.ensures c.walk-found.ensures c.if-whole-bytes.true (omega arith) c.note.ensures in record {
      finds = all_of_it.0;
      notes = all_of_it.1;
    }

pub returns : goal.returns
returns c =
    let a = c.args in
    let within : 188 * (length a.bytes.now / 188) ≤ length a.bytes.now = omega arith in
    let all_of_it = judged_whole a.table.now _ a.bytes.now (length a.bytes.now / 188) within c.nothing.ensures c.walk-found.ensures (omega (arith, c.if-whole-bytes.false)) in record {
      finds = all_of_it.0;
      notes = all_of_it.1;
    }
