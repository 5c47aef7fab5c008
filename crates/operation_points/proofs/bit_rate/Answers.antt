-- `operation_points::bit_rate` meets its contract. Assumes nothing.
use mathlib.Core.Path.{◌≡◌, ap₂}
use mathlib.Core.Bool.{true, false}
use Prim.Native.Nat.{ℕ, ◌+◌, ◌*◌}
use native.Mathlib.Omega.{arith}
use lib.ListN.{length}
use Rattle.operation_points.proofs.Judging.{room_there}
use Rattle.operation_points.proofs.bit_rate.Goals as goal

pub returns-then-not-there : goal.returns-then-not-there
returns-then-not-there c =
    let a = c.args in
    let absent : a.there ≡ false = c.if-not-there.true in
    rw absent

pub bounds-left-at : goal.bounds-left-at
bounds-left-at c = omega (arith, room_there c.args.there c.args.at 3 (length c.args.left.now) (c.if-not-there.false) c.requires)

pub overflow_mul-result : goal.overflow_mul-result
overflow_mul-result c = omega (arith, c.shared_slice_known-2-1.given c.args.at)

pub bounds-left-at-2 : goal.bounds-left-at-2
bounds-left-at-2 c = omega (arith, room_there c.args.there c.args.at 3 (length c.args.left.now) (c.if-not-there.false) c.requires)

pub overflow_mul-result-2 : goal.overflow_mul-result-2
overflow_mul-result-2 c = omega (arith, c.shared_slice_known-3-1.given (c.args.at + 1))

pub overflow_add-result : goal.overflow_add-result
overflow_add-result c = omega (arith, c.shared_slice_known-3-1.given (c.args.at + 1), c.shared_slice_known-2-1.given c.args.at)

pub bounds-left-at-3 : goal.bounds-left-at-3
bounds-left-at-3 c = omega (arith, room_there c.args.there c.args.at 3 (length c.args.left.now) (c.if-not-there.false) c.requires)

pub overflow_add-result-2 : goal.overflow_add-result-2
overflow_add-result-2 c = omega (arith, c.shared_slice_known-4-1.given (c.args.at + 2), c.shared_slice_known-3-1.given (c.args.at + 1), c.shared_slice_known-2-1.given c.args.at)

pub returns : goal.returns
returns c =
    let a = c.args in
    let there : a.there ≡ true = c.if-not-there.false in
    rw there
    (ap₂ (λ (x y : ℕ). x + y) (ap₂ (λ (x y : ℕ). x * 65536 + y * 256) c.from.ensures c.from-2.ensures) c.from-3.ensures)
