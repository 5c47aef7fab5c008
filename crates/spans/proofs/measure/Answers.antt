-- `spans::measure` meets its contract. The invariant, what is known after some rows, and each turn are in Measuring. Assumes nothing.
use Prim.Native.Nat.{ℕ, ◌+◌}
use mathlib.Core.List.{[]}
use mathlib.Core.Path.{ap₂}
use native.Mathlib.Omega.{arith}
use lib.Dec.{leb}
use Rattle.clock.specs.Clock.{half}
use Rattle.rows.specs.Table.{table}
use Rattle.spans.proofs.Measuring.{least_most, measured_start, measured_more, measured_keys, measured_least, measured_greatest}
use Rattle.spans.proofs.measure.Goals as goal

pub loop-row-init : goal.loop-row-init
loop-row-init c = measured_start _ _ _

pub loop-row-preserved : goal.loop-row-preserved
loop-row-preserved c =
    let at = c.loop-row in
    let a = c.args in
    measured_more (table a.indices.now a.decodings.now []) a.closure a.keys.now at.row at.keys at.least at.greatest at.invariant
    c.loop-row-test.true (omega arith)
    c.start_of-start.result _
    c.start_of-start.ensures
    c.key_of-key.ensures _ (rw c.from.ensures at c.member-counts.ensures) _ _ c.lower-least.ensures c.raise-greatest.ensures

pub overflow_add-result : goal.overflow_add-result
overflow_add-result c =
    let a = c.args in
    omega (arith, c.loop-row.invariant.least_is, least_most (table a.indices.now a.decodings.now []) a.closure c.loop-row.row)

pub shape_of-keys : goal.shape_of-keys
shape_of-keys c = c.loop-row.invariant.long

pub returns : goal.returns
returns c =
    let a = c.args in
    let t = table a.indices.now a.decodings.now [] in
    let at = c.loop-row in record {
      keyed = measured_keys t a.closure a.keys.now at.row at.keys at.least at.greatest at.invariant c.loop-row-test.false (omega arith) (omega arith);
      wide = ap₂ (λ (low high : ℕ). leb (low + half) high)
          (measured_least t a.closure a.keys.now at.row at.keys at.least at.greatest at.invariant c.loop-row-test.false)
          (measured_greatest t a.closure a.keys.now at.row at.keys at.least at.greatest at.invariant c.loop-row-test.false);
    }
