-- `row_weighing::weigh_row` meets its contract: the row's size is added, and its number compared with the lowest so far.
-- Assumes nothing.
use Prim.Native.Nat.{ℕ, ◌+◌}
use mathlib.Core.Path.{◌∙◌, ap, ap₂}
use native.Mathlib.Omega.{arith}
use Rattle.loop_faults.specs.Conditions.{lower_of}
use Rattle.loop_faults.specs.declared.Fault.{Fault}
use Rattle.row_weighing.proofs.weigh_row.Goals as goal

pub size_in-requires : goal.size_in-requires
size_in-requires c = let start = c.before in (start.requires.0, start.requires.1)

pub overflow_add-size : goal.overflow_add-size
overflow_add-size c =
    let small = c.requires.2 in
    let few = c.requires.3 in
    omega (arith, c.size_in.ensures.1)

pub mark_row-number-requires : goal.mark_row-number-requires
mark_row-number-requires c = let start = c.before.before.before.before.before in (start.requires.0, start.requires.1)

pub returns : goal.returns
returns c =
    let a = c.args in
    let small = c.requires.2 in
    let size = c.size_in in
    let next = c.mark_row-number in
    let fault = c.lower.ensures ∙ ap (λ (n : ℕ). lower_of a.so_far.fault n a.place) next.ensures.value.0 in record {
      value = (ap₂ (λ (n : ℕ) (f : Fault). record { size = a.so_far.size + n; fault = f }) size.ensures.0 fault, omega (arith, size.ensures.1), next.ensures.value.1);
      pids_after = next.ensures.pids_after;
    }
