-- `loop_faults::mark_next` meets its contract: the marks are read and set at the entry's PID and at its record's slot.
-- Assumes nothing.
use mathlib.Core.Path.{◌∙◌, ap}
use Prim.Native.Nat.{ℕ}
use mathlib.Core.Bool.{Bool, true, false, ◌&&◌}
use mathlib.Core.List.{List}
use lib.ListN.{get_or, set}
use Rattle.combinators.specs.Lists.{first_true}
use Rattle.loop_faults.specs.Conditions.{slot_of}
use Rattle.loop_faults.specs.Outlined.{tests}
use Rattle.loop_faults.proofs.Marked.{slot_below}
use Rattle.loop_faults.proofs.mark_next.Goals as goal

pub bounds-indices-slot : goal.bounds-indices-slot
bounds-indices-slot c =
    let s = c.args.outline in
    rw c.slot_of-slot.ensures.0 (slot_below s.stream_type s.«record» c.slot_of-slot.ensures.1)

pub bounds-indices-slot-2 : goal.bounds-indices-slot-2
bounds-indices-slot-2 c =
    let s = c.args.outline in
    rw c.slot_of-slot.ensures.0 (slot_below s.stream_type s.«record» c.slot_of-slot.ensures.1)

pub returns : goal.returns
returns c =
    let a = c.args in
    let slot = c.slot_of-slot in
    let layer = c.is_layer in
    let pids : List Bool = a.pids.now in
    let indices : List Bool = a.indices.now in
    let number = (rw c.from-pid.ensures at c.lowest_fault-number.ensures)
    ∙ ap (λ (i : ℕ). first_true (tests a.given (get_or pids a.outline.pid false) (layer.result && get_or indices i false) a.outline)) slot.ensures.0
    ∙ ap (λ (b : Bool). first_true (tests a.given (get_or pids a.outline.pid false) (b && get_or indices (slot_of a.outline.stream_type a.outline.«record») false) a.outline)) layer.ensures in record {
      value = (number, slot.ensures.1);
      pids_after = (ap (λ (i : ℕ). set pids i true) c.from-pid.ensures, ap (λ (i : ℕ). set indices i true) slot.ensures.0);
    }
