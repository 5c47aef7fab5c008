-- `scanning::skipping::pass_run` meets its contract: the packet right before is the last one on its layer's PID, and the run that starts with it is passed over.
-- Assumes nothing.
use native.Mathlib.Omega.{arith}
use Prim.Native.Nat.{ℕ, ◌+◌, ◌-◌, ◌*◌}
use mathlib.Core.Path.{◌≡◌, ap, subst, ◌∙◌}
use lib.ListN.{get_or, set}
use Rattle.packets.specs.Reading.{packet_bytes}
use Rattle.scanning.specs.Events.{Passes}
use Rattle.scanning.proofs.Looking.{passes_none, passes_run}
use Rattle.scanning.proofs.skipping.pass_run.Goals as goal

pub returns-then-second-ge64 : goal.returns-then-second-ge64
returns-then-second-ge64 c =
    let a = c.args in
    passes_none a.table.now a.kept.now a.bytes.now a.ends.now a.from a.packets c.requires.3 (omega arith)

pub bounds-table-pid_of : goal.bounds-table-pid_of
bounds-table-pid_of c = omega (arith, c.pid_of.ensures, (c.shared_slice_known-4-1.given (packet_bytes * (c.args.from - 1) + 2)).fits)

pub returns-then-layer-gt63 : goal.returns-then-layer-gt63
returns-then-layer-gt63 c =
    let a = c.args in
    passes_none a.table.now a.kept.now a.bytes.now a.ends.now a.from a.packets c.requires.3 (omega arith)

pub returns-then-end-at : goal.returns-then-end-at
returns-then-end-at c =
    let a = c.args in
    passes_none a.table.now a.kept.now a.bytes.now a.ends.now a.from a.packets c.requires.3 (omega arith)

pub returns : goal.returns
returns c =
    let a = c.args in
    let before = a.from - 1 in
    let layer = c.from-slot.result in
    let from : before + 1 ≡ a.from = omega arith in
    subst (λ (n : ℕ). Passes a.table.now a.kept.now a.bytes.now a.ends.now n a.packets (c.run_from-last.result + 1) (set a.ends.now layer (packet_bytes * c.run_from-last.result + packet_bytes))) from
    (passes_run a.table.now a.kept.now a.bytes.now a.ends.now c.requires.3 before a.packets (get_or a.bytes.now (packet_bytes * before + 1) 0) (get_or a.bytes.now (packet_bytes * before + 2) 0) layer
    (omega (arith, c.if-second-ge64.false)) (c.from-slot.ensures ∙ ap (λ (n : ℕ). get_or a.table.now n 0) c.pid_of.ensures) (omega (arith, c.from-slot.ensures, c.if-layer-gt63.false)) c.requires.2
    (λ i. (c.shared_slice_known-4-1.given i).fits) c.if-end-at.false c.run_from-last.ensures.run c.run_from-last.ensures.inside)
