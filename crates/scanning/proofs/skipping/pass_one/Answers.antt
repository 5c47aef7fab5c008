-- `scanning::skipping::pass_one` meets its contract: a packet on no layer's PID gives nothing, and so does an ordinary one. Assumes nothing.
use native.Mathlib.Omega.{arith}
use Prim.Native.Nat.{ℕ, ◌+◌, ◌-◌, ◌*◌, ◌≤◌}
use mathlib.Core.Path.{sym, ap, ◌∙◌}
use lib.ListN.{length, get_or, take, drop}
use Rattle.packets.specs.Reading.{packet_bytes}
use Rattle.scanning.proofs.Looking.{part_is_packet, place_inside, passes_none, passes_other, passes_ordinary}
use Rattle.scanning.proofs.skipping.pass_one.Goals as goal

pub returns-then-packet-ne71 : goal.returns-then-packet-ne71
returns-then-packet-ne71 c =
    let a = c.args in
    passes_none a.table.now a.kept.now a.bytes.now a.ends.now a.step (a.step + 1) c.requires.1 (omega arith)

pub bounds-table-pid_of : goal.bounds-table-pid_of
bounds-table-pid_of c = omega (arith, c.pid_of.ensures, (c.shared_slice_known-5-1.given 2).fits)

pub returns-then-layer-gt63 : goal.returns-then-layer-gt63
returns-then-layer-gt63 c =
    let a = c.args in
    let packet = take (packet_bytes * a.step + packet_bytes - packet_bytes * a.step) (drop (packet_bytes * a.step) a.bytes.now) in
    let layer = get_or a.table.now c.pid_of.result 0 in
    passes_other a.table.now a.kept.now a.bytes.now a.ends.now c.requires.1 a.step (a.step + 1) (omega arith) packet (part_is_packet a.bytes.now a.step)
    (λ i. (c.shared_slice_known-3-1.given i).fits) c.if-packet-ne71.false layer (ap (λ (n : ℕ). get_or a.table.now n 0) c.pid_of.ensures) c.if-layer-gt63.true

pub returns-then-end-lt-PACKET_BYTES : goal.returns-then-end-lt-PACKET_BYTES
returns-then-end-lt-PACKET_BYTES c =
    let a = c.args in
    passes_none a.table.now a.kept.now a.bytes.now a.ends.now a.step (a.step + 1) c.requires.1 (omega arith)

pub bounds-bytes-end : goal.bounds-bytes-end
bounds-bytes-end c =
    let a = c.args in
    let layer = c.from-slot.result in
    let inside : get_or a.ends.now layer 0 ≤ length a.bytes.now = place_inside (c.requires.1 layer) (λ e. omega arith) in
    omega arith

pub returns-then-not-ordinary_after : goal.returns-then-not-ordinary_after
returns-then-not-ordinary_after c =
    let a = c.args in
    passes_none a.table.now a.kept.now a.bytes.now a.ends.now a.step (a.step + 1) c.requires.1 (omega arith)

pub returns : goal.returns
returns c =
    let a = c.args in
    let packet = take (packet_bytes * a.step + packet_bytes - packet_bytes * a.step) (drop (packet_bytes * a.step) a.bytes.now) in
    let layer = c.from-slot.result in
    passes_ordinary a.table.now a.kept.now a.bytes.now a.ends.now c.requires.1 a.step (a.step + 1) (omega arith) packet (part_is_packet a.bytes.now a.step)
    (λ i. (c.shared_slice_known-3-1.given i).fits) c.if-packet-ne71.false layer (c.from-slot.ensures ∙ ap (λ (n : ℕ). get_or a.table.now n 0) c.pid_of.ensures) (omega (arith, c.from-slot.ensures, c.if-layer-gt63.false))
    (omega (arith, c.requires.0)) (λ i. (c.shared_slice_known-8-1.given i).fits) c.if-end-lt-PACKET_BYTES.false
    (sym c.ordinary_after.ensures ∙ c.if-not-ordinary_after.false)
