-- `scanning::events::look_at` meets its contract: each test of a byte is the test of the packet's field. Assumes nothing.
use native.Mathlib.Omega.{arith}
use Prim.Native.Nat.{ℕ, ◌+◌, ◌-◌, ◌*◌, ◌≤◌}
use mathlib.Core.Path.{◌≡◌, sym, ap, subst, ◌∙◌}
use lib.ListN.{length, get_or, set, take, drop}
use Rattle.packets.specs.Reading.{packet_bytes}
use Rattle.continuity.specs.declared.Step.{Step}
use Rattle.continuity.specs.Following.{step_of}
use Rattle.scanning.specs.Events.{last_by, step_event, start_in, last_at, lasts_of, LastWithin}
use Rattle.scanning.proofs.Looking.{start_within, part_is_packet, packet_long, looked_lost, looked_other, looked_on, last_by_within, next_within, ends_set}
use Rattle.scanning.proofs.events.look_at.Goals as goal

pub returns-then-packet-ne71 : goal.returns-then-packet-ne71
returns-then-packet-ne71 c =
    let a = c.args in
    let both = looked_lost a.table.now a.kept.now a.bytes.now a.ends.now a.step a.number (take (packet_bytes * a.step + packet_bytes - packet_bytes * a.step) (drop (packet_bytes * a.step) a.bytes.now)) (part_is_packet a.bytes.now a.step)
    (λ i. (c.shared_slice_known-3-1.given i).fits) c.if-packet-ne71.true in record {
      gives = both.0;
      lasts = both.1;
      within = c.requires.1;
    }

pub bounds-table-pid_of : goal.bounds-table-pid_of
bounds-table-pid_of c = omega (arith, c.pid_of.ensures, (c.shared_slice_known-5-1.given 2).fits)

pub returns-then-layer-gt63 : goal.returns-then-layer-gt63
returns-then-layer-gt63 c =
    let a = c.args in
    let both = looked_other a.table.now a.kept.now a.bytes.now a.ends.now a.step a.number (take (packet_bytes * a.step + packet_bytes - packet_bytes * a.step) (drop (packet_bytes * a.step) a.bytes.now)) (part_is_packet a.bytes.now a.step)
    (λ i. (c.shared_slice_known-3-1.given i).fits) c.if-packet-ne71.false
    (get_or a.table.now c.pid_of.result 0) (ap (λ (n : ℕ). get_or a.table.now n 0) c.pid_of.ensures) c.if-layer-gt63.true in record {
      gives = both.0;
      lasts = both.1;
      within = c.requires.1;
    }

pub follow_last-given-requires : goal.follow_last-given-requires
follow_last-given-requires c =
    let a = c.args in
    let packet = take (packet_bytes * a.step + packet_bytes - packet_bytes * a.step) (drop (packet_bytes * a.step) a.bytes.now) in
    let long : length packet ≡ 188 = ap length (part_is_packet a.bytes.now a.step) ∙ packet_long a.bytes.now a.step c.requires.0 in
    (c.requires.1 c.from-slot.result, omega (arith, c.from-slot.ensures, c.if-layer-gt63.false), long)

pub step_event-requires : goal.step_event-requires
step_event-requires c =
    let a = c.args in
    let packet = take (packet_bytes * a.step + packet_bytes - packet_bytes * a.step) (drop (packet_bytes * a.step) a.bytes.now) in
    let layer = c.from-slot.result in
    let before = last_at a.kept.now a.bytes.now layer (get_or a.ends.now layer 0) in
    let long : length packet ≡ 188 = ap length (part_is_packet a.bytes.now a.step) ∙ packet_long a.bytes.now a.step c.requires.0 in
    subst (λ (s : Step). start_in s ≤ length packet) (sym c.follow_last-given.ensures) (subst (λ (n : ℕ). start_in (step_of before packet) ≤ n) (sym long) (start_within before packet))

pub returns : goal.returns
returns c =
    let a = c.args in
    let packet = take (packet_bytes * a.step + packet_bytes - packet_bytes * a.step) (drop (packet_bytes * a.step) a.bytes.now) in
    let layer = c.from-slot.result in
    let end = get_or a.ends.now layer 0 in
    let both = looked_on a.table.now a.kept.now a.bytes.now a.ends.now a.step a.number packet (part_is_packet a.bytes.now a.step)
    (λ i. (c.shared_slice_known-3-1.given i).fits) c.if-packet-ne71.false
    layer (c.from-slot.ensures ∙ ap (λ (n : ℕ). get_or a.table.now n 0) c.pid_of.ensures) (omega (arith, c.from-slot.ensures, c.if-layer-gt63.false)) in
    let step : c.follow_last-given.result ≡ step_of (last_at a.kept.now a.bytes.now layer end) packet = c.follow_last-given.ensures in
    let after : c.end_after.result ≡ last_by (step_of (last_at a.kept.now a.bytes.now layer end) packet) end (packet_bytes * a.step + packet_bytes) =
    c.end_after.ensures ∙ ap (λ (s : Step). last_by s end (packet_bytes * a.step + packet_bytes)) step in record {
      gives = c.step_event.ensures
          ∙ ap (λ (l : ℕ). step_event l a.number packet c.follow_last-given.result) (sym c.from-slot.ensures)
          ∙ ap (step_event layer a.number packet) step
          ∙ both.0;
      lasts = ap (λ (e : ℕ). lasts_of a.kept.now a.bytes.now (set a.ends.now layer e)) after ∙ both.1;
      within = ends_set a.kept.now a.bytes.now a.ends.now layer c.end_after.result
          (subst (LastWithin a.kept.now a.bytes.now layer) (sym c.end_after.ensures)
          (last_by_within c.follow_last-given.result (c.requires.1 layer) (next_within a.kept.now a.bytes.now layer a.step c.requires.0)))
          c.requires.1;
    }
