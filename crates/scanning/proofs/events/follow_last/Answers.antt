-- `scanning::events::follow_last` meets its contract: the place says where the last packet stands. Assumes nothing.
use borrow.Author.Rules.{rules}
use borrow.Author.Tests.{eq-eqb, ne_eqb}
use Prim.Native.Nat.{ℕ, ◌+◌, ◌-◌, ◌*◌, ◌≤◌}
use mathlib.Core.Path.{sym, ap, ◌∙◌}
use mathlib.Core.Bool.{Bool, cond}
use mathlib.Core.List.{List}
use lib.ListN.{length, take, drop}
use Rattle.packets.specs.Reading.{packet_bytes}
use Rattle.continuity.specs.Following.{step_of}
use Rattle.scanning.specs.Events.{ending_at, kept_at}
use Rattle.scanning.proofs.Looking.{part_is_packet, place_inside}
use Rattle.scanning.proofs.events.follow_last.Goals as goal

pub slice_bounds-follow-end : goal.slice_bounds-follow-end
slice_bounds-follow-end c =
    let within : packet_bytes * c.args.slot + packet_bytes ≤ length c.args.kept.now = c.requires.0.of_kept c.if-end-eq-KEPT.true in
    search rules

pub returns-then-end-eq-KEPT : goal.returns-then-end-eq-KEPT
returns-then-end-eq-KEPT c =
    let a = c.args in
    c.follow.ensures
    ∙ ap (λ (b : List ℕ). step_of b a.packet.now) (part_is_packet a.kept.now a.slot)
    ∙ sym (ap (λ (t : Bool). step_of (cond t (kept_at a.kept.now a.slot) (ending_at a.bytes.now a.end)) a.packet.now) (eq-eqb a.end 1 c.if-end-eq-KEPT.true))

pub slice_bounds-follow-end-2 : goal.slice_bounds-follow-end-2
slice_bounds-follow-end-2 c =
    let within : c.args.end ≤ length c.args.bytes.now = place_inside c.requires.0 c.if-end-eq-KEPT.false in
    search rules

pub returns : goal.returns
returns c =
    let a = c.args in
    c.follow-2.ensures
    ∙ ap (λ (n : ℕ). step_of (take (a.end - n) (drop n a.bytes.now)) a.packet.now) c.start_of-start.ensures
    ∙ sym (ap (λ (t : Bool). step_of (cond t (kept_at a.kept.now a.slot) (ending_at a.bytes.now a.end)) a.packet.now) (ne_eqb a.end 1 c.if-end-eq-KEPT.false))
