-- `packet_cases::lay_packets` is safe and ends: what is laid stays within the room, and the parts come to an end.
-- Assumes nothing.
use Rattle.std.proofs.Common.{◌≡◌, ◌≤◌, length}
use Rattle.packet_cases.proofs.recording.lay_packets.Given as goal

abbrev pub invariant-loop-part : goal.invariant-loop-part
invariant-loop-part l =
    (l.count ≤ length l.room)
    × (length l.room ≡ length l.initial.room)
    × goal.iterator-loop-part.can_next l.part-iterator
    × goal.iterator-loop-part.is_finite l.part-iterator
