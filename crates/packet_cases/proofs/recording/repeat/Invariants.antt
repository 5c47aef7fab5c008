-- `packet_cases::repeat` is safe: what is laid stays within the room.
-- Assumes nothing.
use Rattle.std.proofs.Common.{◌≡◌, ◌≤◌, length}
use Rattle.packet_cases.proofs.recording.repeat.Given as goal

abbrev pub invariant-loop : goal.invariant-loop
invariant-loop l = (l.count ≤ l.end) × (l.end ≤ length l.room) × (length l.room ≡ length l.initial.room)
