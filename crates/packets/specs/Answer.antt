-- The answer of reading a packet: its fields, or nothing where it is not whole.
-- Assumes nothing.
use Rattle.std.specs.Prelude.{Option}
use Rattle.packets.specs.declared.Packet.{Packet}

abbrev pub Answer : Type 0
Answer = Option Packet
