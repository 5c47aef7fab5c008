-- A packet whose adaptation field is within it has its payload within it.
-- Assumes nothing.
use Prim.Native.Nat.{◌+◌, ◌≤◌}
use mathlib.Core.Path.{◌≡◌}
use mathlib.Core.Bool.{Bool, true, false, cond, ◌&&◌}
use native.Mathlib.Omega.{arith}
use borrow.Author.Tests.{ltb-false}
use lib.Dec.{ltb}
use Rattle.packets.specs.Reading.{packet_bytes, with_adaptation}
use Rattle.packets.specs.Judging.{payload_at, adaptation_outside}
use Rattle.packets.specs.declared.Packet.{Packet}

pub payload_within : (p : Packet) → adaptation_outside p ≡ false → payload_at p ≤ packet_bytes
payload_within p e = by_control (with_adaptation p.adaptation_field_control) e
  where
    by_control : (t : Bool) → t && ltb 188 (5 + p.adaptation.adaptation_field_length) ≡ false
        → cond t (5 + p.adaptation.adaptation_field_length) 4 ≤ 188
    by_control true e = ltb-false 188 (5 + p.adaptation.adaptation_field_length) e
    by_control false e = omega arith
