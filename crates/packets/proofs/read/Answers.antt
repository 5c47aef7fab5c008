-- `packets::read` meets its contract: bytes of another length than a packet's are not read. Assumes nothing.
use Rattle.std.specs.Prelude.{Some}
use borrow.Author.Tests.{eq-eqb, ne_eqb}
use mathlib.Core.Path.{ap, ◌∙◌}
use lib.ListN.{length}
use Rattle.packets.specs.Reading.{packet_bytes}
use Rattle.packets.specs.declared.Packet.{Packet}
use Rattle.packets.proofs.read.Goals as goal

pub returns-then-bytes-ne-PACKET_BYTES : goal.returns-then-bytes-ne-PACKET_BYTES
returns-then-bytes-ne-PACKET_BYTES c =
    let l = c.args.bytes.now in simp (ne_eqb (length l) packet_bytes c.if-bytes-ne-PACKET_BYTES.true)

pub returns : goal.returns
returns c =
    let l = c.args.bytes.now in
    ap (λ (p : Packet). Some p) c.fields.ensures ∙ simp (eq-eqb (length l) packet_bytes c.if-bytes-ne-PACKET_BYTES.false)
