-- `packets::adaptation_outside` meets its contract: the test of the control picks the case. Assumes nothing.
use borrow.Author.Tests.{le-leb, lt-leb}
use Rattle.packets.proofs.adaptation_outside.Goals as goal

pub returns-then-packet-lt2 : goal.returns-then-packet-lt2
returns-then-packet-lt2 c =
    simp (lt-leb 2 c.args.packet.adaptation_field_control c.if-packet-lt2.true)

pub returns : goal.returns
returns c =
    simp (c.from.ensures, le-leb 2 c.args.packet.adaptation_field_control c.if-packet-lt2.false)
