-- `packets::fields` meets its contract: what is read off each byte is what the tables say of the packet. Assumes nothing.
use Prim.Native.Nat.{ℕ}
use mathlib.Core.Path.{sym, ap₂, ◌∙◌}
use lib.ListN.{get_or}
use Rattle.packets.specs.declared.Adaptation.{Adaptation}
use Rattle.packets.proofs.FieldLaws.{packet_by, packet_of_bytes}
use Rattle.packets.proofs.fields.Goals as goal

pub returns : goal.returns
returns c =
    let l = c.args.packet.now in
    ap₂ (λ (pid : ℕ) (a : Adaptation). packet_by (get_or l 0 0) (get_or l 1 0) pid (get_or l 3 0) a)
    c.pid_of.ensures
    c.adaptation_field-adaptation.ensures
    ∙ sym (packet_of_bytes l (λ i. (c.shared_slice_known-9-1.given i).fits))
