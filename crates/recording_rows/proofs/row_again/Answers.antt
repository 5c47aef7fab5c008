-- `recording_rows::row_again` meets its contract: the layer by two bytes of the packet, and its header read from where the payload starts. Assumes nothing.
use native.Mathlib.Omega.{arith}
use Prim.Native.Nat.{ℕ}
use mathlib.Core.Path.{◌≡◌, sym, ap, ap₂, ◌∙◌}
use mathlib.Core.List.{List}
use lib.ListN.{get_or, drop}
use Rattle.combinators.specs.Lists.{part_to_end}
use Rattle.pes_reader.specs.Answer.{Answer}
use Rattle.pes_reader.specs.Reading.{read_of}
use Rattle.packets.specs.Reading.{packet_of}
use Rattle.packets.specs.Judging.{payload_at}
use Rattle.scanning.specs.Events.{layer_of}
use Rattle.scanning.proofs.Looking.{layer_of_bytes}
use Rattle.recording_rows.specs.Again.{row_of}
use Rattle.recording_rows.proofs.Laying.{past_the_end}
use Rattle.recording_rows.proofs.row_again.Goals as goal

pub bounds-table-pid_of : goal.bounds-table-pid_of
bounds-table-pid_of c = omega (arith, c.pid_of.ensures, (c.shared_slice_known-3-1.given 2).fits)

pub returns-then-at-gt-PACKET_BYTES : goal.returns-then-at-gt-PACKET_BYTES
returns-then-at-gt-PACKET_BYTES c =
    let a = c.args in
    let packet : List ℕ = a.packet.now in
    let at : c.payload_at-at.result ≡ payload_at (packet_of packet) = c.payload_at-at.ensures ∙ ap payload_at c.fields.ensures in
    let layer : get_or a.table.now c.pid_of.result 0 ≡ layer_of a.table.now packet =
    ap (λ (n : ℕ). get_or a.table.now n 0) c.pid_of.ensures ∙ sym (layer_of_bytes a.table.now packet (λ i. (c.shared_slice_known-3-1.given i).fits)) in
    c.row_of.ensures
    ∙ ap₂ (λ (l : ℕ) (r : Answer). row_of l a.number r) layer
    (c.read.ensures ∙ ap read_of (part_to_end packet 188 ∙ past_the_end packet c.payload_at-at.result c.requires c.if-at-gt-PACKET_BYTES.true ∙ ap (λ (n : ℕ). drop n packet) at))

pub returns : goal.returns
returns c =
    let a = c.args in
    let packet : List ℕ = a.packet.now in
    let at : c.payload_at-at.result ≡ payload_at (packet_of packet) = c.payload_at-at.ensures ∙ ap payload_at c.fields.ensures in
    let layer : get_or a.table.now c.pid_of.result 0 ≡ layer_of a.table.now packet =
    ap (λ (n : ℕ). get_or a.table.now n 0) c.pid_of.ensures ∙ sym (layer_of_bytes a.table.now packet (λ i. (c.shared_slice_known-3-1.given i).fits)) in
    c.row_of-2.ensures
    ∙ ap₂ (λ (l : ℕ) (r : Answer). row_of l a.number r) layer
    (c.read-2.ensures ∙ ap read_of (part_to_end packet c.payload_at-at.result ∙ ap (λ (n : ℕ). drop n packet) at))
