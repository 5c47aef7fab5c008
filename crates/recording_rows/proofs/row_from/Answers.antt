-- `recording_rows::row_from` meets its contract: the packet's bytes are a part of the bytes. Assumes nothing.
use native.Mathlib.Omega.{arith}
use Prim.Native.Nat.{ℕ, ◌-◌}
use mathlib.Core.Path.{ap, ◌∙◌}
use mathlib.Core.List.{List}
use lib.ListN.{length}
use Rattle.scanning.proofs.Looking.{part_is_packet, packet_long}
use Rattle.recording_rows.specs.Again.{row_again}
use Rattle.recording_rows.proofs.row_from.Goals as goal

pub overflow_sub-from : goal.overflow_sub-from
overflow_sub-from c = omega (arith, c.requires.from)

pub overflow_mul-from : goal.overflow_mul-from
overflow_mul-from c = omega (arith, c.requires.within)

pub overflow_add-from : goal.overflow_add-from
overflow_add-from c = omega (arith, c.requires.within)

pub slice_bounds-row_again-end : goal.slice_bounds-row_again-end
slice_bounds-row_again-end c = omega (arith, c.requires.within)

pub row_again-requires : goal.row_again-requires
row_again-requires c =
    let a = c.args in
    ap length (part_is_packet a.bytes.now (a.number - a.first)) ∙ packet_long a.bytes.now (a.number - a.first) c.requires.within

pub returns : goal.returns
returns c =
    let a = c.args in
    c.row_again.ensures ∙ ap (λ (p : List ℕ). row_again a.table.now a.number p) (part_is_packet a.bytes.now (a.number - a.first))
