-- `kept_packets::settle` meets its contract. The invariant: the last packets of the layers so far stand at their places. The measure is the number of layers left.
-- Assumes nothing.
use native.Mathlib.Omega.{arith}
use mathlib.Core.Path.{refl}
use Rattle.kept_packets.proofs.Settling.{settling_start, settling_room, settling_within, settling_turn, settling_end}
use Rattle.kept_packets.proofs.settle.Goals as goal

pub loop-slot-init : goal.loop-slot-init
loop-slot-init c = settling_start _ _ _ c.requires

pub settle_one-end-requires : goal.settle_one-end-requires
settle_one-end-requires c = (settling_room _ _ _ c.requires c.loop-slot.invariant (omega arith), settling_within _ _ _ c.requires c.loop-slot.invariant (omega arith))

pub loop-slot-preserved : goal.loop-slot-preserved
loop-slot-preserved c = settling_turn _ _ _ c.requires c.loop-slot.invariant (omega arith) c.settle_one-end.ensures.place c.settle_one-end.ensures.content refl

pub shape_of-kept : goal.shape_of-kept
shape_of-kept c = c.loop-slot.invariant.long

pub returns : goal.returns
returns c = settling_end _ _ _ c.requires c.loop-slot.invariant (omega arith)
