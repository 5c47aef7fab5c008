-- `unit_starts::walk` meets its contract. The invariant: what is left, from what was found so far, gives what is found in all, and the packets of the rows so far
-- are noted. The measure is the number of packets left. Assumes nothing.
use native.Mathlib.Omega.{arith}
use Prim.Native.Nat.{◌/◌}
use mathlib.Core.Path.{ap, ◌∙◌}
use mathlib.Core.List.{map}
use lib.ListN.{length}
use lib.Seq.{length-sets}
use Rattle.unit_starts.specs.Finding.{packet_in}
use Rattle.unit_starts.proofs.Walking.{walking_start, walking_past, walking_turn, walking_end}
use Rattle.unit_starts.proofs.walk.Goals as goal

pub loop-step-init : goal.loop-step-init
loop-step-init c =
    let a = c.args in
    walking_start a.table.now a.kept.now a.bytes.now a.first (length a.bytes.now / 188) a.found a.ends.now a.starts.now
    c.requires.3 c.requires.2

pub skip-at-requires : goal.skip-at-requires
skip-at-requires c = (omega arith, omega arith, c.loop-step.invariant.ends_within)

pub shape_of-starts-then-packets-at : goal.shape_of-starts-then-packets-at
shape_of-starts-then-packets-at c =
    ap length c.loop-step.invariant.content ∙ length-sets c.args.starts.now c.args.found.rows (map packet_in c.loop-step.invariant.done)

pub returns-then-packets-at : goal.returns-then-packets-at
returns-then-packets-at c =
    let a = c.args in
    walking_end a.table.now a.kept.now a.bytes.now a.first (length a.bytes.now / 188) a.found a.ends.now a.starts.now (walking_past a.table.now a.kept.now a.bytes.now a.first (length a.bytes.now / 188) a.found a.ends.now a.starts.now (omega arith) c.skip-at.new.ends c.loop-step.invariant c.skip-at.ensures) c.if-packets-at.true c.requires.0

pub overflow_add-number : goal.overflow_add-number
overflow_add-number c = omega (arith, c.requires.1)

pub look_at-given-requires : goal.look_at-given-requires
look_at-given-requires c = (omega arith, c.skip-at.ensures.within)

pub note_start-requires : goal.note_start-requires
note_start-requires c = tt

pub note-so_far-requires : goal.note-so_far-requires
note-so_far-requires c = omega (arith, c.loop-step.invariant.rows_few, c.requires.1)

pub loop-step-smaller : goal.loop-step-smaller
loop-step-smaller c = omega (arith, c.skip-at.ensures.onward)

pub loop-step-preserved : goal.loop-step-preserved
loop-step-preserved c =
    let a = c.args in
    walking_turn a.table.now a.kept.now a.bytes.now a.first (length a.bytes.now / 188) a.found a.ends.now a.starts.now (omega arith) c.look_at-given.new.ends c.look_at-given.result
    (walking_past a.table.now a.kept.now a.bytes.now a.first (length a.bytes.now / 188) a.found a.ends.now a.starts.now (omega arith) c.skip-at.new.ends c.loop-step.invariant c.skip-at.ensures)
    (omega arith) c.look_at-given.ensures.gives c.look_at-given.ensures.lasts c.look_at-given.ensures.within c.note_start.ensures c.note-so_far.ensures

pub shape_of-starts : goal.shape_of-starts
shape_of-starts c =
    ap length c.loop-step.invariant.content ∙ length-sets c.args.starts.now c.args.found.rows (map packet_in c.loop-step.invariant.done)

pub returns : goal.returns
returns c =
    let a = c.args in
    walking_end a.table.now a.kept.now a.bytes.now a.first (length a.bytes.now / 188) a.found a.ends.now a.starts.now c.loop-step.invariant (omega arith) c.requires.0
