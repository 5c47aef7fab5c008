-- `kept_packets::settle_one` meets its contract: the test picks the case. Assumes nothing.
use borrow.Author.Tests.{le-leb, lt-leb}
use native.Mathlib.Omega.{arith}
use Prim.Native.Nat.{◌*◌, ◌<◌}
use mathlib.Core.Path.{sym, ap, ◌∙◌}
use mathlib.Core.Bool.{Bool, cond}
use lib.Seq.{sets}
use Rattle.packets.specs.Reading.{packet_bytes}
use Rattle.scanning.specs.Events.{ending_at}
use Rattle.kept_packets.proofs.Settling.{ending_long}
use Rattle.kept_packets.proofs.settle_one.Goals as goal

pub returns-then-end-le-KEPT : goal.returns-then-end-le-KEPT
returns-then-end-le-KEPT c =
    let a = c.args in
    let small = le-leb a.end 1 c.if-end-le-KEPT.true in record {
      place = sym (ap (λ (t : Bool). cond t a.end 1) small);
      content = sym (ap (λ (t : Bool). cond t a.kept.now (sets a.kept.now (packet_bytes * a.slot) (ending_at a.bytes.now a.end))) small);
    }

pub overflow_sub-start : goal.overflow_sub-start
overflow_sub-start c = omega (arith, c.requires.1.whole_one c.if-end-le-KEPT.false)

pub slice_bounds-put_whole-end : goal.slice_bounds-put_whole-end
slice_bounds-put_whole-end c = omega (arith, c.requires.1.inside c.if-end-le-KEPT.false)

pub put_whole-requires : goal.put_whole-requires
put_whole-requires c =
    let a = c.args in
    let large : 1 < a.end = c.if-end-le-KEPT.false in
    let long = ending_long a.bytes.now a.end (c.requires.1.whole_one large) (c.requires.1.inside large) in
    omega (arith, long, c.requires.0)

pub returns : goal.returns
returns c =
    let a = c.args in
    let large = lt-leb a.end 1 c.if-end-le-KEPT.false in record {
      place = sym (ap (λ (t : Bool). cond t a.end 1) large);
      content = c.put_whole.ensures.content
          ∙ sym (ap (λ (t : Bool). cond t a.kept.now (sets a.kept.now (packet_bytes * a.slot) (ending_at a.bytes.now a.end))) large);
    }
