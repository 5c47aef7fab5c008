-- `continuity::repeated` meets its contract: the two parts around the PCR, or the packets whole. Assumes nothing.
use native.Mathlib.Omega.{arith}
use mathlib.Core.Path.{◌≡◌, sym, ap, ap₂, ◌∙◌}
use mathlib.Core.Bool.{Bool, cond, ◌&&◌}
use lib.ListN.{length, take, drop}
use lib.Seq.{length-take-le}
use Rattle.combinators.specs.Lists.{part_to_end}
use Rattle.continuity.specs.Following.{same_bytes, repeats}
use Rattle.continuity.proofs.repeated.Goals as goal

pub returns-then-not-pcrs : goal.returns-then-not-pcrs
returns-then-not-pcrs c =
    let packet = c.args.packet.now in
    let before = c.args.before.now in
    c.same.ensures ∙ ap (λ (t : Bool). repeats t packet before) (sym (c.if-not-pcrs.true))

pub slice_bounds-same-end : goal.slice_bounds-same-end
slice_bounds-same-end c =
    sym (length-take-le 6 c.args.packet.now (omega arith))

pub slice_bounds-same-end-2 : goal.slice_bounds-same-end-2
slice_bounds-same-end-2 c =
    sym (length-take-le 6 c.args.before.now (omega arith))

pub same-requires-2 : goal.same-requires-2
same-requires-2 c =
    let packet = c.args.packet.now in
    let before = c.args.before.now in
    let one : length (take 6 packet) ≡ 6 = length-take-le 6 packet (omega arith) in
    let other : length (take 6 before) ≡ 6 = length-take-le 6 before (omega arith) in
    (omega arith, omega arith)

pub returns-then-not-same : goal.returns-then-not-same
returns-then-not-same c =
    let packet = c.args.packet.now in
    let before = c.args.before.now in
    sym
    (ap₂ (λ (t s : Bool). cond t (s && same_bytes (drop 12 packet) (drop 12 before)) (same_bytes packet before))
    (c.if-not-pcrs.false)
    (sym c.same-2.ensures ∙ c.if-not-same.true))

pub returns : goal.returns
returns c =
    let packet = c.args.packet.now in
    let before = c.args.before.now in
    c.same-3.ensures
    ∙ ap₂ same_bytes (part_to_end packet 12) (part_to_end before 12)
    ∙ sym
    (ap₂ (λ (t s : Bool). cond t (s && same_bytes (drop 12 packet) (drop 12 before)) (same_bytes packet before))
    (c.if-not-pcrs.false)
    (sym c.same-2.ensures ∙ c.if-not-same.false))
