-- `stamps::pts_and_dts` meets its contract: the test of PTS_DTS_flags picks the case of the definition, and each field is read
-- by its own function. Assumes nothing.
use borrow.Author.Tests.{ne_eqb}
use native.Mathlib.Omega.{arith}
use Prim.Native.Nat.{ℕ, ◌+◌, ◌*◌, ◌≤◌}
use mathlib.Core.Path.{ap, ap₂, sym, subst, ◌∙◌}
use mathlib.Core.Bool.{Bool, cond}
use lib.ListN.{length, drop, length-drop}
use Rattle.combinators.specs.Lists.{part_to_end}
use Rattle.stamps.specs.Tables.{pts_alone, pts_before_dts, dts}
use Rattle.stamps.specs.Stamps.{dts_flag, stamp_of, with_dts, without_dts, stamps_of}
use Rattle.stamps.proofs.pts_and_dts.Goals as goal

pub prefixed_by-dts-requires : goal.prefixed_by-dts-requires
prefixed_by-dts-requires c =
    let a = c.args in
    let l = a.bytes.now in
    let long : 5 + 5 * dts_flag 0b11 ≤ length l =
    subst (λ (f : ℕ). 5 + 5 * dts_flag f ≤ length l) c.if-pts_dts_flags-eq3.true c.requires in
    rw (part_to_end l 5) (omega (arith, length-drop 5 l))

pub returns-then-pts_dts_flags-eq3 : goal.returns-then-pts_dts_flags-eq3
returns-then-pts_dts_flags-eq3 c =
    let a = c.args in
    let l = a.bytes.now in
    ap₂ with_dts
    c.prefixed_by-pts.ensures
    (c.prefixed_by-dts.ensures ∙ ap (stamp_of dts) (part_to_end l 5))
    ∙ ap (λ (f : ℕ). stamps_of f l) (sym c.if-pts_dts_flags-eq3.true)

pub returns : goal.returns
returns c =
    let a = c.args in
    let l = a.bytes.now in
    ap without_dts c.prefixed_by-pts-2.ensures
    ∙ ap
    (λ (t : Bool). cond t (with_dts (stamp_of pts_before_dts l) (stamp_of dts (drop 5 l))) (without_dts (stamp_of pts_alone l)))
    (sym (ne_eqb a.pts_dts_flags 0b11 c.if-pts_dts_flags-eq3.false))
