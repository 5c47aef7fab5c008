-- `packets::adaptation_field` meets its contract: each test of a byte is the definition's test of the table's number. Assumes nothing.
use borrow.Author.Tests.{le-leb, lt-leb}
use native.Mathlib.Omega.{arith}
use Prim.Native.Nat.{◌+◌, ◌/◌, ◌%◌}
use mathlib.Core.Path.{sym, ◌∙◌}
use lib.ListN.{get_or}
use Rattle.packets.proofs.FieldLaws.{adaptation_of_bytes}
use Rattle.packets.proofs.adaptation_field.Goals as goal

pub returns-then-control-lt2 : goal.returns-then-control-lt2
returns-then-control-lt2 c =
    let l = c.args.packet.now in
    sym
    (adaptation_of_bytes l (λ i. (c.shared_slice_known-1.given i).fits)
    ∙ simp (lt-leb 2 (get_or l 3 0 / 16 % 4) c.if-control-lt2.true))

pub returns-then-length-gt183 : goal.returns-then-length-gt183
returns-then-length-gt183 c =
    let l = c.args.packet.now in
    sym
    (adaptation_of_bytes l (λ i. (c.shared_slice_known-2-1.given i).fits)
    ∙ simp (le-leb 2 (get_or l 3 0 / 16 % 4) c.if-control-lt2.false, lt-leb (5 + get_or l 4 0) 188 (omega (arith, c.if-length-gt183.true))))

pub returns : goal.returns
returns c =
    let l = c.args.packet.now in
    sym
    (adaptation_of_bytes l (λ i. (c.shared_slice_known-3-1.given i).fits)
    ∙ simp (le-leb 2 (get_or l 3 0 / 16 % 4) c.if-control-lt2.false, le-leb (5 + get_or l 4 0) 188 (omega (arith, c.if-length-gt183.false))))
