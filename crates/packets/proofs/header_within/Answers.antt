-- `packets::header_within` meets its contract: the ninth byte is the length that the head's table has. Assumes nothing.
use borrow.Author.Tests.{le-leb, lt-leb}
use native.Mathlib.Omega.{arith}
use Prim.Native.Nat.{ℕ, ◌+◌}
use mathlib.Core.Path.{sym, ap, ◌∙◌}
use lib.Dec.{leb}
use lib.ListN.{length}
use Rattle.pes_reader.proofs.HeadLaws.{data_length_of_head}
use Rattle.packets.proofs.header_within.Goals as goal

pub returns-then-payload-lt9 : goal.returns-then-payload-lt9
returns-then-payload-lt9 c =
    let l = c.args.payload.now in simp (lt-leb 9 (length l) c.if-payload-lt9.true)

pub overflow_add-result : goal.overflow_add-result
overflow_add-result c =
    omega (arith, c.from.ensures, (c.shared_slice_known-2-1.given 8).fits)

pub returns : goal.returns
returns c =
    let l = c.args.payload.now in
    simp (le-leb 9 (length l) c.if-payload-lt9.false)
    (ap (λ (n : ℕ). leb (9 + n) (length l)) (c.from.ensures ∙ sym (data_length_of_head l (λ i. (c.shared_slice_known-2-1.given i).fits))))
