-- `pes_reader::starts_a_packet` meets its contract: three bytes are the prefix exactly when their number is 1.
-- Assumes nothing.
use borrow.Author.Tests.{eq-eqb, ne_eqb}
use native.Mathlib.Omega.{arith}
use Prim.Native.Nat.{ℕ}
use mathlib.Core.Path.{◌≡◌, refl, sym}
use mathlib.Core.Bool.{Bool, true, false}
use lib.Dec.{eqb}
use lib.Seq.{length-take-le}
use Rattle.syntax.specs.Table.{number}
use Rattle.pes_reader.proofs.HeadLaws.{prefix_bytes, prefix_number}
use Rattle.pes_reader.proofs.starts_a_packet.Goals as goal

by_answer : (r : Bool) (n : ℕ) → (r ≡ true → n ≡ 0x000001) → (n ≡ 0x000001 → r ≡ true) → r ≡ eqb n 0x000001
by_answer true n is only = sym (eq-eqb n 0x000001 (is refl))
by_answer false n is only =
    sym (ne_eqb n 0x000001 (λ e. let t : false ≡ true = only e in let z : ◌≡◌ {A = ℕ} 0 1 = cc in omega arith))

pub slice_bounds-same-end : goal.slice_bounds-same-end
slice_bounds-same-end c =
    sym (length-take-le 3 c.args.bytes.now c.requires)

-- LEFT: no goal of today has the name slice-aggregate-same-2
-- slice-aggregate-same-2 : tie.Need-slice-aggregate-same-2
-- slice-aggregate-same-2 c = search rules

pub returns : goal.returns
returns c =
    let l = c.args.bytes.now in
    by_answer
    c.same.result
    (number 3 l)
    (λ t. prefix_number l (c.same.ensures.0 t))
    (λ e. c.same.ensures.1 (prefix_bytes l (λ i. (c.shared_slice_known-1.given i).fits) c.requires e))
