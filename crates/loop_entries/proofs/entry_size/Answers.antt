-- `loop_entries::entry_size` meets its contract: at bytes, ES_info_length is the sum that the code takes.
-- Assumes nothing.
use Prim.Native.Nat.{ℕ, ◌+◌}
use mathlib.Core.Path.{◌∙◌, ap, sym}
use mathlib.Core.Bool.{Bool, cond}
use native.Mathlib.Omega.{arith}
use borrow.Author.Tests.{lt-ltb, le-ltb}
use lib.ListN.{length}
use Rattle.loop_entries.specs.Entries.{es_info_length}
use Rattle.loop_entries.proofs.Heads.{length_bytes}
use Rattle.loop_entries.proofs.entry_size.Goals as goal

pub returns-then-left-lt5 : goal.returns-then-left-lt5
returns-then-left-lt5 c = sym (ap (λ (b : Bool). cond b 5 (5 + es_info_length c.args.left.now)) (lt-ltb (length c.args.left.now) 5 c.if-left-lt5.true))

pub overflow_add-result : goal.overflow_add-result
overflow_add-result c =
    let known = c.shared_slice_known-3-1.given in
    omega (arith, known 3, known 4)

pub overflow_add-result-2 : goal.overflow_add-result-2
overflow_add-result-2 c =
    let known = c.shared_slice_known-3-1.given in
    omega (arith, known 3, known 4)

pub returns : goal.returns
returns c =
    let left = c.args.left.now in
    let known = c.shared_slice_known-3-1.given in
    rw (c.from.ensures, c.from-2.ensures)
    (sym
    (ap (λ (b : Bool). cond b 5 (5 + es_info_length left)) (le-ltb (length left) 5 c.if-left-lt5.false)
    ∙ ap (λ (n : ℕ). 5 + n) (length_bytes left (λ i. omega (arith, known i)))))
