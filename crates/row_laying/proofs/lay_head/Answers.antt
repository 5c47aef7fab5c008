-- `row_laying::lay_head` meets its contract: the head is copied into the front of the row.
-- Assumes nothing.
use Prim.Native.Nat.{ℕ}
use mathlib.Core.List.{◌++◌}
use mathlib.Core.Path.{◌≡◌, ◌∙◌, ap}
use Rattle.std.proofs.Common.{rules}
use borrow.Rule.Slice.PartMut.{put_mid}
use native.Mathlib.Omega.{arith}
use lib.ListN.{length, drop}
use Rattle.row_laying.proofs.lay_head.Goals as goal

pub returns : goal.returns
returns c =
    let a = c.args in
    let copied : c.copy_from_slice.new.self ≡ a.head = search rules in
    let long : 16 ≡ length a.head = omega arith in
    ap (put_mid 0 16 a.row.now) copied ∙ ap (λ (n : ℕ). a.head ++ drop n a.row.now) long
