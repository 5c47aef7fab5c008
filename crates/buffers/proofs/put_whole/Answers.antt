-- `put_whole` meets its contract: the part of the buffer that was copied into is where the list is stored.
-- Assumes nothing.
use Prim.Native.Nat.{ℕ, ◌+◌, ◌-◌}
use mathlib.Core.List.{List, ◌++◌, append_assoc}
use mathlib.Core.Path.{◌≡◌, sym, ◌∙◌, ap}
use Rattle.std.proofs.Common.{rules}
use borrow.Rule.Slice.PartMut.{put_mid}
use lib.ListN.{length, take}
use native.Mathlib.Omega.{arith}
use lib.Seq.{sets-eq, drop-drop}
use Rattle.buffers.proofs.put_whole.Goals as goal

pub returns : goal.returns
returns c =
    let a = c.args in
    record {
      place = omega arith;
      content =
          let count : a.at + length a.bytes.now - a.at ≡ length a.bytes.now = omega arith in
          let copied : c.copy_from_slice.new.self ≡ a.bytes.now = search rules in
          ap (λ (n : ℕ). put_mid a.at n a.out.now c.copy_from_slice.new.self) count
          ∙ ap (put_mid a.at (length a.bytes.now) a.out.now) copied
          ∙ ap (λ (l : List ℕ). take a.at a.out.now ++ (a.bytes.now ++ l)) (drop-drop (length a.bytes.now) a.at a.out.now)
          ∙ sym (append_assoc (take a.at a.out.now) a.bytes.now _)
          ∙ sym (sets-eq a.bytes.now a.out.now a.at (omega arith));
    }
