-- `put_masked` meets its contract. The invariant: the first i of them are laid in. Assumes nothing.
use Prim.Native.Nat.{ℕ, ◌-◌, ◌%◌, ◌≤◌}
use mathlib.Core.List.{map}
use mathlib.Core.Path.{◌≡◌}
use lib.ListN.{length, take}
use lib.Seq.{sets}
use Rattle.point_rows.proofs.put_masked.Given as goal

abbrev pub invariant-loop-i : goal.invariant-loop-i
invariant-loop-i l = (l.i ≤ length l.bytes) × (length l.out ≡ length l.initial.out) × (l.out ≡ sets l.initial.out l.at (map (λ (byte : ℕ). byte % 128) (take l.i l.bytes)))
