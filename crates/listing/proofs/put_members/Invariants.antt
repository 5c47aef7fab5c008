-- `listing::put_members` meets its contract. The invariant: the texts of the indices so far are laid in after the empty text at the start.
-- The measure is the number of indices left. Assumes nothing.
use Prim.Native.Nat.{◌-◌, ◌≤◌}
use Rattle.text.specs.Text.{Laid, texts}
use Rattle.listing.specs.Lines.{member}
use Rattle.listing.proofs.put_members.Given as goal

abbrev pub invariant-loop-index : goal.invariant-loop-index
invariant-loop-index l = (l.index ≤ 64) × Laid l.initial.out l.initial.place (texts (member l.set) l.index) l.place l.out
