-- `put_lines` meets its contract. The invariant: the lines of the points so far are laid in after the empty text at the start. The measure is the number of points left.
-- Assumes nothing.
use Rattle.point_listing.proofs.Lines.{lines_to}
use Rattle.text.specs.Text.{Laid}
use lib.ListN.{length}
use Prim.Native.Nat.{◌-◌, ◌≤◌}
use Rattle.point_listing.proofs.put_lines.Given as goal

abbrev pub invariant-loop-index : goal.invariant-loop-index
invariant-loop-index l =
    (l.index ≤ length l.places) × Laid l.initial.out l.initial.place (lines_to l.layers l.program l.places l.index) l.place l.out
