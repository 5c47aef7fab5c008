-- `put_members` meets its contract. The invariant: the members so far are laid in after the empty text at the start.
-- Assumes nothing.
use Rattle.point_lines.specs.Lines.{member_text}
use Rattle.text.specs.Text.{Laid, texts}
use lib.ListN.{length}
use Prim.Native.Nat.{◌-◌, ◌≤◌}
use Rattle.point_lines.proofs.put_members.Given as goal

abbrev pub invariant-loop-stream : goal.invariant-loop-stream
invariant-loop-stream l = (l.stream-index ≤ length l.streams) × Laid l.initial.out l.initial.place (texts (member_text l.streams) l.stream-index) l.place l.out
