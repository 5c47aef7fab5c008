-- `unit_lines::put_numbers` meets its contract. The invariant: the numbers so far are laid in after the empty text at the start. The measure is how many are left.
-- Assumes nothing.
use Prim.Native.Nat.{◌-◌, ◌≤◌}
use lib.ListN.{length}
use Rattle.unit_lines.specs.Lines.{number_at}
use Rattle.text.specs.Text.{Laid, texts}
use Rattle.unit_lines.proofs.put_numbers.Given as goal

abbrev pub invariant-loop-i : goal.invariant-loop-i
invariant-loop-i l = (l.i ≤ length l.numbers) × Laid l.initial.out l.initial.place (texts (number_at l.numbers) l.i) l.place l.out
