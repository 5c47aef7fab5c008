-- A piece that starts where a packet does: its whole packets are passed, and what is left over is carried.
-- Assumes nothing.
use Prim.Native.Nat.{ℕ, ◌+◌, ◌-◌, ◌*◌, ◌≤◌, ◌<◌}
use mathlib.Core.Path.{◌≡◌, sym, ap, subst, ◌∙◌}
use mathlib.Core.List.{List, [], ◌++◌}
use native.Mathlib.Omega.{arith}
use lib.ListN.{length, take, length-drop}
use lib.Seq.{sets, take_at, length-sets}
use Rattle.buffers.proofs.Laws.{sets_over}
use Rattle.packets.specs.Reading.{packet_bytes}
use Rattle.scanning.specs.Events.{packets_in, lasts_of}
use Rattle.unit_starts.specs.declared.Found.{Found}
use Rattle.unit_starts.specs.Finding.{rows_from}
use Rattle.unit_starts.proofs.Running.{rows_counted_from, rows_few}
use Rattle.recording_rows.specs.Columns.{Columns}
use Rattle.passing.specs.Passing.{stored_from, with_room, Passed}
use Rattle.fed_packets.specs.Feeding.{Progress as Known, packets_whole, whole_of, left_of, gone_on}
use Rattle.fed_packets.proofs.Cut.{packets_many}
use Rattle.feeding.specs.declared.Progress.{Progress}
use Rattle.feeding.specs.Pieces.{known_by, Ready, Feeds}

-- what is left over is less than a packet
pub left_long : (bytes : List ℕ) → length (left_of bytes) ≡ length bytes - packet_bytes * packets_whole bytes
left_long bytes = length-drop (packet_bytes * packets_whole bytes) bytes

pub left_short : (bytes : List ℕ) → length (left_of bytes) < packet_bytes
left_short bytes = omega (arith, left_long bytes)

-- a list at the front of a buffer
carried : (part list : List ℕ) (n : ℕ) → n ≡ length list → length list ≤ length part → take n (sets part 0 list) ≡ list
carried part list n e h = ap (take n) (sets_over list part h) ∙ take_at list _ n (sym e)

-- no more rows than packets
pub few_rows : (before after more number packets : ℕ) → after ≡ before + more → more ≤ packets → before ≤ number → after ≤ number + packets
few_rows before after more number packets e h k = omega arith

module _ (table bytes : List ℕ) (room : ℕ) (p : Progress) (part kept ends : List ℕ) (old : Columns) (empty : p.part ≡ 0) (ready : Ready p part kept ends)
    {new-part new-kept new-ends : List ℕ} {new : Columns} {answer : Found}
    (passed : Passed table (whole_of bytes) p.number p.found room kept ends old new-kept new-ends new answer)
    (laid : new-part ≡ sets part 0 (left_of bytes)) where
  abbrev known : Known
  known = known_by p part kept ends

  nothing_carried : take p.part part ++ bytes ≡ bytes
  nothing_carried = ap (λ (n : ℕ). take n part ++ bytes) empty

  rows_here : answer.rows ≤ p.number + packets_whole bytes
  rows_here =
      few_rows p.found.rows answer.rows _ p.number (packets_whole bytes)
      (ap (λ (f : Found). f.rows) passed.finds ∙ rows_counted_from table p.number (packets_in (whole_of bytes)) (lasts_of kept [] ends) p.found)
      (subst (λ (n : ℕ). length (rows_from table p.number (packets_in (whole_of bytes)) (lasts_of kept [] ends)) ≤ n) (packets_many bytes [])
      (rows_few table p.number (packets_in (whole_of bytes)) (lasts_of kept [] ends)))
      ready.few

  abbrev after : Progress
  after = record { part = length bytes - packet_bytes * packets_whole bytes; number = p.number + packets_whole bytes; found = answer }

  carried_here : take (length bytes - packet_bytes * packets_whole bytes) new-part ≡ left_of bytes
  carried_here =
      ap (take (length bytes - packet_bytes * packets_whole bytes)) laid
      ∙ carried part (left_of bytes) (length bytes - packet_bytes * packets_whole bytes) (sym (left_long bytes)) (omega (arith, left_short bytes, ready.long))

  pub rest_feeds : Feeds table bytes room p part kept ends old after new-part new-kept new-ends new
  rest_feeds =
      record {
        goes_on = (λ i. record { part = carried_here i; number = p.number + packets_whole bytes; lasts = passed.lasts i; found = passed.finds i })
            ∙ sym (ap (gone_on table known) nothing_carried);
        ready =
            record {
              long = ap length laid ∙ length-sets part 0 (left_of bytes) ∙ ready.long;
              short = subst (λ (n : ℕ). n < packet_bytes) (left_long bytes) (left_short bytes);
              held = passed.held;
              few = rows_here;
            };
        stored = passed.stored
            ∙ ap (λ (l : List ℕ). stored_from p.found.rows (with_room room p.found.rows (rows_from table p.number (packets_in (whole_of l)) (lasts_of kept [] ends))) old)
            (sym nothing_carried);
      }
