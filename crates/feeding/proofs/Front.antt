-- A piece that goes no further than the packet that is not whole yet: it is carried, or makes the packet whole.
-- Assumes nothing.
use Prim.Native.Nat.{ℕ, ◌+◌, ◌-◌, ◌*◌, ◌≤◌, ◌<◌}
use mathlib.Core.Path.{◌≡◌, refl, sym, ap, subst, ◌∙◌}
use mathlib.Core.List.{List, [], ◌++◌}
use native.Mathlib.Omega.{arith}
use lib.ListN.{length, take, drop, length-append, drop_of_length-le}
use lib.Seq.{sets, sets-eq, take_at, take-nil, take-length, length-sets, length-take-le}
use Rattle.packets.specs.Reading.{packet_bytes}
use Rattle.scanning.specs.declared.events.Row.{Row}
use Rattle.scanning.specs.Events.{packets_in, lasts_of}
use Rattle.unit_starts.specs.declared.Found.{Found}
use Rattle.unit_starts.specs.Finding.{rows_from}
use Rattle.unit_starts.proofs.Running.{rows_counted_from, rows_few}
use Rattle.recording_rows.specs.Columns.{Columns}
use Rattle.passing.specs.Passing.{stored_from, with_room, Passed}
use Rattle.fed_packets.specs.Feeding.{Progress as Known, packets_whole, whole_of, left_of}
use Rattle.fed_packets.proofs.Cut.{packets_many, none_whole, nothing_gone}
use Rattle.feeding.specs.declared.Progress.{Progress}
use Rattle.feeding.specs.Pieces.{known_by, Ready, Feeds}
use Rattle.feeding.proofs.Rest.{few_rows}

-- what stands at the front of a buffer after a list was stored behind so many
behind : (part bytes : List ℕ) (at size : ℕ) → size ≡ at + length bytes → size ≤ length part → take size (sets part at bytes) ≡ take at part ++ bytes
behind part bytes at size e h =
    ap (take size) (sets-eq bytes part at (omega arith))
    ∙ take_at (take at part ++ bytes) (drop (at + length bytes) part) size
    (length-append (take at part) bytes ∙ omega (arith, length-take-le at part (omega arith)))

one_whole : (l : List ℕ) → length l ≡ packet_bytes → packets_whole l ≡ 1
one_whole l e = omega arith

module _ (table bytes : List ℕ) (room : ℕ) (p : Progress) (part kept ends : List ℕ) (old : Columns) (ready : Ready p part kept ends)
    (fits : p.part + length bytes ≤ packet_bytes) {new-part : List ℕ} (laid : new-part ≡ sets part p.part bytes) where
  abbrev known : Known
  known = known_by p part kept ends

  abbrev carried : List ℕ
  carried = take p.part part ++ bytes

  pub new_long : length new-part ≡ packet_bytes
  new_long = ap length laid ∙ length-sets part p.part bytes ∙ ready.long

  front : take (p.part + length bytes) new-part ≡ carried
  front = ap (take (p.part + length bytes)) laid ∙ behind part bytes p.part (p.part + length bytes) refl (omega (arith, ready.long))

  carried_long : length carried ≡ p.part + length bytes
  carried_long = ap length (sym front) ∙ length-take-le (p.part + length bytes) new-part (omega (arith, new_long))

  -- not whole yet
  pub front_carried : p.part + length bytes < packet_bytes
      → Feeds table bytes room p part kept ends old (record { part = p.part + length bytes; number = p.number; found = p.found }) new-part kept ends old
  front_carried h =
      let short : length carried < packet_bytes = subst (λ (n : ℕ). n < packet_bytes) (sym carried_long) h in
      record {
        goes_on = ap (λ (l : List ℕ). record { part = l; number = p.number; lasts = lasts_of kept [] ends; found = p.found }) front
            ∙ sym (nothing_gone table (record { part = carried; number = p.number; lasts = lasts_of kept [] ends; found = p.found }) short);
        ready = record { long = new_long; short = h; held = ready.held; few = ready.few };
        stored = sym (ap (λ (rows : List Row). stored_from p.found.rows rows old) (take-nil (room - p.found.rows)))
            ∙ ap (λ (n : ℕ). stored_from p.found.rows (with_room room p.found.rows (rows_from table p.number (packets_in (take (packet_bytes * n) carried)) (lasts_of kept [] ends))) old)
            (sym (none_whole carried short));
      }

  -- a whole packet
  module _ (full : packet_bytes ≤ p.part + length bytes) {new-kept new-ends : List ℕ} {new : Columns} {answer : Found}
      (passed : Passed table new-part p.number p.found room kept ends old new-kept new-ends new answer) where
    size : p.part + length bytes ≡ packet_bytes
    size = omega arith

    all_carried : new-part ≡ carried
    all_carried = sym (take-length new-part) ∙ ap (λ (n : ℕ). take n new-part) (new_long ∙ sym size) ∙ front

    whole_long : length carried ≡ packet_bytes
    whole_long = carried_long ∙ size

    one : packets_whole carried ≡ 1
    one = one_whole carried whole_long

    whole_is : new-part ≡ whole_of carried
    whole_is =
        all_carried ∙ sym (take-length carried) ∙ ap (λ (n : ℕ). take n carried) (whole_long ∙ sym (ap (λ (n : ℕ). packet_bytes * n) one))

    here : Passed table (whole_of carried) p.number p.found room kept ends old new-kept new-ends new answer
    here = subst (λ (l : List ℕ). Passed table l p.number p.found room kept ends old new-kept new-ends new answer) whole_is passed

    none_left : [] ≡ left_of carried
    none_left = sym (ap (λ (n : ℕ). drop (packet_bytes * n) carried) one ∙ drop_of_length-le carried {i = packet_bytes} (omega (arith, whole_long)))

    rows_here : answer.rows ≤ p.number + 1
    rows_here =
        few_rows p.found.rows answer.rows _ p.number 1
        (ap (λ (f : Found). f.rows) here.finds ∙ rows_counted_from table p.number (packets_in (whole_of carried)) (lasts_of kept [] ends) p.found)
        (subst (λ (n : ℕ). length (rows_from table p.number (packets_in (whole_of carried)) (lasts_of kept [] ends)) ≤ n) (packets_many carried [] ∙ one)
        (rows_few table p.number (packets_in (whole_of carried)) (lasts_of kept [] ends)))
        ready.few

    pub front_whole : Feeds table bytes room p part kept ends old (record { part = 0; number = p.number + 1; found = answer }) new-part new-kept new-ends new
    front_whole =
        record {
          goes_on = λ i. record { part = none_left i; number = p.number + sym one i; lasts = here.lasts i; found = here.finds i };
          ready = record { long = new_long; short = omega arith; held = here.held; few = rows_here };
          stored = here.stored;
        }
