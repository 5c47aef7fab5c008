-- A row read once more is the row that was found: the rows of a recording out of the packets in which their units start, all of which stand in the bytes.
-- Assumes nothing.
use Rattle.std.specs.Prelude.{Err, Ok}
use Prim.Native.Nat.{ℕ, zero, suc, ◌+◌, ◌-◌, ◌*◌, ◌/◌, ◌≤◌, ◌<◌}
use mathlib.Core.Path.{◌≡◌, refl, sym, ap, ap₂, subst, ◌∙◌}
use mathlib.Core.Bool.{cond}
use mathlib.Core.List.{List, [], ◌∷◌, ◌++◌, map}
use native.Mathlib.Decide.{dec_lt}
use native.Mathlib.Nat.{add-zero, not-suc-le-zero, le_of_suc-le-suc}
use native.Mathlib.Omega.{arith}
use lib.ListN.{length, get_or, drop, length-drop}
use Rattle.combinators.specs.Bools.{either_way}
use Rattle.framing.specs.Pieces.{Item}
use Rattle.pes_reader.specs.Answer.{Answer}
use Rattle.pes_reader.specs.Reading.{read_of}
use Rattle.packets.specs.declared.Packet.{Packet}
use Rattle.packets.specs.Reading.{packet_bytes, packet_of}
use Rattle.packets.specs.Judging.{lost_sync, is_skipped, payload_at, starts_clear, is_outside, is_scrambled}
use Rattle.continuity.specs.declared.Step.{Step}
use Rattle.continuity.specs.declared.Step.TheVariants.{Skipped, Copy, Faulty, Starts as StartsAt, Continues}
use Rattle.continuity.specs.Following.{is_copy, is_gap, alone_of, after_of, is_there, step_of}
use Rattle.scanning.specs.declared.events.Row.{Row}
use Rattle.scanning.specs.declared.events.Event.{Event}
use Rattle.scanning.specs.declared.events.Event.TheVariants.{Nothing, Fault, NotRead, Unit as Given}
use Rattle.scanning.specs.Events.{packets_in, layer_of, on_layer, header_event, step_event, step_in, packet_event, packet_at}
use Rattle.unit_starts.specs.Finding.{row_in, packet_in, rows_from}
use Rattle.unit_starts.proofs.Running.{rows_from_lem, here, after, rows_next, last_part, no_part}
use Rattle.recording_rows.specs.Again.{row_of, row_again, row_from, Inside, Starts}

-- ---- one packet

-- where a packet gives a row, it is this one
abbrev Gives : Row → Event → Type 0
Gives row Nothing = Unit {0}
Gives row (Fault number) = Unit {0}
Gives row (NotRead refusal) = Unit {0}
Gives row (Given given) = row ≡ given

header_gives : (layer k : ℕ) (answer : Answer) → Gives (row_of layer k answer) (header_event layer k answer)
header_gives layer k (Ok header) = refl
header_gives layer k (Err refusal) = tt

module _ (layer k : ℕ) (packet : List ℕ) where
  abbrev p : Packet
  p = packet_of packet

  abbrev StepGives : Step → Type 0
  StepGives step = Gives (row_of layer k (read_of (drop (payload_at p) packet))) (step_event layer k packet step)

  alone_gives : StepGives (alone_of p packet)
  alone_gives =
      either_way StepGives (is_outside p packet) (Faulty 32) (cond (is_scrambled p) (Faulty 33) (cond (starts_clear p) (StartsAt (payload_at p)) Continues))
      tt
      (either_way StepGives (is_scrambled p) (Faulty 33) (cond (starts_clear p) (StartsAt (payload_at p)) Continues)
      tt
      (either_way StepGives (starts_clear p) (StartsAt (payload_at p)) Continues (header_gives layer k (read_of (drop (payload_at p) packet))) tt))

  step_gives : (before : List ℕ) → StepGives (step_of before packet)
  step_gives before =
      either_way StepGives (is_skipped p) Skipped (cond (is_there before) (after_of p packet q before) (alone_of p packet))
      tt
      (either_way StepGives (is_there before) (after_of p packet q before) (alone_of p packet)
      (either_way StepGives (is_copy p packet q before) Copy (cond (is_gap p q) (Faulty 31) (alone_of p packet))
      tt
      (either_way StepGives (is_gap p q) (Faulty 31) (alone_of p packet) tt alone_gives))
      alone_gives)
    where
      q : Packet
      q = packet_of before

packet_gives : (table : List ℕ) (k : ℕ) (packet : List ℕ) (lasts : List (List ℕ)) → Gives (row_again table k packet) (packet_event table k packet lasts)
packet_gives table k packet lasts =
    either_way (Gives (row_again table k packet)) (lost_sync (packet_of packet)) (Fault 30)
    (cond (on_layer table packet) (step_event (layer_of table packet) k packet (step_in table lasts packet)) Nothing)
    tt
    (either_way (Gives (row_again table k packet)) (on_layer table packet) (step_event (layer_of table packet) k packet (step_in table lasts packet)) Nothing
    (step_gives (layer_of table packet) k packet (get_or lasts (layer_of table packet) []))
    tt)

-- a row names its packet
names : (layer k : ℕ) (answer : Answer) → (row_of layer k answer).packet ≡ k
names layer k (Ok header) = refl
names layer k (Err refusal) = refl

again_names : (table : List ℕ) (k : ℕ) (packet : List ℕ) → (row_again table k packet).packet ≡ k
again_names table k packet = names (layer_of table packet) k (read_of (drop (payload_at (packet_of packet)) packet))

-- ---- all packets

-- what a packet gives, again, and then the others
map_again : (f : ℕ → Row) (row : Row) → f row.packet ≡ row → (event : Event) → Gives row event → (later : List Row)
    → map f (map packet_in later) ≡ later → map f (map packet_in (row_in event ++ later)) ≡ row_in event ++ later
map_again f row e Nothing g later h = h
map_again f row e (Fault number) g later h = h
map_again f row e (NotRead refusal) g later h = h
map_again f row e (Given given) g later h = ap₂ (λ (r : Row) (l : List Row). r ∷ l) (ap (λ (r : Row). f r.packet) (sym g) ∙ e ∙ g) h

module _ (bytes : List ℕ) (first : ℕ) where
  inside_then : (row : Row) → Inside bytes first row.packet → (event : Event) → Gives row event → (later : List Row)
      → Starts bytes first (map packet_in later) → Starts bytes first (map packet_in (row_in event ++ later))
  inside_then row w Nothing g later h i l = h i l
  inside_then row w (Fault number) g later h i l = h i l
  inside_then row w (NotRead refusal) g later h i l = h i l
  inside_then row w (Given given) g later h zero l = subst (λ (r : Row). Inside bytes first r.packet) g w
  inside_then row w (Given given) g later h (suc i) l = h i (le_of_suc-le-suc l)

  module _ (table : List ℕ) where
    none_left : (k : ℕ) (lasts : List (List ℕ)) → packet_bytes * k ≤ length bytes → length bytes < packet_bytes * k + packet_bytes
        → rows_from_lem table bytes first k lasts ≡ []
    none_left k lasts h l = go (dec_lt (packet_bytes * k) (length bytes))
      where
        go : Dec (packet_bytes * k < length bytes) → rows_from_lem table bytes first k lasts ≡ []
        go (yes m) =
            let left = length-drop (packet_bytes * k) bytes in
            ap (λ (is : List Item). rows_from table (first + k) is lasts) (last_part (drop (packet_bytes * k) bytes) (omega arith) (omega arith))
        go (no m) = ap (λ (is : List Item). rows_from table (first + k) is lasts) (no_part bytes k (omega arith))

    -- the packet of a step
    abbrev row_at : ℕ → Row
    row_at k = row_again table (first + k) (packet_at bytes k)

    same_row : (k : ℕ) → row_from table bytes first (row_at k).packet ≡ row_at k
    same_row k =
        let back : first + k - first ≡ k = omega arith in
        ap (row_from table bytes first) (again_names table (first + k) (packet_at bytes k)) ∙ ap (λ (n : ℕ). row_again table (first + k) (packet_at bytes n)) back

    inside_row : (k : ℕ) → packet_bytes * k + packet_bytes ≤ length bytes → Inside bytes first (row_at k).packet
    inside_row k h = subst (Inside bytes first) (sym (again_names table (first + k) (packet_at bytes k))) (record { from = omega arith; within = omega arith })

    again_from : (n k : ℕ) (lasts : List (List ℕ)) → packet_bytes * (k + n) ≤ length bytes → length bytes < packet_bytes * (k + n) + packet_bytes
        → map (row_from table bytes first) (map packet_in (rows_from_lem table bytes first k lasts)) ≡ rows_from_lem table bytes first k lasts
    again_from zero k lasts h l =
        let none : rows_from_lem table bytes first k lasts ≡ [] = none_left k lasts (omega arith) (omega arith) in
        ap (λ (rows : List Row). map (row_from table bytes first) (map packet_in rows)) none ∙ sym none
    again_from (suc n) k lasts h l =
        let next = rows_next table bytes first k lasts (omega arith) in
        ap (λ (rows : List Row). map (row_from table bytes first) (map packet_in rows)) next
        ∙ map_again (row_from table bytes first) (row_at k) (same_row k) (here table bytes first k lasts) (packet_gives table (first + k) (packet_at bytes k) lasts)
        (rows_from_lem table bytes first (k + 1) (after table bytes first k lasts))
        (again_from n (k + 1) (after table bytes first k lasts) (omega arith) (omega arith))
        ∙ sym next

    inside_from : (n k : ℕ) (lasts : List (List ℕ)) → packet_bytes * (k + n) ≤ length bytes → length bytes < packet_bytes * (k + n) + packet_bytes
        → Starts bytes first (map packet_in (rows_from_lem table bytes first k lasts))
    inside_from zero k lasts h l =
        let none : rows_from_lem table bytes first k lasts ≡ [] = none_left k lasts (omega arith) (omega arith) in
        subst (λ (rows : List Row). Starts bytes first (map packet_in rows)) (sym none) (λ i m. absurd (not-suc-le-zero m))
    inside_from (suc n) k lasts h l =
        let next = rows_next table bytes first k lasts (omega arith) in
        subst (λ (rows : List Row). Starts bytes first (map packet_in rows)) (sym next)
        (inside_then (row_at k) (inside_row k (omega arith)) (here table bytes first k lasts) (packet_gives table (first + k) (packet_at bytes k) lasts)
        (rows_from_lem table bytes first (k + 1) (after table bytes first k lasts))
        (inside_from n (k + 1) (after table bytes first k lasts) (omega arith) (omega arith)))

    -- the rows of these bytes
    pub rows_again : (lasts : List (List ℕ))
        → map (row_from table bytes first) (map packet_in (rows_from table first (packets_in bytes) lasts)) ≡ rows_from table first (packets_in bytes) lasts
    rows_again lasts =
        subst (λ (n : ℕ). map (row_from table bytes first) (map packet_in (rows_from table n (packets_in bytes) lasts)) ≡ rows_from table n (packets_in bytes) lasts)
        (add-zero first) (again_from (length bytes / packet_bytes) 0 lasts (omega arith) (omega arith))

    pub rows_inside : (lasts : List (List ℕ)) → Starts bytes first (map packet_in (rows_from table first (packets_in bytes) lasts))
    rows_inside lasts =
        subst (λ (n : ℕ). Starts bytes first (map packet_in (rows_from table n (packets_in bytes) lasts)))
        (add-zero first) (inside_from (length bytes / packet_bytes) 0 lasts (omega arith) (omega arith))
