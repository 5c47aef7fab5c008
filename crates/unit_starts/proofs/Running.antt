-- The packets of some bytes one after another: one off the front, quiet ones passed over, one part after another, and as many rows as are counted.
-- Assumes nothing.
use Prim.Native.Nat.{ℕ, zero, suc, ◌+◌, ◌*◌, ◌/◌, ◌≤◌, ◌<◌}
use mathlib.Core.Path.{◌≡◌, refl, sym, ap, ap₂, ◌∙◌}
use mathlib.Core.List.{List, [], ◌∷◌, ◌++◌, append_assoc}
use native.Mathlib.Nat.{add-zero, zero-add, add-suc, suc-add}
use native.Mathlib.Omega.{arith}
use lib.ListN.{length, take, drop, length-drop, length-append, take-append-drop}
use lib.Seq.{take_at, drop_at, drop-drop, drop-length, length-take-le}
use Rattle.framing.specs.Pieces.{Item, whole, broken, cut_piece, cut_broken}
use Rattle.packets.specs.Reading.{packet_bytes}
use Rattle.scanning.specs.declared.events.Row.{Row}
use Rattle.scanning.specs.declared.events.Event.{Event}
use Rattle.scanning.specs.declared.events.Event.TheVariants.{Nothing, Fault, NotRead, Unit}
use Rattle.scanning.specs.Events.{packets_in, none_yet, packet_event, event_of, packet_lasts, lasts_after, packet_at, PassedOver, none_yet_lem, one_more}
use Rattle.unit_starts.specs.declared.Found.{Found}
use Rattle.unit_starts.specs.Finding.{nothing_found, noted, row_in, found_from, rows_from, lasts_over, found_in, rows_in}

-- the packets from a step on
abbrev pub packets_from : List ℕ → ℕ → List Item
packets_from bytes k = packets_in (drop (packet_bytes * k) bytes)

-- one packet off the front
pub next_packet : (bytes : List ℕ) (k : ℕ) → packet_bytes * k + packet_bytes ≤ length bytes
    → packets_from bytes k ≡ whole (packet_at bytes k) [] ∷ packets_from bytes (k + 1)
next_packet bytes k h =
    let left = length-drop (packet_bytes * k) bytes in
    let on : packet_bytes * k + packet_bytes ≡ packet_bytes * (k + 1) = omega arith in
    cut_piece packet_bytes (λ head. 0) (omega arith) (drop (packet_bytes * k) bytes) (omega arith)
    ∙ ap (λ (l : List ℕ). whole (packet_at bytes k) [] ∷ packets_in l) (drop-drop packet_bytes (packet_bytes * k) bytes ∙ ap (λ (n : ℕ). drop n bytes) on)

-- a last part of one, and nothing left
pub last_part : (bytes : List ℕ) → 0 < length bytes → length bytes < packet_bytes → packets_in bytes ≡ broken ∷ []
last_part bytes h l = cut_broken packet_bytes (λ head. 0) (omega arith) bytes h (omega arith)

pub no_part : (bytes : List ℕ) (k : ℕ) → length bytes ≡ packet_bytes * k → packets_from bytes k ≡ []
no_part bytes k e = ap packets_in (ap (λ (n : ℕ). drop n bytes) (sym e) ∙ drop-length bytes)

-- ---- whole packets, and what stands behind them

pub whole_part : (bytes : List ℕ) → length (take (packet_bytes * (length bytes / packet_bytes)) bytes) ≡ packet_bytes * (length (take (packet_bytes * (length bytes / packet_bytes)) bytes) / packet_bytes)
whole_part bytes =
    let within : packet_bytes * (length bytes / packet_bytes) ≤ length bytes = omega arith in
    omega (arith, length-take-le (packet_bytes * (length bytes / packet_bytes)) bytes within)

packet_front : (packet rest : List ℕ) → length packet ≡ packet_bytes → packets_in (packet ++ rest) ≡ whole packet [] ∷ packets_in rest
packet_front packet rest e =
    cut_piece packet_bytes (λ head. 0) (omega arith) (packet ++ rest) (omega (arith, length-append packet rest))
    ∙ ap₂ (λ (p r : List ℕ). whole p [] ∷ packets_in r) (take_at packet rest packet_bytes e) (drop_at packet rest packet_bytes e)

-- so many packets, and then the others
pub record Parted (packets : ℕ) (front rest : List ℕ) : Type 0 where
  pub joined : packets_in (front ++ rest) ≡ packets_in front ++ packets_in rest
  pub many : length (packets_in front) ≡ packets

pub parted : (packets : ℕ) (front rest : List ℕ) → length front ≡ packet_bytes * packets → Parted packets front rest
parted zero [] rest e = record { joined = refl; many = refl }
parted zero (b ∷ front) rest e = absurd (omega arith)
parted (suc n) front rest e =
    let packet : List ℕ = take packet_bytes front in
    let later : List ℕ = drop packet_bytes front in
    let long : length packet ≡ packet_bytes = length-take-le packet_bytes front (omega arith) in
    let left : length later ≡ packet_bytes * n = omega (arith, length-drop packet_bytes front) in
    let both : packet ++ later ≡ front = take-append-drop packet_bytes front in
    let next = parted n later rest left in
    let first : packets_in front ≡ whole packet [] ∷ packets_in later = ap packets_in (sym both) ∙ packet_front packet later long in
    record {
      joined = ap (λ (l : List ℕ). packets_in (l ++ rest)) (sym both)
          ∙ ap packets_in (append_assoc packet later rest)
          ∙ packet_front packet (later ++ rest) long
          ∙ ap (λ (is : List Item). whole packet [] ∷ is) next.joined
          ∙ ap (λ (is : List Item). is ++ packets_in rest) (sym first);
      many = ap length first ∙ ap suc next.many;
    }

module _ (table : List ℕ) where
  -- what is found, which rows, and which last packets, from a step on, where the first packet of all has a number
  module _ (bytes : List ℕ) (first : ℕ) where
    abbrev pub found_from_lem : ℕ → List (List ℕ) → Found → Found
    found_from_lem k lasts f = found_from table (first + k) (packets_from bytes k) lasts f

    abbrev pub rows_from_lem : ℕ → List (List ℕ) → List Row
    rows_from_lem k lasts = rows_from table (first + k) (packets_from bytes k) lasts

    abbrev pub lasts_from : ℕ → List (List ℕ) → List (List ℕ)
    lasts_from k lasts = lasts_over table (packets_from bytes k) lasts

    -- the packet of a step, and what it gives
    abbrev pub here : ℕ → List (List ℕ) → Event
    here k lasts = packet_event table (first + k) (packet_at bytes k) lasts

    abbrev pub after : ℕ → List (List ℕ) → List (List ℕ)
    after k lasts = packet_lasts table (packet_at bytes k) lasts

    pub found_next : (k : ℕ) (lasts : List (List ℕ)) (f : Found) → packet_bytes * k + packet_bytes ≤ length bytes
        → found_from_lem k lasts f ≡ found_from_lem (k + 1) (after k lasts) (noted (first + k) (here k lasts) f)
    found_next k lasts f h =
        let on : suc (first + k) ≡ first + (k + 1) = omega arith in
        ap (λ (is : List Item). found_from table (first + k) is lasts f) (next_packet bytes k h)
        ∙ ap (λ (n : ℕ). found_from table n (packets_from bytes (k + 1)) (after k lasts) (noted (first + k) (here k lasts) f)) on

    pub rows_next : (k : ℕ) (lasts : List (List ℕ)) → packet_bytes * k + packet_bytes ≤ length bytes
        → rows_from_lem k lasts ≡ row_in (here k lasts) ++ rows_from_lem (k + 1) (after k lasts)
    rows_next k lasts h =
        let on : suc (first + k) ≡ first + (k + 1) = omega arith in
        ap (λ (is : List Item). rows_from table (first + k) is lasts) (next_packet bytes k h)
        ∙ ap (λ (n : ℕ). row_in (here k lasts) ++ rows_from table n (packets_from bytes (k + 1)) (after k lasts)) on

    pub lasts_next : (k : ℕ) (lasts : List (List ℕ)) → packet_bytes * k + packet_bytes ≤ length bytes → lasts_from k lasts ≡ lasts_from (k + 1) (after k lasts)
    lasts_next k lasts h = ap (λ (is : List Item). lasts_over table is lasts) (next_packet bytes k h)

    -- what is left from one step on is what is left from another, with the last packets of each
    pub record Same (k : ℕ) (lasts : List (List ℕ)) (m : ℕ) (later : List (List ℕ)) : Type 0 where
      pub found : (f : Found) → found_from_lem k lasts f ≡ found_from_lem m later f
      pub rows : rows_from_lem k lasts ≡ rows_from_lem m later
      pub over : lasts_from k lasts ≡ lasts_from m later

    -- a packet that gives nothing is passed over
    nothing_same : (k : ℕ) (lasts : List (List ℕ)) {later : List (List ℕ)} → packet_bytes * k + packet_bytes ≤ length bytes → ((number : ℕ) → packet_event table number (packet_at bytes k) lasts ≡ Nothing)
        → later ≡ after k lasts → Same k lasts (k + 1) later
    nothing_same k lasts h nothing is =
        record {
          found = λ f. found_next k lasts f h
              ∙ ap₂ (λ (l : List (List ℕ)) (e : Event). found_from_lem (k + 1) l (noted (first + k) e f)) (sym is) (nothing (first + k));
          rows = rows_next k lasts h ∙ ap₂ (λ (l : List (List ℕ)) (e : Event). row_in e ++ rows_from_lem (k + 1) l) (sym is) (nothing (first + k));
          over = lasts_next k lasts h ∙ ap (lasts_from (k + 1)) (sym is);
        }

    -- and so are several
    pub passed : {from : ℕ} {lasts : List (List ℕ)} {k : ℕ} {later : List (List ℕ)} → PassedOver table bytes from lasts k later → packet_bytes * k ≤ length bytes → Same from lasts k later
    passed none_yet_lem room = record { found = λ f. refl; rows = refl; over = refl }
    passed (one_more {k} {before} p nothing is) room =
        let earlier = passed p (omega arith) in
        let next = nothing_same k before (omega arith) nothing is in
        record {
          found = λ f. earlier.found f ∙ next.found f;
          rows = earlier.rows ∙ next.rows;
          over = earlier.over ∙ next.over;
        }

  -- ---- one part after another

  pub found_then : (k : ℕ) (is js : List Item) (lasts : List (List ℕ)) (f : Found)
      → found_from table k (is ++ js) lasts f ≡ found_from table (k + length is) js (lasts_over table is lasts) (found_from table k is lasts f)
  found_then k [] js lasts f = ap (λ (n : ℕ). found_from table n js lasts f) (sym (add-zero k))
  found_then k (i ∷ is) js lasts f =
      found_then (suc k) is js (lasts_after table i lasts) (noted k (event_of table k i lasts) f)
      ∙ ap (λ (n : ℕ). found_from table n js (lasts_over table (i ∷ is) lasts) (found_from table k (i ∷ is) lasts f)) (suc-add k (length is) ∙ sym (add-suc k (length is)))

  pub rows_then : (k : ℕ) (is js : List Item) (lasts : List (List ℕ))
      → rows_from table k (is ++ js) lasts ≡ rows_from table k is lasts ++ rows_from table (k + length is) js (lasts_over table is lasts)
  rows_then k [] js lasts = ap (λ (n : ℕ). rows_from table n js lasts) (sym (add-zero k))
  rows_then k (i ∷ is) js lasts =
      ap (λ (l : List Row). row_in (event_of table k i lasts) ++ l)
      (rows_then (suc k) is js (lasts_after table i lasts)
      ∙ ap (λ (n : ℕ). rows_from table (suc k) is (lasts_after table i lasts) ++ rows_from table n js (lasts_over table (i ∷ is) lasts)) (suc-add k (length is) ∙ sym (add-suc k (length is))))
      ∙ sym (append_assoc (row_in (event_of table k i lasts)) (rows_from table (suc k) is (lasts_after table i lasts)) (rows_from table (k + length (i ∷ is)) js (lasts_over table (i ∷ is) lasts)))

  pub lasts_then : (is js : List Item) (lasts : List (List ℕ)) → lasts_over table (is ++ js) lasts ≡ lasts_over table js (lasts_over table is lasts)
  lasts_then [] js lasts = refl
  lasts_then (i ∷ is) js lasts = lasts_then is js (lasts_after table i lasts)

-- ---- as many rows as are counted

pub rows_noted : (k : ℕ) (event : Event) (f : Found) → (noted k event f).rows ≡ f.rows + length (row_in event)
rows_noted k Nothing f = sym (add-zero f.rows)
rows_noted k (Fault n) f = sym (add-zero f.rows)
rows_noted k (NotRead r) f = sym (add-zero f.rows)
rows_noted k (Unit row) f = refl

pub one_row : (event : Event) → length (row_in event) ≤ 1
one_row Nothing = omega arith
one_row (Fault n) = omega arith
one_row (NotRead r) = omega arith
one_row (Unit row) = omega arith

pub rows_counted_from : (table : List ℕ) (k : ℕ) (is : List Item) (lasts : List (List ℕ)) (f : Found)
    → (found_from table k is lasts f).rows ≡ f.rows + length (rows_from table k is lasts)
rows_counted_from table k [] lasts f = sym (add-zero f.rows)
rows_counted_from table k (i ∷ is) lasts f =
    let event : Event = event_of table k i lasts in
    let later = rows_counted_from table (suc k) is (lasts_after table i lasts) (noted k event f) in
    let at = rows_noted k event f in
    later ∙ omega (arith, at, length-append (row_in event) (rows_from table (suc k) is (lasts_after table i lasts)))

-- no more than packets
pub rows_few : (table : List ℕ) (k : ℕ) (is : List Item) (lasts : List (List ℕ)) → length (rows_from table k is lasts) ≤ length is
rows_few table k [] lasts = omega arith
rows_few table k (i ∷ is) lasts =
    omega (
      arith,
      length-append (row_in (event_of table k i lasts)) (rows_from table (suc k) is (lasts_after table i lasts)),
      one_row (event_of table k i lasts),
      rows_few table (suc k) is (lasts_after table i lasts),
    )

pub rows_counted : (table bytes : List ℕ) → (found_in table bytes).rows ≡ length (rows_in table bytes)
rows_counted table bytes = rows_counted_from table 0 (packets_in bytes) none_yet nothing_found ∙ zero-add (length (rows_in table bytes))
