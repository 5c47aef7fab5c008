-- HOWEVER A RECORDING IS CUT, THE ANSWER IS THAT OF THE WHOLE: two pieces one after another are one piece, and at the end is found what the whole recording gives,
-- with its rows.
-- Assumes nothing.
use Prim.Native.Nat.{ℕ, ◌+◌, ◌*◌, ◌/◌, ◌≤◌, ◌<◌}
use mathlib.Core.Path.{◌≡◌, refl, sym, ap, ap₂, ◌∙◌}
use mathlib.Core.List.{List, [], ◌∷◌, ◌++◌, append_assoc, append-nil}
use native.Mathlib.Nat.{add-zero}
use native.Mathlib.Omega.{arith}
use lib.ListN.{length, take, drop, length-append, length-drop, take-append-drop}
use lib.Seq.{take-append-add, drop-append-add, length-take-le}
use Rattle.framing.specs.Pieces.{Item, broken}
use Rattle.packets.specs.Reading.{packet_bytes}
use Rattle.scanning.specs.declared.events.Row.{Row}
use Rattle.scanning.specs.Events.{packets_in, none_yet}
use Rattle.unit_starts.specs.declared.Found.{Found}
use Rattle.unit_starts.specs.Finding.{nothing_found, found_from, rows_from, lasts_over, found_in, rows_in}
use Rattle.unit_starts.proofs.Running.{parted, found_then, rows_then, lasts_then, last_part}
use Rattle.fed_packets.specs.Feeding.{Progress, at_first, packets_whole, whole_of, left_of, gone_on, fed, rows_fed, fed_all, rows_fed_all, ended_by, ended, joined_up, HoweverCut}

-- ---- the bytes: those of one piece, and then those of another

module _ (first second : List ℕ) where
  abbrev packets : ℕ
  packets = packets_whole first

  abbrev others : ℕ
  others = packets_whole (left_of first ++ second)

  whole_long : length (whole_of first) ≡ packet_bytes * packets
  whole_long =
      let within : packet_bytes * (length first / packet_bytes) ≤ length first = omega arith in
      length-take-le (packet_bytes * packets) first within

  halves : whole_of first ++ left_of first ≡ first
  halves = take-append-drop (packet_bytes * packets) first

  all_bytes : whole_of first ++ (left_of first ++ second) ≡ first ++ second
  all_bytes = sym (append_assoc (whole_of first) (left_of first) second) ∙ ap (λ (l : List ℕ). l ++ second) halves

  many : packets_whole (first ++ second) ≡ packets + others
  many =
      let sum = length-append first second in
      let behind = length-append (left_of first) second in
      let left = length-drop (packet_bytes * packets) first in
      omega (arith, sum, behind, left)

  places : packet_bytes * packets_whole (first ++ second) ≡ length (whole_of first) + packet_bytes * others
  places = omega (arith, many, whole_long)

  pub whole_then : whole_of (first ++ second) ≡ whole_of first ++ whole_of (left_of first ++ second)
  whole_then =
      ap₂ take places (sym all_bytes) ∙ take-append-add (whole_of first) (left_of first ++ second) (packet_bytes * others)

  pub left_then : left_of (first ++ second) ≡ left_of (left_of first ++ second)
  left_then = ap₂ drop places (sym all_bytes) ∙ drop-append-add (whole_of first) (left_of first ++ second) (packet_bytes * others)

  pub packets_then : packets_in (whole_of (first ++ second)) ≡ packets_in (whole_of first) ++ packets_in (whole_of (left_of first ++ second))
  packets_then = ap packets_in whole_then ∙ (parted packets (whole_of first) (whole_of (left_of first ++ second)) whole_long).joined

  pub packets_many : length (packets_in (whole_of first)) ≡ packets
  packets_many = (parted packets (whole_of first) [] whole_long).many

  pub counted_then : packets_whole (first ++ second) ≡ packets_whole first + packets_whole (left_of first ++ second)
  counted_then = many

-- ---- what is known: after one piece, and then after another

module _ (table : List ℕ) (p : Progress) (first second : List ℕ) where
  abbrev is : List Item
  is = packets_in (whole_of first)

  abbrev js : List Item
  js = packets_in (whole_of (left_of first ++ second))

  same_number : p.number + length is ≡ p.number + packets_whole first
  same_number = ap (λ (n : ℕ). p.number + n) (packets_many first second)

  gone_number : p.number + packets_whole (first ++ second) ≡ p.number + packets_whole first + packets_whole (left_of first ++ second)
  gone_number = omega (arith, counted_then first second)

  gone_lasts : lasts_over table (packets_in (whole_of (first ++ second))) p.lasts ≡ lasts_over table js (lasts_over table is p.lasts)
  gone_lasts = ap (λ (k : List Item). lasts_over table k p.lasts) (packets_then first second) ∙ lasts_then table is js p.lasts

  gone_found : found_from table p.number (packets_in (whole_of (first ++ second))) p.lasts p.found
      ≡ found_from table (p.number + packets_whole first) js (lasts_over table is p.lasts) (found_from table p.number is p.lasts p.found)
  gone_found =
      ap (λ (k : List Item). found_from table p.number k p.lasts p.found) (packets_then first second)
      ∙ found_then table p.number is js p.lasts p.found
      ∙ ap (λ (n : ℕ). found_from table n js (lasts_over table is p.lasts) (found_from table p.number is p.lasts p.found)) same_number

  pub gone_then : gone_on table p (first ++ second) ≡ gone_on table (gone_on table p first) (left_of first ++ second)
  gone_then = λ i. record { part = left_then first second i; number = gone_number i; lasts = gone_lasts i; found = gone_found i }

  pub gone_rows : rows_from table p.number (packets_in (whole_of (first ++ second))) p.lasts
      ≡ rows_from table p.number is p.lasts ++ rows_from table (p.number + packets_whole first) js (lasts_over table is p.lasts)
  gone_rows =
      ap (λ (k : List Item). rows_from table p.number k p.lasts) (packets_then first second)
      ∙ rows_then table p.number is js p.lasts
      ∙ ap (λ (n : ℕ). rows_from table p.number is p.lasts ++ rows_from table n js (lasts_over table is p.lasts)) same_number

-- TWO PIECES ARE ONE
module _ (table : List ℕ) (p : Progress) (xs ys : List ℕ) where
  pub fed_then : fed table (fed table p xs) ys ≡ fed table p (xs ++ ys)
  fed_then = sym (gone_then table p (p.part ++ xs) ys) ∙ ap (gone_on table p) (append_assoc p.part xs ys)

  pub rows_fed_then : rows_fed table p xs ++ rows_fed table (fed table p xs) ys ≡ rows_fed table p (xs ++ ys)
  rows_fed_then =
      sym (gone_rows table p (p.part ++ xs) ys) ∙ ap (λ (l : List ℕ). rows_from table p.number (packets_in (whole_of l)) p.lasts) (append_assoc p.part xs ys)

-- ---- no bytes, and many pieces

pub none_whole : (bytes : List ℕ) → length bytes < packet_bytes → packets_whole bytes ≡ 0
none_whole bytes h = omega arith

module _ (table : List ℕ) where
  pub nothing_gone : (p : Progress) → length p.part < packet_bytes → gone_on table p p.part ≡ p
  nothing_gone p h =
      ap (λ (n : ℕ). record {
        part = drop (packet_bytes * n) p.part;
        number = p.number + n;
        lasts = lasts_over table (packets_in (take (packet_bytes * n) p.part)) p.lasts;
        found = found_from table p.number (packets_in (take (packet_bytes * n) p.part)) p.lasts p.found;
      }) (none_whole p.part h)
      ∙ ap (λ (n : ℕ). record { part = p.part; number = n; lasts = p.lasts; found = p.found }) (add-zero p.number)

  pub fed_nothing : (p : Progress) → length p.part < packet_bytes → fed table p [] ≡ p
  fed_nothing p h = ap (gone_on table p) (append-nil p.part) ∙ nothing_gone p h

  rows_nothing : (p : Progress) → length p.part < packet_bytes → rows_fed table p [] ≡ []
  rows_nothing p h =
      ap (λ (l : List ℕ). rows_from table p.number (packets_in (whole_of l)) p.lasts) (append-nil p.part)
      ∙ ap (λ (n : ℕ). rows_from table p.number (packets_in (take (packet_bytes * n) p.part)) p.lasts) (none_whole p.part h)

  -- less than a packet is left over
  pub part_short : (p : Progress) (piece : List ℕ) → length (fed table p piece).part < packet_bytes
  part_short p piece = omega (arith, length-drop (packet_bytes * packets_whole (p.part ++ piece)) (p.part ++ piece))

  fed_all_lem : (p : Progress) → length p.part < packet_bytes → (pieces : List (List ℕ)) → fed_all table p pieces ≡ fed table p (joined_up pieces)
  fed_all_lem p h [] = sym (fed_nothing p h)
  fed_all_lem p h (piece ∷ pieces) = fed_all_lem (fed table p piece) (part_short p piece) pieces ∙ fed_then table p piece (joined_up pieces)

  rows_fed_all_lem : (p : Progress) → length p.part < packet_bytes → (pieces : List (List ℕ)) → rows_fed_all table p pieces ≡ rows_fed table p (joined_up pieces)
  rows_fed_all_lem p h [] = sym (rows_nothing p h)
  rows_fed_all_lem p h (piece ∷ pieces) =
      ap (λ (l : List Row). rows_fed table p piece ++ l) (rows_fed_all_lem (fed table p piece) (part_short p piece) pieces) ∙ rows_fed_then table p piece (joined_up pieces)

  -- ---- the whole recording

  module _ (bytes : List ℕ) where
    abbrev whole_items : List Item
    whole_items = packets_in (whole_of bytes)

    abbrev behind : List (List ℕ)
    behind = lasts_over table whole_items none_yet

    abbrev found_whole : Found
    found_whole = found_from table 0 whole_items none_yet nothing_found

    all_packets : packets_in bytes ≡ whole_items ++ packets_in (left_of bytes)
    all_packets =
        ap packets_in (sym (take-append-drop (packet_bytes * packets_whole bytes) bytes))
        ∙ (parted (packets_whole bytes) (whole_of bytes) (left_of bytes) (whole_long bytes [])).joined

    found_left : found_in table bytes ≡ found_from table (0 + length whole_items) (packets_in (left_of bytes)) behind found_whole
    found_left = ap (λ (k : List Item). found_from table 0 k none_yet nothing_found) all_packets ∙ found_then table 0 whole_items (packets_in (left_of bytes)) none_yet nothing_found

    rows_left : rows_in table bytes ≡ rows_from table 0 whole_items none_yet ++ rows_from table (0 + length whole_items) (packets_in (left_of bytes)) behind
    rows_left = ap (λ (k : List Item). rows_from table 0 k none_yet) all_packets ∙ rows_then table 0 whole_items (packets_in (left_of bytes)) none_yet

    left_short : length (left_of bytes) < packet_bytes
    left_short = omega (arith, length-drop (packet_bytes * packets_whole bytes) bytes)

    -- a part of a packet gives 30, and no row
    by_part : (rest : List ℕ) → length rest < packet_bytes
        → (ended_by found_whole (0 + packets_whole bytes) rest ≡ found_from table (0 + length whole_items) (packets_in rest) behind found_whole)
        × (rows_from table (0 + length whole_items) (packets_in rest) behind ≡ [])
    by_part [] h = (refl, refl)
    by_part (byte ∷ rest) h =
        let one : packets_in (byte ∷ rest) ≡ broken ∷ [] = last_part (byte ∷ rest) (omega arith) h in
        let number : 0 + packets_whole bytes ≡ 0 + length whole_items = ap (λ (n : ℕ). 0 + n) (sym (packets_many bytes [])) in (
          ap (λ (n : ℕ). ended_by found_whole n (byte ∷ rest)) number ∙ sym (ap (λ (k : List Item). found_from table (0 + length whole_items) k behind found_whole) one),
          ap (λ (k : List Item). rows_from table (0 + length whole_items) k behind) one,
        )

    pub ended_whole : ended (fed table at_first bytes) ≡ found_in table bytes
    ended_whole = (by_part (left_of bytes) left_short).0 ∙ sym found_left

    pub rows_whole : rows_fed table at_first bytes ≡ rows_in table bytes
    rows_whole =
        sym (append-nil (rows_from table 0 whole_items none_yet))
        ∙ ap (λ (l : List Row). rows_from table 0 whole_items none_yet ++ l) (sym (by_part (left_of bytes) left_short).1)
        ∙ sym rows_left

-- THE THEOREM
pub however_cut : (table : List ℕ) (pieces : List (List ℕ)) → HoweverCut table pieces
however_cut table pieces =
    record {
      finds = ap ended (fed_all_lem table at_first (omega arith) pieces) ∙ ended_whole table (joined_up pieces);
      gives = rows_fed_all_lem table at_first (omega arith) pieces ∙ rows_whole table (joined_up pieces);
    }
