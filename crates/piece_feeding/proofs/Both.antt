-- One half of a piece after the other: what is known goes on over both, and their rows stand one after another.
-- Assumes nothing.
use Prim.Native.Nat.{ℕ, zero, suc, ◌+◌, ◌-◌, ◌*◌, ◌/◌, ◌≤◌, ◌<◌, min}
use mathlib.Core.Path.{◌≡◌, sym, ap, ap₂, subst, ◌∙◌}
use mathlib.Core.List.{List, [], ◌∷◌, ◌++◌, map, append-nil}
use native.Mathlib.Decide.{dec_lt}
use native.Mathlib.Omega.{arith}
use lib.ListN.{length, take, drop, length-map, length-append, length-drop, take-append-drop}
use lib.Seq.{sets, take_all, take-length, length-take-le}
use Rattle.buffers.proofs.Laws.{sets_append}
use Rattle.combinators.specs.Lists.{part_to_end}
use Rattle.packets.specs.Reading.{packet_bytes}
use Rattle.scanning.specs.declared.events.Row.{Row}
use Rattle.scanning.specs.Events.{packets_in}
use Rattle.unit_starts.specs.Finding.{packet_in}
use Rattle.unit_starts.proofs.Running.{rows_counted_from}
use Rattle.unit_starts.proofs.Walking.{map_append}
use Rattle.recording_rows.specs.Columns.{Columns, columns, room_in, index_in, decoding_in, match_in, tref_in}
use Rattle.passing.specs.Passing.{stored_from, with_room}
use Rattle.fed_packets.specs.Feeding.{Progress as Known, packets_whole, whole_of, fed, rows_fed}
use Rattle.fed_packets.proofs.Cut.{fed_then, rows_fed_then}
use Rattle.feeding.specs.declared.Progress.{Progress}
use Rattle.feeding.specs.Pieces.{known_by, Ready, Feeds}

-- ---- the columns

column_then : (f : Row → ℕ) (old : List ℕ) (at : ℕ) (done piece : List Row) {place : ℕ} → place ≡ at + length done
    → sets (sets old at (map f done)) place (map f piece) ≡ sets old at (map f (done ++ piece))
column_then f old at done piece {place} e =
    let size : place ≡ at + length (map f done) = omega (arith, e, length-map done f) in
    ap (λ (n : ℕ). sets (sets old at (map f done)) n (map f piece)) size
    ∙ sets_append old at (map f done) (map f piece)
    ∙ ap (sets old at) (sym (map_append f done piece))

stored_then : (old : Columns) (at : ℕ) (done piece : List Row) {place : ℕ} → place ≡ at + length done
    → stored_from place piece (stored_from at done old) ≡ stored_from at (done ++ piece) old
stored_then old at done piece e =
    λ i. columns (column_then index_in old.indices at done piece e i) (column_then decoding_in old.decodings at done piece e i)
    (column_then match_in old.matches at done piece e i) (column_then tref_in old.trefs at done piece e i) (column_then packet_in old.packets at done piece e i)

-- the first of two lists one after the other
take_both : {A : Type 0} (n : ℕ) (xs ys : List A) → take n (xs ++ ys) ≡ take n xs ++ take (n - length xs) ys
take_both zero xs ys =
    let none : 0 - length xs ≡ 0 = omega arith in
    sym (ap (λ (k : ℕ). take k ys) none)
take_both (suc n) [] ys =
    let all : suc n - 0 ≡ suc n = omega arith in
    sym (ap (λ (k : ℕ). take k ys) all)
take_both {A = A} (suc n) (x ∷ xs) ys =
    let one : suc n - suc (length xs) ≡ n - length xs = omega arith in
    ap (λ (l : List A). x ∷ l) (take_both n xs ys) ∙ sym (ap (λ (k : ℕ). x ∷ take n xs ++ take k ys) one)

-- rows that there is room for, and those behind them that there is still room for
pub fitting_then : (old : Columns) (room at : ℕ) (done piece : List Row) {place : ℕ} → place ≡ at + length done
    → stored_from place (with_room room place piece) (stored_from at (with_room room at done) old) ≡ stored_from at (with_room room at (done ++ piece)) old
fitting_then old room at done piece {place} e = go (dec_lt (room - at) (length done))
  where
    left : room - place ≡ room - at - length done
    left = omega arith

    both : with_room room at (done ++ piece) ≡ with_room room at done ++ with_room room place piece
    both = take_both (room - at) done piece ∙ ap (λ (n : ℕ). take (room - at) done ++ take n piece) (sym left)

    go : Dec (room - at < length done)
        → stored_from place (with_room room place piece) (stored_from at (with_room room at done) old) ≡ stored_from at (with_room room at (done ++ piece)) old
    go (yes h) =
        let full : room - place ≡ 0 = omega arith in
        let nothing : with_room room place piece ≡ [] = ap (λ (n : ℕ). take n piece) full in
        ap (λ (rows : List Row). stored_from place rows (stored_from at (with_room room at done) old)) nothing
        ∙ sym (ap (λ (rows : List Row). stored_from at rows old) (both ∙ ap (λ (rows : List Row). with_room room at done ++ rows) nothing ∙ append-nil (with_room room at done)))
    go (no h) =
        let all : with_room room at done ≡ done = take_all (room - at) done (omega arith) in
        stored_then old at (with_room room at done) (with_room room place piece) (e ∙ ap (λ (rows : List Row). at + length rows) (sym all))
        ∙ sym (ap (λ (rows : List Row). stored_from at rows old) both)

-- ---- two pieces

module _ (table first second : List ℕ) (room : ℕ) {p q r : Progress} {part part' part'' kept kept' kept'' ends ends' ends'' : List ℕ} {old mid new : Columns}
    (one : Feeds table first room p part kept ends old q part' kept' ends' mid) (two : Feeds table second room q part' kept' ends' mid r part'' kept'' ends'' new) where
  abbrev known : Known
  known = known_by p part kept ends

  -- as many rows are counted as there are
  counted : q.found.rows ≡ p.found.rows + length (rows_fed table known first)
  counted = ap (λ (k : Known). k.found.rows) one.goes_on ∙ rows_counted_from table p.number (packets_in (whole_of (known.part ++ first))) known.lasts p.found

  all_stored : new ≡ stored_from p.found.rows (with_room room p.found.rows (rows_fed table known (first ++ second))) old
  all_stored =
      two.stored
      ∙ ap (stored_from q.found.rows (with_room room q.found.rows (rows_fed table (known_by q part' kept' ends') second))) one.stored
      ∙ fitting_then old room p.found.rows (rows_fed table known first) (rows_fed table (known_by q part' kept' ends') second) counted
      ∙ ap (λ (rows : List Row). stored_from p.found.rows (with_room room p.found.rows rows) old)
      (ap (λ (k : Known). rows_fed table known first ++ rows_fed table k second) one.goes_on ∙ rows_fed_then table known first second)

  pub both_fed : Feeds table (first ++ second) room p part kept ends old r part'' kept'' ends'' new
  both_fed =
      record {
        goes_on = two.goes_on ∙ ap (λ (k : Known). fed table k second) one.goes_on ∙ fed_then table known first second;
        ready = two.ready;
        stored = all_stored;
      }

-- the two halves of some bytes
pub halves_fed : {table bytes : List ℕ} (n : ℕ) {room : ℕ} {p q r : Progress} {part part' part'' kept kept' kept'' ends ends' ends'' : List ℕ} {old mid new : Columns}
    → Feeds table (take n bytes) room p part kept ends old q part' kept' ends' mid
    → Feeds table (take (length bytes - n) (drop n bytes)) room q part' kept' ends' mid r part'' kept'' ends'' new
    → Feeds table bytes room p part kept ends old r part'' kept'' ends'' new
halves_fed {table} {bytes} n {room} {p} {q} {r} {part} {part'} {part''} {kept} {kept'} {kept''} {ends} {ends'} {ends''} {old} {mid} {new} one two =
    subst (λ (l : List ℕ). Feeds table l room p part kept ends old r part'' kept'' ends'' new) (take-append-drop n bytes)
    (both_fed table (take n bytes) (drop n bytes) room one
    (subst (λ (l : List ℕ). Feeds table l room q part' kept' ends' mid r part'' kept'' ends'' new) (part_to_end bytes n) two))

-- ---- places

module _ (part count long : ℕ) (e : count ≡ min (packet_bytes - part) long) where
  pub count_long : count ≤ long
  count_long = omega arith

  front_fits : part < packet_bytes → part + count ≤ packet_bytes
  front_fits h = omega arith

  count_all : part < packet_bytes → count < long → part + count ≡ packet_bytes
  count_all h l = omega arith

no_rest : (size : ℕ) → size ≡ packet_bytes → size - packet_bytes * (size / packet_bytes) ≡ 0
no_rest size e = omega arith

at_most_one : (size : ℕ) → size ≤ packet_bytes → size / packet_bytes ≤ 1
at_most_one size e = omega arith

module _ {table : List ℕ} (bytes : List ℕ) {count room : ℕ} {p q : Progress} {part part' kept kept' ends ends' : List ℕ} {old mid : Columns}
    (e : count ≡ min (packet_bytes - p.part) (length bytes)) (ready : Ready p part kept ends)
    (one : Feeds table (take count bytes) room p part kept ends old q part' kept' ends' mid) where
  front_long : length (take count bytes) ≡ count
  front_long = length-take-le count bytes (count_long p.part count (length bytes) e)

  carried_long : length (take p.part part ++ take count bytes) ≡ p.part + count
  carried_long =
      length-append (take p.part part) (take count bytes)
      ∙ ap₂ ◌+◌ (length-take-le p.part part (omega (arith, ready.long, ready.short))) front_long

  -- where a part is left over, the piece is at its end
  pub all_used : (q.part ≡ 0 → ⊥) → take count bytes ≡ bytes
  all_used f = go (dec_lt count (length bytes))
    where
      go : Dec (count < length bytes) → take count bytes ≡ bytes
      go (yes l) =
          let size : length (take p.part part ++ take count bytes) ≡ packet_bytes = carried_long ∙ count_all p.part count (length bytes) e ready.short l in
          absurd
          (f
          (sym (length-take-le q.part part' (omega (arith, one.ready.long, one.ready.short)))
          ∙ ap (λ (k : Known). length k.part) one.goes_on
          ∙ length-drop (packet_bytes * packets_whole (take p.part part ++ take count bytes)) (take p.part part ++ take count bytes)
          ∙ no_rest (length (take p.part part ++ take count bytes)) size))
      go (no l) =
          let all : count ≡ length bytes = omega (arith, count_long p.part count (length bytes) e) in
          ap (λ (n : ℕ). take n bytes) all ∙ take-length bytes

  -- one packet more at the most
  pub number_next : q.number ≤ p.number + 1
  number_next =
      subst (λ (n : ℕ). n ≤ p.number + 1) (sym (ap (λ (k : Known). k.number) one.goes_on))
      (add_le p.number _ (at_most_one (length (take p.part part ++ take count bytes))
      (subst (λ (n : ℕ). n ≤ packet_bytes) (sym carried_long) (front_fits p.part count (length bytes) e ready.short))))
    where
      add_le : (a n : ℕ) → n ≤ 1 → a + n ≤ a + 1
      add_le a n h = omega arith

pub fits_front : (part count long : ℕ) (bytes : List ℕ) → long ≡ length bytes → count ≡ min (packet_bytes - part) long → part < packet_bytes
    → part + length (take count bytes) ≤ packet_bytes
fits_front part count long bytes l e h =
    subst (λ (n : ℕ). part + n ≤ packet_bytes)
    (sym (length-take-le count bytes (subst (λ (n : ℕ). count ≤ n) l (count_long part count long e)))) (front_fits part count long e h)

-- the room of columns that come back as long as they were
pub same_room : (room : ℕ) (a b c d e a' b' c' d' e' : List ℕ) → length a' ≡ length a → length b' ≡ length b → length c' ≡ length c → length d' ≡ length d
    → length e' ≡ length e → room ≤ room_in (columns a b c d e) → room ≤ room_in (columns a' b' c' d' e')
same_room room a b c d e a' b' c' d' e' p q r s t h =
    subst (λ (n : ℕ). room ≤ n) (λ i. min (sym p i) (min (sym q i) (min (sym r i) (min (sym s i) (sym t i))))) h

-- a piece that was used up
pub used_up : {table l bytes : List ℕ} {room : ℕ} {p q : Progress} {part part' kept kept' ends ends' : List ℕ} {old new : Columns} → l ≡ bytes
    → Feeds table l room p part kept ends old q part' kept' ends' new → Feeds table bytes room p part kept ends old q part' kept' ends' new
used_up {table} {l} {bytes} {room} {p} {q} {part} {part'} {kept} {kept'} {ends} {ends'} {old} {new} e f =
    subst (λ (x : List ℕ). Feeds table x room p part kept ends old q part' kept' ends' new) e f

-- numbers stay in their range
pub rest_bound : {bound next : ℕ} (number : ℕ) (bytes : List ℕ) (count : ℕ) → next ≤ number + 1 → number + length bytes + packet_bytes < bound
    → next + length (take (length bytes - count) (drop count bytes)) < bound
rest_bound {bound} {next} number bytes count h k =
    omega (arith, ap length (part_to_end bytes count) ∙ length-drop count bytes)
