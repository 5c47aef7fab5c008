-- The walk over the packets of some bytes: its invariant, a start, a turn and the end; and the whole recording. What is left, from what is known now, gives the answer; and the packets
-- of the rows so far are noted.
-- Assumes nothing.
use Prim.Native.Nat.{ℕ, ◌+◌, ◌*◌, ◌≤◌, ◌<◌}
use mathlib.Core.Path.{◌≡◌, refl, sym, ap, ap₂, subst, ◌∙◌}
use mathlib.Core.List.{List, [], ◌∷◌, ◌++◌, map, append_assoc, append-nil}
use native.Mathlib.Nat.{add-zero}
use native.Mathlib.Omega.{arith}
use lib.ListN.{length, take, drop, replicate, length-map, length-drop, length-append, take-append-drop}
use lib.Seq.{sets, length-take-le}
use Rattle.buffers.proofs.Laws.{sets_append}
use Rattle.framing.specs.Pieces.{Item, broken}
use Rattle.packets.specs.Reading.{packet_bytes}
use Rattle.scanning.specs.declared.events.Row.{Row}
use Rattle.scanning.specs.declared.events.Event.{Event}
use Rattle.scanning.specs.declared.events.Event.TheVariants.{Fault}
use Rattle.scanning.specs.Events.{packets_in, none_yet, packet_event, packet_lasts, packet_at, lasts_of, EndsWithin, Passes}
use Rattle.unit_starts.specs.declared.Found.{Found}
use Rattle.unit_starts.specs.Finding.{nothing_found, noted, row_in, packet_in, found_from, rows_from, lasts_over, found_in, rows_in, Walks}
use Rattle.unit_starts.proofs.Running.{packets_from, found_from_lem, rows_from_lem, lasts_from, after, found_next, rows_next, lasts_next, passed, Parted, parted, found_then, rows_then, last_part, no_part, rows_noted, rows_counted_from, rows_few, one_row}

pub map_append : (f : Row → ℕ) (a b : List Row) → map f (a ++ b) ≡ map f a ++ map f b
map_append f [] b = refl
map_append f (x ∷ a) b = ap (λ (l : List ℕ). f x ∷ l) (map_append f a b)

-- one piece noted after another
noted_then : (old : List ℕ) (at : ℕ) (done piece : List Row) (place : ℕ) → place ≡ at + length done
    → sets (sets old at (map packet_in done)) place (map packet_in piece) ≡ sets old at (map packet_in (done ++ piece))
noted_then old at done piece place e =
    let size : place ≡ at + length (map packet_in done) = omega (arith, e, length-map done packet_in) in
    ap (λ (n : ℕ). sets (sets old at (map packet_in done)) n (map packet_in piece)) size
    ∙ sets_append old at (map packet_in done) (map packet_in piece)
    ∙ ap (sets old at) (sym (map_append packet_in done piece))

module _ (table kept bytes : List ℕ) (first packets : ℕ) (found₀ : Found) (ends₀ starts₀ : List ℕ) where
  abbrev lasts₀ : List (List ℕ)
  lasts₀ = lasts_of kept bytes ends₀

  pub record Walking (ends starts : List ℕ) (found : Found) (step : ℕ) : Type 0 where
    pub ends_within : EndsWithin kept bytes ends
    pub inside : step ≤ packets
    pub rows_few : found.rows ≤ first + step
    pub goes_on : found_from_lem table bytes first step (lasts_of kept bytes ends) found ≡ found_from_lem table bytes first 0 lasts₀ found₀
    pub lasts_on : lasts_from table bytes first step (lasts_of kept bytes ends) ≡ lasts_from table bytes first 0 lasts₀
    pub done : List Row
    pub counted : found.rows ≡ found₀.rows + length done
    pub content : starts ≡ sets starts₀ found₀.rows (map packet_in done)
    pub rows_on : done ++ rows_from_lem table bytes first step (lasts_of kept bytes ends) ≡ rows_from_lem table bytes first 0 lasts₀

  -- before the first packet
  pub walking_start : EndsWithin kept bytes ends₀ → found₀.rows ≤ first → Walking ends₀ starts₀ found₀ 0
  walking_start within few =
      record {
        ends_within = within;
        inside = omega arith;
        rows_few = omega arith;
        goes_on = refl;
        lasts_on = refl;
        done = [];
        counted = sym (add-zero found₀.rows);
        content = refl;
        rows_on = refl;
      }

  module _ (room : packet_bytes * packets ≤ length bytes) where
    -- packets passed over
    pub walking_past : {ends starts : List ℕ} {found : Found} {step next : ℕ} (next-ends : List ℕ) → Walking ends starts found step → Passes table kept bytes ends step packets next next-ends
        → Walking next-ends starts found next
    walking_past {ends} {starts} {found} {step} {next} next-ends w p =
        let same = passed table bytes first p.passed (omega (arith, p.inside)) in
        record {
          ends_within = p.within;
          inside = p.inside;
          rows_few = omega (arith, w.rows_few, p.onward);
          goes_on = sym (same.found found) ∙ w.goes_on;
          lasts_on = sym same.over ∙ w.lasts_on;
          done = w.done;
          counted = w.counted;
          content = w.content;
          rows_on = ap (λ (l : List Row). w.done ++ l) (sym same.rows) ∙ w.rows_on;
        }

    -- and one that was looked at
    pub walking_turn : {ends starts next-starts : List ℕ} {found next-found : Found} {step : ℕ} (next-ends : List ℕ) (event : Event)
        → Walking ends starts found step → step < packets
        → event ≡ packet_event table (first + step) (packet_at bytes step) (lasts_of kept bytes ends)
        → lasts_of kept bytes next-ends ≡ packet_lasts table (packet_at bytes step) (lasts_of kept bytes ends)
        → EndsWithin kept bytes next-ends
        → next-starts ≡ sets starts found.rows (map packet_in (row_in event))
        → next-found ≡ noted (first + step) event found
        → Walking next-ends next-starts next-found (step + 1)
    walking_turn {ends} {starts} {next-starts} {found} {next-found} {step} next-ends event w h is lasts within noting finding =
        let lasts_now : List (List ℕ) = lasts_of kept bytes ends in
        let more : next-found.rows ≡ found.rows + length (row_in event) = ap (λ (f : Found). f.rows) finding ∙ rows_noted (first + step) event found in
        record {
          ends_within = within;
          inside = omega arith;
          rows_few = omega (arith, more, one_row event, w.rows_few);
          goes_on = ap₂ (found_from_lem table bytes first (step + 1)) lasts (finding ∙ ap (λ (e : Event). noted (first + step) e found) is)
              ∙ sym (found_next table bytes first step lasts_now found (omega arith))
              ∙ w.goes_on;
          lasts_on = ap (lasts_from table bytes first (step + 1)) lasts ∙ sym (lasts_next table bytes first step lasts_now (omega arith)) ∙ w.lasts_on;
          done = w.done ++ row_in event;
          counted = omega (arith, more, w.counted, length-append w.done (row_in event));
          content = noting
              ∙ ap (λ (l : List ℕ). sets l found.rows (map packet_in (row_in event))) w.content
              ∙ noted_then starts₀ found₀.rows w.done (row_in event) found.rows w.counted;
          rows_on = append_assoc w.done (row_in event) (rows_from_lem table bytes first (step + 1) (lasts_of kept bytes next-ends))
              ∙ ap (λ (l : List Row). w.done ++ (row_in event ++ l)) (ap (rows_from_lem table bytes first (step + 1)) lasts)
              ∙ ap (λ (e : Event). w.done ++ (row_in e ++ rows_from_lem table bytes first (step + 1) (after table bytes first step lasts_now))) is
              ∙ ap (λ (l : List Row). w.done ++ l) (sym (rows_next table bytes first step lasts_now (omega arith)))
              ∙ w.rows_on;
        }

  -- after the last packet
  pub walking_end : {ends starts : List ℕ} {found : Found} {step : ℕ} → Walking ends starts found step → packets ≤ step → length bytes ≡ packet_bytes * packets
      → Walks table kept bytes first found₀ ends₀ starts₀ ends starts found
  walking_end {ends} {starts} {found} {step} w h size =
      record {
        finds = sym (ap (λ (is : List Item). found_from table (first + step) is lasts found) none) ∙ w.goes_on ∙ ap (λ (n : ℕ). found_from table n (packets_in bytes) lasts₀ found₀) (add-zero first);
        notes = w.content ∙ ap (λ (rows : List Row). sets starts₀ found₀.rows (map packet_in rows)) all_rows;
        lasts = sym (ap (λ (is : List Item). lasts_over table is lasts) none) ∙ w.lasts_on;
        within = w.ends_within;
      }
    where
      lasts : List (List ℕ)
      lasts = lasts_of kept bytes ends

      all : step ≡ packets
      all = omega (arith, w.inside)

      none : packets_from bytes step ≡ []
      none = ap (packets_from bytes) all ∙ no_part bytes packets size

      all_rows : w.done ≡ rows_from table first (packets_in bytes) lasts₀
      all_rows =
          sym (append-nil w.done)
          ∙ ap (λ (l : List Row). w.done ++ l) (sym (ap (λ (is : List Item). rows_from table (first + step) is lasts) none))
          ∙ w.rows_on
          ∙ ap (λ (n : ℕ). rows_from table n (packets_in bytes) lasts₀) (add-zero first)

-- ---- the whole recording: its packets, and what is left over

module _ (table kept bytes : List ℕ) (packets : ℕ) {before found : Found} {starts ends new-starts : List ℕ} (within : packet_bytes * packets ≤ length bytes)
    (start : before ≡ nothing_found)
    (walked : Walks table kept (take (packet_bytes * packets) bytes) 0 before (replicate 64 0) starts ends new-starts found) where
  w : Walks table kept (take (packet_bytes * packets) bytes) 0 nothing_found (replicate 64 0) starts ends new-starts found
  w = subst (λ (f : Found). Walks table kept (take (packet_bytes * packets) bytes) 0 f (replicate 64 0) starts ends new-starts found) start walked

  abbrev front : List ℕ
  front = take (packet_bytes * packets) bytes

  abbrev rest : List ℕ
  rest = drop (packet_bytes * packets) bytes

  halves : Parted packets front rest
  halves = parted packets front rest (length-take-le (packet_bytes * packets) bytes within)

  all_packets : packets_in bytes ≡ packets_in front ++ packets_in rest
  all_packets = ap packets_in (sym (take-append-drop (packet_bytes * packets) bytes)) ∙ halves.joined

  abbrev behind : List (List ℕ)
  behind = lasts_over table (packets_in front) none_yet

  -- what is found behind the whole packets, and which rows
  found_behind : found_from table packets (packets_in rest) behind found ≡ found_in table bytes
  found_behind =
      let number : packets ≡ 0 + length (packets_in front) = omega (arith, halves.many) in
      ap₂ (λ (n : ℕ) (f : Found). found_from table n (packets_in rest) behind f) number w.finds
      ∙ sym (found_then table 0 (packets_in front) (packets_in rest) none_yet nothing_found)
      ∙ ap (λ (is : List Item). found_from table 0 is none_yet nothing_found) (sym all_packets)

  rows_behind : rows_from table (0 + length (packets_in front)) (packets_in rest) behind ≡ [] → new-starts ≡ sets starts 0 (map packet_in (rows_in table bytes))
  rows_behind none =
      w.notes
      ∙ ap (λ (rows : List Row). sets starts 0 (map packet_in rows))
      (sym (append-nil (rows_from table 0 (packets_in front) none_yet))
      ∙ ap (λ (l : List Row). rows_from table 0 (packets_in front) none_yet ++ l) (sym none)
      ∙ sym (rows_then table 0 (packets_in front) (packets_in rest) none_yet)
      ∙ ap (λ (is : List Item). rows_from table 0 is none_yet) (sym all_packets))

  -- no more rows than packets
  pub judged_few : found.rows ≤ packets
  judged_few =
      omega (
        arith,
        ap (λ (f : Found). f.rows) w.finds ∙ rows_counted_from table 0 (packets_in front) none_yet nothing_found,
        rows_few table 0 (packets_in front) none_yet,
        halves.many,
      )

  pub judged_part : {answer : Found} → packet_bytes * packets < length bytes → length bytes < packet_bytes * packets + packet_bytes → answer ≡ noted packets (Fault 30) found
      → (answer ≡ found_in table bytes) × (new-starts ≡ sets starts 0 (map packet_in (rows_in table bytes)))
  judged_part h l e =
      let left = length-drop (packet_bytes * packets) bytes in
      let one : packets_in rest ≡ broken ∷ [] = last_part rest (omega arith) (omega arith) in (
        e ∙ sym (ap (λ (is : List Item). found_from table packets is behind found) one) ∙ found_behind,
        rows_behind (ap (λ (is : List Item). rows_from table (0 + length (packets_in front)) is behind) one),
      )

  pub judged_whole : length bytes ≡ packet_bytes * packets → (found ≡ found_in table bytes) × (new-starts ≡ sets starts 0 (map packet_in (rows_in table bytes)))
  judged_whole e =
      let none : packets_in rest ≡ [] = no_part bytes packets e in (
        sym (ap (λ (is : List Item). found_from table packets is behind found) none) ∙ found_behind,
        rows_behind (ap (λ (is : List Item). rows_from table (0 + length (packets_in front)) is behind) none),
      )
