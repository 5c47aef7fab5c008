-- A piece of whole packets passed: the packets that were noted are those of its rows, as many as there is room for.
-- Assumes nothing.
use Prim.Native.Nat.{ℕ, zero, suc, ◌+◌, ◌-◌, ◌*◌, ◌≤◌, ◌<◌, min}
use mathlib.Core.Path.{◌≡◌, refl, sym, ap, ap₂, subst, ◌∙◌}
use mathlib.Core.Bool.{Bool, true, false, cond}
use mathlib.Core.List.{List, [], ◌∷◌, ◌++◌, map, append_assoc}
use native.Mathlib.Decide.{dec_lt}
use native.Mathlib.Nat.{le_trans, zero-add}
use native.Mathlib.Omega.{arith}
use lib.ListN.{length, get_or, set, take, drop, length-set, length-map, length-take, get_or-eq_default, take-append-drop}
use lib.Seq.{sets, sets-eq, length-sets, drop_at, take-nil, take-append_seam, take-set-lt, drop-set-lt, set_out, get_or-take, length-take-le}
use Rattle.framing.specs.Pieces.{Item, whole, broken}
use Rattle.packets.specs.Reading.{packet_bytes, packet_of}
use Rattle.packets.specs.Judging.{lost_sync}
use Rattle.scanning.specs.declared.events.Row.{Row}
use Rattle.scanning.specs.Events.{layers, packets_in, layer_of, on_layer, last_by, step_in, lasts_after, lasts_from, lasts_of, EndsWithin}
use Rattle.unit_starts.specs.declared.Found.{Found}
use Rattle.unit_starts.specs.Finding.{packet_in, found_from, rows_from, lasts_over, Walks}
use Rattle.unit_starts.proofs.Running.{rows_counted_from}
use Rattle.recording_rows.specs.Columns.{Columns, columns, room_in, Beside, beside, stored_beside, room_beside}
use Rattle.recording_rows.specs.Again.{row_from, Inside, Starts}
use Rattle.recording_rows.proofs.Again.{rows_again, rows_inside}
use Rattle.recording_rows.proofs.Laying.{room_beside_lem}
use Rattle.kept_packets.specs.Keeping.{Kept}
use Rattle.kept_packets.proofs.Settling.{low_same, lasts_long}
use Rattle.passing.specs.Passing.{Held, stored_from, with_room, Passed}

-- ---- the last packets, as they are kept between pieces

module _ {kept ends : List ℕ} (held : Held kept ends) where
  -- a layer that has one is one of 64
  of_few : (i : ℕ) → get_or ends i 0 ≡ 1 → packet_bytes * i + packet_bytes ≤ length kept
  of_few i e = go (dec_lt i (length ends))
    where
      go : Dec (i < length ends) → packet_bytes * i + packet_bytes ≤ length kept
      go (yes h) = omega (arith, held.many, held.room)
      go (no h) =
          let none : ◌≡◌ {A = ℕ} (get_or ends i 0) 0 = get_or-eq_default ends 0 {n = i} (omega arith) in
          absurd (omega (arith, e, none))

  pub held_within : (bytes : List ℕ) → EndsWithin kept bytes ends
  held_within bytes i = record { of_kept = of_few i; whole_one = λ h. absurd (omega (arith, held.few i)); inside = λ h. absurd (omega (arith, held.few i)) }

few_same : (kept bytes : List ℕ) (from : ℕ) (ends : List ℕ) → ((i : ℕ) → get_or ends i 0 ≤ 1) → lasts_from kept [] from ends ≡ lasts_from kept bytes from ends
few_same kept bytes from [] few = refl
few_same kept bytes from (e ∷ ends) few =
    ap₂ (λ (l : List ℕ) (ls : List (List ℕ)). l ∷ ls) (low_same kept kept bytes from e (few zero) refl) (few_same kept bytes (suc from) ends (λ i. few (suc i)))

-- there are as many as before
lasts_kept : (table : List ℕ) (i : Item) (lasts : List (List ℕ)) → length (lasts_after table i lasts) ≡ length lasts
lasts_kept table broken lasts = refl
lasts_kept table (whole packet rest) lasts = go (lost_sync (packet_of packet)) (on_layer table packet)
  where
    go : (s l : Bool)
        → length (cond s lasts (cond l (set lasts (layer_of table packet) (last_by (step_in table lasts packet) (get_or lasts (layer_of table packet) []) packet)) lasts)) ≡ length lasts
    go true l = refl
    go false true = length-set lasts (layer_of table packet) (last_by (step_in table lasts packet) (get_or lasts (layer_of table packet) []) packet)
    go false false = refl

over_long : (table : List ℕ) (is : List Item) (lasts : List (List ℕ)) → length (lasts_over table is lasts) ≡ length lasts
over_long table [] lasts = refl
over_long table (i ∷ is) lasts = over_long table is (lasts_after table i lasts) ∙ lasts_kept table i lasts

-- ---- what was noted

-- a list stored into the front of another is stored there as far as the front goes
front_sets : (l vs : List ℕ) (at room : ℕ) → sets (take room l) at vs ++ drop room l ≡ sets l at (take (room - at) vs)
front_sets l [] at room = take-append-drop room l ∙ sym (ap (sets l at) (take-nil (room - at)))
front_sets l (v ∷ vs) at room = go (dec_lt at room) (λ x. front_sets x vs (suc at) room)
  where
    go : Dec (at < room) → ((x : List ℕ) → sets (take room x) (suc at) vs ++ drop room x ≡ sets x (suc at) (take (room - suc at) vs))
        → sets (set (take room l) at v) (suc at) vs ++ drop room l ≡ sets l at (take (room - at) (v ∷ vs))
    go (yes h) others =
        let one : room - at ≡ suc (room - suc at) = omega arith in
        ap₂ (λ (x y : List ℕ). sets x (suc at) vs ++ y) (sym (take-set-lt room l at v h)) (sym (drop-set-lt room l at v h))
        ∙ others (set l at v)
        ∙ sym (ap (λ (n : ℕ). sets l at (take n (v ∷ vs))) one)
    go (no h) others =
        let none : room - at ≡ 0 = omega arith in
        let none_then : room - suc at ≡ 0 = omega arith in
        let out : length (take room l) ≤ at = omega (arith, length-take room l) in
        ap (λ (x : List ℕ). sets x (suc at) vs ++ drop room l) (set_out (take room l) at v out)
        ∙ others l
        ∙ ap (λ (n : ℕ). sets l (suc at) (take n vs)) none_then
        ∙ sym (ap (λ (n : ℕ). sets l at (take n (v ∷ vs))) none)

-- a list that was stored from a place on, where there is room for it
stored_part : (l vs : List ℕ) (at : ℕ) → at + length vs ≤ length l → take (length vs) (drop at (sets l at vs)) ≡ vs
stored_part l vs at h =
    ap (λ (x : List ℕ). take (length vs) (drop at x)) (sets-eq vs l at h ∙ append_assoc (take at l) vs (drop (at + length vs) l))
    ∙ ap (take (length vs)) (drop_at (take at l) (vs ++ drop (at + length vs) l) at (length-take-le at l (omega arith)))
    ∙ take-append_seam vs (drop (at + length vs) l)

map_take : {A B : Type 0} (f : A → B) (n : ℕ) (l : List A) → map f (take n l) ≡ take n (map f l)
map_take f zero l = refl
map_take f (suc n) [] = refl
map_take {B = B} f (suc n) (x ∷ l) = ap (λ (xs : List B). f x ∷ xs) (map_take f n l)

prefix_inside : (bytes : List ℕ) (first m : ℕ) (l : List ℕ) → Starts bytes first l → Starts bytes first (take m l)
prefix_inside bytes first m l inside i h =
    subst (λ (n : ℕ). Inside bytes first n) (sym (get_or-take m l i 0 (omega (arith, length-take m l)))) (inside i (omega (arith, length-take m l)))

-- ---- places: rows before, rows after, the room, and what is laid

module _ (before after more room from to : ℕ) (f : from ≡ min before room) (t : to ≡ min after room) (c : after ≡ before + more) where
  none_fits : room < before → room - before ≡ 0
  none_fits h = omega arith

  from_before : before ≤ room → from ≡ before
  from_before h = omega arith

  order_is : from ≤ to
  order_is = omega arith

  many_fit : to - from ≡ min (room - before) more
  many_fit = omega arith

few_fit : (before room more : ℕ) → before ≤ room → before + min (room - before) more ≤ room
few_fit before room more h = omega arith

up_to : (from to n : ℕ) → from ≤ to → n ≤ to - from → from + n ≤ to
up_to from to n o h = omega arith

take_most : (n : ℕ) (l : List ℕ) → length (take n l) ≤ n
take_most n l = omega (arith, length-take n l)

not_lt_le : {a b : ℕ} → (a < b → ⊥) → b ≤ a
not_lt_le f = omega arith

-- the room of all columns is that of each
le_five : (n a b c d e : ℕ) → n ≤ min a (min b (min c (min d e))) → n ≤ e
le_five n a b c d e h = omega arith

pub room_each : (room : ℕ) (old : Columns) → room ≤ room_in old → room ≤ length old.packets
room_each room old enough = le_five room (length old.indices) (length old.decodings) (length old.matches) (length old.trefs) (length old.packets) enough

-- ---- the piece

module _ (table bytes : List ℕ) (first : ℕ) (found : Found) (room : ℕ) (kept ends : List ℕ) (old : Columns) (held : Held kept ends)
    (enough : room ≤ room_in old) {new-ends noted : List ℕ} {after : Found}
    (w : Walks table kept bytes first found ends (take room old.packets) new-ends noted after) where
  abbrev before : List (List ℕ)
  before = lasts_of kept bytes ends

  abbrev rows : List Row
  rows = rows_from table first (packets_in bytes) before

  -- those that there is room for, and the packets in which they start
  abbrev fitting : List Row
  fitting = with_room room found.rows rows

  abbrev starts : List ℕ
  starts = map packet_in fitting

  abbrev numbers : List ℕ
  numbers = noted ++ drop room old.packets

  same_lasts : lasts_of kept [] ends ≡ lasts_of kept bytes ends
  same_lasts = few_same kept bytes 0 ends held.few

  counted : after.rows ≡ found.rows + length rows
  counted = ap (λ (f : Found). f.rows) w.finds ∙ rows_counted_from table first (packets_in bytes) before found

  starts_long : length starts ≡ min (room - found.rows) (length rows)
  starts_long = length-map fitting packet_in ∙ length-take (room - found.rows) rows

  numbers_are : numbers ≡ sets old.packets found.rows starts
  numbers_are =
      ap (λ (l : List ℕ). l ++ drop room old.packets) w.notes
      ∙ front_sets old.packets (map packet_in rows) found.rows room
      ∙ ap (sets old.packets found.rows) (sym (map_take packet_in (room - found.rows) rows))

  numbers_long : length numbers ≡ length old.packets
  numbers_long = ap length numbers_are ∙ length-sets old.packets found.rows starts

  room_packets : room ≤ length old.packets
  room_packets = room_each room old enough

  pub ends_long : length new-ends ≡ layers
  ends_long =
      sym (lasts_long kept bytes 0 new-ends)
      ∙ ap length w.lasts
      ∙ over_long table (packets_in bytes) before
      ∙ lasts_long kept bytes 0 ends
      ∙ held.many

  module _ {from to : ℕ} (f : from ≡ min found.rows room) (t : to ≡ min after.rows room) where
    pub in_order : from ≤ to
    in_order = order_is found.rows after.rows (length rows) room from to f t counted

    to_room : to ≤ room
    to_room = omega (arith, t)

    pub to_old : to ≤ length old.packets
    to_old = le_trans to_room room_packets

    pub to_numbers : to ≤ length numbers
    to_numbers = subst (λ (n : ℕ). to ≤ n) (sym numbers_long) to_old

    abbrev part : List ℕ
    part = take (to - from) (drop from numbers)

    many : to - from ≡ length starts
    many = many_fit found.rows after.rows (length rows) room from to f t counted ∙ sym starts_long

    -- the packets of the rows that there is room for, or nothing where there was none before
    part_is : part ≡ starts
    part_is = go (dec_lt room found.rows)
      where
        go : Dec (room < found.rows) → part ≡ starts
        go (yes h) =
            let none : room - found.rows ≡ 0 = none_fits found.rows after.rows (length rows) room from to f t counted h in
            let nothing : starts ≡ [] = ap (λ (n : ℕ). map packet_in (take n rows)) none in
            ap (λ (n : ℕ). take n (drop from numbers)) (many ∙ ap length nothing) ∙ sym nothing
        go (no h) =
            let before_room : found.rows ≤ room = not_lt_le h in
            let here : from ≡ found.rows = from_before found.rows after.rows (length rows) room from to f t counted before_room in
            let fits : found.rows + length starts ≤ length old.packets =
            le_trans (subst (λ (n : ℕ). found.rows + n ≤ room) (sym starts_long) (few_fit found.rows room (length rows) before_room)) room_packets in
            ap₂ (λ (n at : ℕ). take n (drop at numbers)) many here
            ∙ ap (λ (l : List ℕ). take (length starts) (drop found.rows l)) numbers_are
            ∙ stored_part old.packets starts found.rows fits

    pub part_inside : Starts bytes first part
    part_inside =
        subst (Starts bytes first) (sym (part_is ∙ map_take packet_in (room - found.rows) rows))
        (prefix_inside bytes first (room - found.rows) (map packet_in rows) (rows_inside bytes first table before))

    pub part_room : from + length part ≤ room_beside (beside old.indices old.decodings old.matches old.trefs)
    part_room =
        le_trans small (le_trans to_room
        (subst (λ (n : ℕ). n ≤ room_beside (beside old.indices old.decodings old.matches old.trefs)) (zero-add room)
        (room_beside_lem room old.indices old.decodings old.matches old.trefs old.packets enough)))
      where
        small : from + length part ≤ to
        small = up_to from to (length part) in_order (take_most (to - from) (drop from numbers))

    -- the rows that there is room for are laid
    again : map (row_from table bytes first) part ≡ fitting
    again =
        ap (map (row_from table bytes first)) (part_is ∙ map_take packet_in (room - found.rows) rows)
        ∙ map_take (row_from table bytes first) (room - found.rows) (map packet_in rows)
        ∙ ap (take (room - found.rows)) (rows_again bytes first table before)

    -- where none has room, nothing is laid at whatever place
    same_place : (c : Beside) → stored_beside from fitting c ≡ stored_beside found.rows fitting c
    same_place c = go (dec_lt room found.rows)
      where
        go : Dec (room < found.rows) → stored_beside from fitting c ≡ stored_beside found.rows fitting c
        go (yes h) =
            let none : room - found.rows ≡ 0 = none_fits found.rows after.rows (length rows) room from to f t counted h in
            ap (λ (n : ℕ). stored_beside from (take n rows) c) none ∙ sym (ap (λ (n : ℕ). stored_beside found.rows (take n rows) c) none)
        go (no h) = ap (λ (n : ℕ). stored_beside n fitting c) (from_before found.rows after.rows (length rows) room from to f t counted (not_lt_le h))

    module _ {new : Beside} (laid : new ≡ stored_beside from (map (row_from table bytes first) part) (beside old.indices old.decodings old.matches old.trefs)) where
      all_laid : columns new.indices new.decodings new.matches new.trefs numbers
          ≡ stored_from found.rows (with_room room found.rows (rows_from table first (packets_in bytes) (lasts_of kept [] ends))) old
      all_laid =
          ap₂ (λ (b : Beside) (l : List ℕ). columns b.indices b.decodings b.matches b.trefs l)
          (laid ∙ ap (λ (r : List Row). stored_beside from r (beside old.indices old.decodings old.matches old.trefs)) again
          ∙ same_place (beside old.indices old.decodings old.matches old.trefs))
          numbers_are
          ∙ ap (λ (l : List (List ℕ)). stored_from found.rows (with_room room found.rows (rows_from table first (packets_in bytes) l)) old) (sym same_lasts)

      pub passed_all : {new-kept last_ends : List ℕ} → Kept kept bytes new-ends new-kept last_ends
          → Passed table bytes first found room kept ends old new-kept last_ends (columns new.indices new.decodings new.matches new.trefs numbers) after
      passed_all k =
          record {
            finds = w.finds ∙ ap (λ (l : List (List ℕ)). found_from table first (packets_in bytes) l found) (sym same_lasts);
            lasts = k.same ∙ w.lasts ∙ ap (lasts_over table (packets_in bytes)) (sym same_lasts);
            held = record { room = subst (λ (n : ℕ). packet_bytes * layers ≤ n) (sym k.long) held.room; many = k.as_many ∙ ends_long; few = k.few };
            stored = all_laid;
          }
