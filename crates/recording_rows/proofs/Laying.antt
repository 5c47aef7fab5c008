-- Rows laid into columns, one after another: the loop that lays them.
-- Assumes nothing.
use Prim.Native.Nat.{ℕ, ◌+◌, ◌≤◌, ◌<◌, min}
use mathlib.Core.Path.{◌≡◌, refl, sym, ap, ap₂, ◌∙◌}
use mathlib.Core.List.{List, [], ◌∷◌, ◌++◌, map}
use native.Mathlib.Numerals.{add-one}
use native.Mathlib.Omega.{arith}
use lib.ListN.{length, get_or, set, take, drop, length-map, drop_of_length-le}
use lib.Seq.{sets, length-sets, length-take-le, take-suc, take-length}
use Rattle.buffers.proofs.Laws.{sets_append}
use Rattle.packets.specs.Reading.{packet_bytes}
use Rattle.scanning.specs.declared.events.Row.{Row}
use Rattle.unit_starts.proofs.Walking.{map_append}
use Rattle.recording_rows.specs.Columns.{columns, room_in, Beside, beside, index_in, decoding_in, match_in, tref_in, stored_beside, room_beside}
use Rattle.recording_rows.specs.Again.{row_from}

-- past the end of a packet there is nothing, wherever one starts
pub past_the_end : (packet : List ℕ) (n : ℕ) → length packet ≡ packet_bytes → packet_bytes < n → drop packet_bytes packet ≡ drop n packet
past_the_end packet n e h = drop_of_length-le packet {i = packet_bytes} (omega arith) ∙ sym (drop_of_length-le packet {i = n} (omega arith))

-- ---- one column, and all of them

column_then : (f : Row → ℕ) (old : List ℕ) (place : ℕ) (done piece : List Row) {i : ℕ} → length done ≡ i
    → sets (sets old place (map f done)) (place + i) (map f piece) ≡ sets old place (map f (done ++ piece))
column_then f old place done piece {i} e =
    let size : place + i ≡ place + length (map f done) = omega (arith, e, length-map done f) in
    ap (λ (n : ℕ). sets (sets old place (map f done)) n (map f piece)) size
    ∙ sets_append old place (map f done) (map f piece)
    ∙ ap (sets old place) (sym (map_append f done piece))

pub stored_then : (old : Beside) (place : ℕ) (done piece : List Row) {i : ℕ} → length done ≡ i
    → stored_beside (place + i) piece (stored_beside place done old) ≡ stored_beside place (done ++ piece) old
stored_then old place done piece e =
    λ i. beside (column_then index_in old.indices place done piece e i) (column_then decoding_in old.decodings place done piece e i)
    (column_then match_in old.matches place done piece e i) (column_then tref_in old.trefs place done piece e i)

pub room_stored : (place : ℕ) (rows : List Row) (old : Beside) → room_beside (stored_beside place rows old) ≡ room_beside old
room_stored place rows old =
    λ i. min (length-sets old.indices place (map index_in rows) i)
    (min (length-sets old.decodings place (map decoding_in rows) i)
    (min (length-sets old.matches place (map match_in rows) i) (length-sets old.trefs place (map tref_in rows) i)))

-- what there is room for in all columns, there is room for in four of them
le_each : (n a b c d e : ℕ) → n ≤ min a (min b (min c (min d e))) → (n ≤ a) × (n ≤ b) × (n ≤ c) × (n ≤ d)
le_each n a b c d e h = (omega arith, omega arith, omega arith, omega arith)

le_four : (n a b c d : ℕ) → n ≤ a → n ≤ b → n ≤ c → n ≤ d → 0 + n ≤ min a (min b (min c d))
le_four n a b c d p q r s = omega arith

pub room_beside_lem : (n : ℕ) (indices decodings matches trefs packets : List ℕ) → n ≤ room_in (columns indices decodings matches trefs packets)
    → 0 + n ≤ room_beside (beside indices decodings matches trefs)
room_beside_lem n indices decodings matches trefs packets h =
    let each = le_each n (length indices) (length decodings) (length matches) (length trefs) (length packets) h in
    le_four n (length indices) (length decodings) (length matches) (length trefs) each.0 each.1 each.2 each.3

-- ---- the loop

module _ (table bytes : List ℕ) (first : ℕ) (starts : List ℕ) (place : ℕ) (old : Beside) where
  abbrev again : ℕ → Row
  again number = row_from table bytes first number

  map_again : (a b : List ℕ) → map again (a ++ b) ≡ map again a ++ map again b
  map_again [] b = refl
  map_again (x ∷ a) b = ap (λ (l : List Row). again x ∷ l) (map_again a b)

  pub record Laying (i : ℕ) (new : Beside) : Type 0 where
    pub inside : i ≤ length starts
    pub content : new ≡ stored_beside place (map again (take i starts)) old

  pub laying_start : Laying 0 old
  laying_start = record { inside = omega arith; content = refl }

  pub laying_room : {i : ℕ} {new : Beside} → Laying i new → i < length starts → place + length starts ≤ room_beside old → place + i + 1 ≤ room_beside new
  laying_room {i} {new} w h room = omega (arith, ap room_beside w.content ∙ room_stored place (map again (take i starts)) old)

  pub laying_turn : {i : ℕ} {new next-new : Beside} (row : Row) → Laying i new → i < length starts → row ≡ again (get_or starts i 0)
      → next-new ≡ stored_beside (place + i) (row ∷ []) new → Laying (i + 1) next-new
  laying_turn {i} {new} {next-new} row w h is content =
      record {
        inside = omega arith;
        content = content
            ∙ ap₂ (λ (r : Row) (c : Beside). stored_beside (place + i) (r ∷ []) c) is w.content
            ∙ stored_then old place (map again (take i starts)) (again (get_or starts i 0) ∷ []) (length-map (take i starts) again ∙ length-take-le i starts (omega arith))
            ∙ ap (λ (rows : List Row). stored_beside place rows old)
            (sym (map_again (take i starts) (get_or starts i 0 ∷ []))
            ∙ ap (map again) (sym (take-suc starts i 0 h) ∙ ap (λ (n : ℕ). take n starts) (sym (add-one i))));
      }

  pub laying_end : {i : ℕ} {new : Beside} → Laying i new → length starts ≤ i → new ≡ stored_beside place (map again starts) old
  laying_end {i} {new} w h =
      let all : i ≡ length starts = omega (arith, w.inside) in
      w.content ∙ ap (λ (l : List ℕ). stored_beside place (map again l) old) (ap (λ (n : ℕ). take n starts) all ∙ take-length starts)
