-- What stands at the front of the bytes of a loop that are left: an entry, or bytes that hold no whole one.
-- Assumes nothing.
use Prim.Native.Nat.{ℕ, ◌+◌, ◌-◌, ◌≤◌, ◌<◌}
use mathlib.Core.Path.{◌≡◌, refl, sym, ◌∙◌, ap}
use mathlib.Core.Bool.{Bool, true, false}
use mathlib.Core.List.{List, [], ◌∷◌, map}
use native.Mathlib.Omega.{arith}
use borrow.Author.Tests.{ltb-true}
use lib.Dec.{ltb}
use lib.ListN.{length, take, drop, length-drop}
use lib.Seq.{drop-drop, take-take, take-add, drop_at, length-take-le}
use Rattle.combinators.specs.Lists.{part_to_end}
use Rattle.framing.specs.Pieces.{whole, cut_broken, cut_piece}
use Rattle.vocabulary.specs.declared.stream_types.Reading.{Reading}
use Rattle.loop_entries.specs.Entries.{no_stream, es_info_length, size_of, stream_of, streams_alone}

-- the sizes and keys that a walk meets
pub size_large : (left : List ℕ) → 5 ≤ size_of left
size_large left = go (ltb (length left) 5) refl
  where
    go : (b : Bool) → ltb (length left) 5 ≡ b → 5 ≤ size_of left
    go true p = rw p (omega arith)
    go false p = rw p (omega arith)

pub pid_below : (reading : Reading) (head info : List ℕ) → (stream_of reading (whole head info)).pid < 8192
pid_below reading head info = omega arith

module _ (reading : Reading) (bytes : List ℕ) where
  -- What stands at the front of the bytes that are left.
  module _ (left : List ℕ) (at : ℕ) (is_left : left ≡ drop at bytes) (some_left : 0 < length left) where
    pub left_length : length left ≡ length bytes - at
    left_length = ap length is_left ∙ length-drop at bytes

    size_cases : (b : Bool) → ltb (length left) 5 ≡ b → (size_of left ≤ length left → size_of left ≡ 5 + es_info_length left)
        × (length left < size_of left → length left < 5 + es_info_length left)
    size_cases true p =
        let h : length left < 5 = ltb-true (length left) 5 p in
        rw p (λ l. absurd (omega arith), λ l. omega arith)
    size_cases false p = rw p (λ l. refl, λ l. l)

    pub front_broken : length left < size_of left → streams_alone reading left ≡ no_stream ∷ []
    front_broken h =
        ap (map (stream_of reading)) (cut_broken 5 es_info_length (omega arith) left some_left ((size_cases (ltb (length left) 5) refl).1 h))

    pub front_whole : size_of left ≤ length left
        → streams_alone reading left
        ≡ stream_of reading (whole (take 5 (take (size_of left) left)) (drop 5 (take (size_of left) left)))
        ∷ streams_alone reading (drop (at + size_of left) bytes)
    front_whole h =
        let size : size_of left ≡ 5 + es_info_length left = (size_cases (ltb (length left) 5) refl).0 h in
        let n : ℕ = es_info_length left in
        let fits : 5 + n ≤ length left = omega arith in
        let head : take 5 (take (5 + n) left) ≡ take 5 left = take-take 5 (5 + n) left (omega arith) in
        let info : drop 5 (take (5 + n) left) ≡ take n (drop 5 left) =
        ap (drop 5) (take-add 5 n left) ∙ drop_at (take 5 left) (take n (drop 5 left)) 5 (length-take-le 5 left (omega arith)) in
        let later : drop (at + (5 + n)) bytes ≡ drop (5 + n) left = sym (drop-drop (5 + n) at bytes) ∙ ap (drop (5 + n)) (sym is_left) in
        ap (map (stream_of reading)) (cut_piece 5 es_info_length (omega arith) left fits)
        ∙ rw (size, head, info, later)

    -- the same with the values that the code holds
    pub front_of : (size : ℕ) → size ≡ size_of left → size ≤ length left
        → streams_alone reading left
        ≡ stream_of reading (whole (take 5 (take size left)) (drop 5 (take size left))) ∷ streams_alone reading (drop (at + size) bytes)
    front_of size is-size h = front_whole (rw (← is-size) h) ∙ rw is-size

  -- the bytes that are left, as the code holds them
  abbrev pub left_at : ℕ → List ℕ
  left_at at = take (length bytes - at) (drop at bytes)

  pub left_long : (at : ℕ) → length (left_at at) ≡ length bytes - at
  left_long at = ap length (part_to_end bytes at) ∙ length-drop at bytes
