-- The second walk through the bytes of a loop that was accepted: each turn meets a whole entry, with its descriptor bytes.
-- Assumes nothing.
use Rattle.es_loop.specs.Answer.{entries_judged}
use Prim.Native.Nat.{ℕ, ◌+◌, ◌-◌, ◌≤◌, ◌<◌}
use mathlib.Core.Path.{◌≡◌, refl, sym, ◌∙◌, ap}
use mathlib.Core.Bool.{Bool, true, false}
use mathlib.Core.List.{List, [], ◌∷◌, map}
use native.Mathlib.Omega.{arith}
use borrow.Author.Tests.{ltb-true}
use lib.Dec.{ltb}
use lib.ListN.{length, take, drop, drop_of_length-le}
use lib.Seq.{drop-drop, take-take, take-add, drop_at, length-take-le}
use Rattle.combinators.specs.Lists.{part_to_end}
use Rattle.framing.specs.Pieces.{whole, cut, cut_piece}
use Rattle.vocabulary.specs.declared.stream_types.Reading.TheVariants.{Edition2015}
use Rattle.loop_entries.specs.Entries.{es_info_length, size_of, pair_of, streams_alone, streams_of}
use Rattle.es_loop.specs.Reading.{verdict_of}
use Rattle.es_loop.proofs.Verdicts.{Sound, sound}
use Rattle.loop_entries.proofs.Front.{left_at, left_long}
use Rattle.es_loop.proofs.Walk.{Cursor, cursor_start, size_5, size_fits, next_here}
use Rattle.stereo_set.specs.declared.views.View.{View}
use Rattle.stereo_set.specs.Reading.{view_of}

module _ (bytes : List ℕ) where
  -- Where the walk stands: before the byte `at`, after some of the entries.
  pub record Standing (at : ℕ) : Type 0 where
    pub count : ℕ
    pub cursor : Cursor Edition2015 bytes count at

  pub standing_first : Standing 0
  standing_first = record { count = 0; cursor = cursor_start Edition2015 bytes }

  -- a loop that was accepted has all its entries
  pub counted_verdict : {total : ℕ} {pair : Bool} → verdict_of Edition2015 bytes ≡ entries_judged total pair
      → verdict_of Edition2015 bytes ≡ entries_judged (length (streams_of Edition2015 bytes)) pair
  counted_verdict {total} {pair} e = e ∙ ap (λ (n : ℕ). entries_judged n pair) (sound Edition2015 bytes total pair e).counted

  -- the entries that are left, with the marks of the whole loop
  abbrev pub views_from : ℕ → List View
  views_from at = map (view_of (pair_of (streams_alone Edition2015 bytes))) (cut 5 es_info_length (drop at bytes))

  abbrev pub bytes_at : ℕ → ℕ → List ℕ
  bytes_at at size = take size (left_at Edition2015 bytes at)

  abbrev pub view_at : Bool → ℕ → ℕ → View
  view_at pair at size = view_of pair (whole (take 5 (bytes_at at size)) (drop 5 (bytes_at at size)))

  -- the whole entry at the front of the bytes that are left
  front_item : (left : List ℕ) (at size : ℕ) → left ≡ drop at bytes → size ≡ size_of left → size ≤ length left
      → cut 5 es_info_length left ≡ whole (take 5 (take size left)) (drop 5 (take size left)) ∷ cut 5 es_info_length (drop (at + size) bytes)
  front_item left at size is_left is-size room = go (ltb (length left) 5) refl
    where
      found : size ≡ 5 + es_info_length left → cut 5 es_info_length left ≡ whole (take 5 (take size left)) (drop 5 (take size left)) ∷ cut 5 es_info_length (drop (at + size) bytes)
      found is_n =
          let n : ℕ = es_info_length left in
          let fits : 5 + n ≤ length left = omega arith in
          let head : take 5 (take (5 + n) left) ≡ take 5 left = take-take 5 (5 + n) left (omega arith) in
          let info : drop 5 (take (5 + n) left) ≡ take n (drop 5 left) =
          ap (drop 5) (take-add 5 n left) ∙ drop_at (take 5 left) (take n (drop 5 left)) 5 (length-take-le 5 left (omega arith)) in
          let later : drop (at + (5 + n)) bytes ≡ drop (5 + n) left = sym (drop-drop (5 + n) at bytes) ∙ ap (drop (5 + n)) (sym is_left) in
          cut_piece 5 es_info_length (omega arith) left fits ∙ rw (is_n, head, info, later)

      go : (b : Bool) → ltb (length left) 5 ≡ b → cut 5 es_info_length left ≡ whole (take 5 (take size left)) (drop 5 (take size left)) ∷ cut 5 es_info_length (drop (at + size) bytes)
      go true p = let short = ltb-true (length left) 5 p in let five : size_of left ≡ 5 = rw p in absurd (omega arith)
      go false p = found (is-size ∙ rw p)

  -- What the walk finds: a whole entry, and the place after it.
  pub record Turn (pair : Bool) (at size : ℕ) : Type 0 where
    pub short : length bytes ≤ 1008
    pub large : 5 ≤ size
    pub long : length (left_at Edition2015 bytes at) ≡ length bytes - at
    pub room : size ≤ length (left_at Edition2015 bytes at)
    pub whole_long : length (bytes_at at size) ≡ size
    pub front : views_from at ≡ view_at pair at size ∷ views_from (at + size)
    pub next : Standing (at + size)

  pub turn : {total : ℕ} {pair : Bool} → verdict_of Edition2015 bytes ≡ entries_judged total pair → (at : ℕ) → Standing at → at < length bytes → (size : ℕ)
      → size ≡ size_of (left_at Edition2015 bytes at) → Turn pair at size
  turn {total} {pair} accepted at standing more size is-size =
      let count : ℕ = standing.count in
      let cursor = standing.cursor in
      let is_sound : Sound Edition2015 bytes total pair = sound Edition2015 bytes total pair accepted in
      let room : size ≤ length (left_at Edition2015 bytes at) = size_fits Edition2015 bytes total pair is_sound count at cursor more size is-size in
      record {
        short = is_sound.short;
        large = size_5 Edition2015 bytes count at cursor more size is-size;
        long = left_long Edition2015 bytes at;
        room = room;
        whole_long = length-take-le size (left_at Edition2015 bytes at) room;
        front =
            ap (λ (l : List ℕ). map (view_of (pair_of (streams_alone Edition2015 bytes))) (cut 5 es_info_length l)) (sym (part_to_end bytes at))
            ∙ ap (map (view_of (pair_of (streams_alone Edition2015 bytes)))) (front_item (left_at Edition2015 bytes at) at size (part_to_end bytes at) is-size room)
            ∙ ap (λ (p : Bool). view_at p at size ∷ views_from (at + size)) (sym is_sound.paired);
        next = record { count = count + 1; cursor = next_here Edition2015 bytes count at cursor more size is-size room pair is_sound.paired _ refl };
      }

  -- After the last entry none is left.
  pub none_left : (at : ℕ) → length bytes ≤ at → views_from at ≡ []
  none_left at done = ap (λ (l : List ℕ). map (view_of (pair_of (streams_alone Edition2015 bytes))) (cut 5 es_info_length l)) (drop_of_length-le bytes done)
