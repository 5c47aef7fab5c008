-- The laws of lists in a buffer, for elements of any type. In order: stores one after another; a list laid in by a loop, or cut off; pieces
-- one after another, as straight code and as a loop lays them; from the front, where there is room; stored place by place; parts of a buffer.
-- Assumes nothing.
use Prim.Native.Nat.{ℕ, suc, ◌+◌, ◌-◌, ◌≤◌, ◌<◌, min}
use mathlib.Core.List.{List, [], ◌∷◌, ◌++◌, append_assoc, append-nil}
use mathlib.Core.Path.{◌≡◌, refl, sym, ap, ap₂, ◌∙◌, subst}
use native.Mathlib.Decide.{dec_lt}
use native.Mathlib.Nat.{add-zero, zero-add, add-suc, suc-add}
use native.Mathlib.Numerals.{add-one}
use native.Mathlib.Omega.{arith}
use lib.ListN.{length, take, drop, set, get_or, replicate, length-append, length-drop, length-replicate, replicate-append-replicate, take-append-drop, drop_of_length-le}
use lib.Seq.{sets, length-sets, sets-eq, set_out, take-suc, take_all, take_at, drop_at, drop-drop, take-set-le, drop-set-add, take-append_seam, length-take-le}
use Rattle.buffers.specs.Buffers.{over, Laid}

-- ---- stores one after another

module _ {A : Type 0} where
  -- those of one list, then those of another, are those of the two as one
  pub sets_append : (old : List A) (at : ℕ) (a b : List A) → sets (sets old at a) (at + length a) b ≡ sets old at (a ++ b)
  sets_append old at [] b = ap (λ (n : ℕ). sets old n b) (add-zero at)
  sets_append old at (x ∷ a) b =
      ap (λ (n : ℕ). sets (sets (set old at x) (suc at) a) n b) (add-suc at (length a) ∙ sym (suc-add at (length a)))
      ∙ sets_append (set old at x) (suc at) a b

  -- past the end nothing is stored
  sets_past : (old : List A) (at : ℕ) (list : List A) → length old ≤ at → sets old at list ≡ old
  sets_past old at [] h = refl
  sets_past old at (x ∷ list) h =
      ap (λ (l : List A). sets l (suc at) list) (set_out old at x h) ∙ sets_past old (suc at) list (omega arith)

  -- a place past the end is the end
  sets_end : (old : List A) (at : ℕ) (list : List A) → sets old (min (length old) at) list ≡ sets old at list
  sets_end old at list = go (dec_lt (length old) at)
    where
      go : Dec (length old < at) → sets old (min (length old) at) list ≡ sets old at list
      go (yes h) = sets_past old (min (length old) at) list (omega arith) ∙ sym (sets_past old at list (omega arith))
      go (no h) = let same : min (length old) at ≡ at = omega arith in ap (λ (n : ℕ). sets old n list) same

  -- as many elements as there is room for are all that is stored
  sets_room : (old : List A) (at : ℕ) (list : List A) (count : ℕ) → at ≤ length old → count ≡ min (length old - at) (length list)
      → sets old at (take count list) ≡ sets old at list
  sets_room old at list count h e = go (dec_lt count (length list))
    where
      go : Dec (count < length list) → sets old at (take count list) ≡ sets old at list
      go (yes l) =
          let full : at + length (take count list) ≡ length old = omega (arith, length-take-le count list (omega arith)) in
          sym (sets_past (sets old at (take count list)) (at + length (take count list)) (drop count list)
          (omega (arith, length-sets old at (take count list))))
          ∙ sets_append old at (take count list) (drop count list)
          ∙ ap (sets old at) (take-append-drop count list)
      go (no l) = ap (sets old at) (take_all count list (omega arith))

  -- ---- a list laid in element by element, as a loop does

  pub one_more : (old : List A) (at : ℕ) (list : List A) (i : ℕ) (d : A) → i < length list
      → set (sets old at (take i list)) (at + i) (get_or list i d) ≡ sets old at (take (i + 1) list)
  one_more old at list i d h =
      ap (λ (n : ℕ). set (sets old at (take i list)) (at + n) (get_or list i d)) (sym (length-take-le i list (omega arith)))
      ∙ sets_append old at (take i list) (get_or list i d ∷ [])
      ∙ ap (sets old at) (sym (take-suc list i d h) ∙ ap (λ (n : ℕ). take n list) (sym (add-one i)))

  -- all of it, where there is room
  pub laid_whole : (old : List A) (at : ℕ) (list new : List A) (i : ℕ) → at + length list ≤ length old → i ≤ length list → length list ≤ i
      → new ≡ sets old at (take i list) → Laid old at list (at + length list) new
  laid_whole old at list new i room within all e =
      record { place = omega arith; content = e ∙ ap (sets old at) (take_all i list all) }

  -- cut off at the end of the buffer
  pub laid_cut : {old : List A} {at : ℕ} {list : List A} {count next : ℕ} {new : List A} → at ≤ length old
      → count ≡ min (length old - at) (length list) → Laid old at (take count list) next new → Laid old at list next new
  laid_cut {old} {at} {list} {count} h e p =
      record {
        place = p.place ∙ omega (arith, length-take-le count list (omega arith));
        content = p.content ∙ sets_room old at list count h e;
      }

  -- no room at all
  pub laid_past : (old : List A) (at : ℕ) (list : List A) → length old ≤ at → Laid old at list (length old) old
  laid_past old at list h = record { place = omega arith; content = sym (sets_past old at list h) }

  -- ---- what is known of a buffer into which a list was laid

  -- it keeps its length
  pub laid_length : {old : List A} {at : ℕ} {list : List A} {next : ℕ} {new : List A} → Laid old at list next new → length new ≡ length old
  laid_length {old} {at} {list} p = ap length p.content ∙ length-sets old at list

  -- the place after the list is within it
  pub laid_within : {old : List A} {at : ℕ} {list : List A} {next : ℕ} {new : List A} → Laid old at list next new → next ≡ min (length new) next
  laid_within {new = new} p = let long = laid_length p in omega (arith, p.place)

  -- the same list, otherwise written
  pub laid_as : {old : List A} {at : ℕ} {a b : List A} {next : ℕ} {new : List A} → a ≡ b → Laid old at a next new → Laid old at b next new
  laid_as {old} {at} {a} {b} {next} {new} e p = subst (λ (list : List A). Laid old at list next new) e p

  -- ---- pieces

  -- NOTHING laid in leaves the buffer as it was.
  pub laid_nothing : (old : List A) (at next : ℕ) → next ≡ min (length old) at → Laid old at [] next old
  laid_nothing old at next e = record { place = omega arith; content = refl }

  -- ONE PIECE AFTER ANOTHER is the two as one.
  pub laid_then : {old : List A} {at : ℕ} {a : List A} {between : ℕ} {mid b : List A} {next : ℕ} {new : List A}
      → Laid old at a between mid → Laid mid between b next new → Laid old at (a ++ b) next new
  laid_then {old} {at} {a} {between} {mid} {b} {next} {new} p q =
      let long : length mid ≡ length old = laid_length p in
      record {
        place = q.place ∙ omega (arith, p.place, long, length-append a b);
        content = q.content
            ∙ ap₂ (λ (l : List A) (n : ℕ). sets l n b) p.content (p.place ∙ ap (λ (n : ℕ). min n (at + length a)) (sym (length-sets old at a)))
            ∙ sets_end (sets old at a) (at + length a) b
            ∙ sets_append old at a b;
      }

  -- A LOOP THAT LAYS: `whole i` is what was laid after i turns. It starts with nothing (`laid_nothing`), each turn lays a piece more, and after
  -- the last turn all stands after what was laid before the loop.
  module _ (whole : ℕ → List A) where
    pub laid_next : (i : ℕ) {piece old : List A} {at between : ℕ} {mid : List A} {next : ℕ} {new : List A} → whole (i + 1) ≡ whole i ++ piece
        → Laid old at (whole i) between mid → Laid mid between piece next new → Laid old at (whole (i + 1)) next new
    laid_next i e p q = laid_as (sym e) (laid_then p q)

    pub laid_last : (i n : ℕ) {old : List A} {at between : ℕ} {mid : List A} {next : ℕ} {new : List A} → i ≡ n
        → Laid old at [] between mid → Laid mid between (whole i) next new → Laid old at (whole n) next new
    laid_last i n e p q = laid_as (ap whole e) (laid_then p q)

  -- ---- FROM THE FRONT, where there is room, the list stands whole and all beyond it as it was.

  pub sets_over : (list old : List A) → length list ≤ length old → sets old 0 list ≡ over list old
  sets_over list old room = sets-eq list old 0 (omega arith) ∙ ap (λ (n : ℕ). list ++ drop n old) (zero-add (length list))

  pub laid_over_lem : {old list : List A} {next : ℕ} {new : List A} → Laid old 0 list next new → length list ≤ length old → new ≡ over list old
  laid_over_lem {old} {list} p room = p.content ∙ sets_over list old room

  -- so that the list is what stands before the place
  pub laid_shown : {old list : List A} {next : ℕ} {new : List A} → Laid old 0 list next new → length list ≤ length old → take next new ≡ list
  laid_shown {old} {list} {next} {new} p room =
      let all : next ≡ length list = omega (arith, p.place) in
      ap₂ (λ (n : ℕ) (l : List A). take n l) all (laid_over_lem p room) ∙ take-append_seam list (drop (length list) old)

  -- ---- STORED PLACE BY PLACE: after a part that stays, and blanks up to the end

  -- a store past a part at the front
  pub set_after : (xs ys : List A) (n i : ℕ) (a : A) → length xs ≡ n → set (xs ++ ys) (n + i) a ≡ xs ++ set ys i a
  set_after xs ys n i a e =
      sym (take-append-drop n (set (xs ++ ys) (n + i) a))
      ∙ ap₂ ◌++◌ (take-set-le n (xs ++ ys) (n + i) a (omega arith) ∙ take_at xs ys n e)
      (drop-set-add n (xs ++ ys) i a ∙ ap (λ (l : List A). set l i a) (drop_at xs ys n e))

  -- what a call kept at the front
  pub front_kept : (old rest new : List A) (n : ℕ) → n ≤ length old → new ≡ take n old ++ rest → take n new ≡ take n old
  front_kept old rest new n h e = ap (take n) e ∙ take_at (take n old) rest n (length-take-le n old h)

  -- one blank more, as a loop stores it, and blanks up to the end
  module _ (old : List A) (start : ℕ) (blank : A) where
    pub blank_more : (i : ℕ) → start ≤ i → set (sets old start (replicate (i - start) blank)) i blank ≡ sets old start (replicate (i + 1 - start) blank)
    blank_more i h =
        let here : start + length (replicate (i - start) blank) ≡ i = omega (arith, length-replicate (i - start) blank) in
        let longer : i - start + 1 ≡ i + 1 - start = omega arith in
        ap (λ (n : ℕ). set (sets old start (replicate (i - start) blank)) n blank) (sym here)
        ∙ sets_append old start (replicate (i - start) blank) (blank ∷ [])
        ∙ ap (sets old start) (replicate-append-replicate (i - start) 1 blank ∙ ap (λ (n : ℕ). replicate n blank) longer)

    pub blank_rest : (n : ℕ) → length old ≡ n → start ≤ n → sets old start (replicate (n - start) blank) ≡ take start old ++ replicate (n - start) blank
    blank_rest n long h =
        let many = length-replicate (n - start) blank in
        sets-eq (replicate (n - start) blank) old start (omega arith)
        ∙ ap (λ (l : List A). take start old ++ replicate (n - start) blank ++ l) (drop_of_length-le old {i = start + length (replicate (n - start) blank)} (omega arith))
        ∙ append-nil (take start old ++ replicate (n - start) blank)

  -- ---- PARTS of a buffer, lent and filled one after another

  -- a list over the front of a buffer with room for it leaves its length
  pub over_length : (list old : List A) → length list ≤ length old → length (over list old) ≡ length old
  over_length list old h = length-append list (drop (length list) old) ∙ omega (arith, length-drop (length list) old)

  -- A PART OF A BUFFER that was lent and filled, right after what stands at the front.
  pub over_part : (done piece old : List A) (at count : ℕ) → length done ≡ at → length piece ≡ count
      → take at (over done old) ++ (piece ++ drop count (drop at (over done old))) ≡ over (done ++ piece) old
  over_part done piece old at count is_at is-count =
      let ends : length done + count ≡ length (done ++ piece) = omega (arith, length-append done piece) in
      ap₂ (λ (a b : List A). a ++ (piece ++ drop count b)) (take_at done (drop (length done) old) at is_at) (drop_at done (drop (length done) old) at is_at)
      ∙ ap (λ (l : List A). done ++ (piece ++ l)) (drop-drop count (length done) old ∙ ap (λ (n : ℕ). drop n old) ends)
      ∙ sym (append_assoc done piece (drop (length (done ++ piece)) old))
