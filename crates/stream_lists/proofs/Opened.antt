-- An array that is opened at a place: one index after another, and what that makes of a list with zeros behind it.
-- Assumes nothing.
use Prim.Native.Nat.{ℕ, zero, suc, ◌+◌, ◌-◌, ◌≤◌, ◌<◌}
use mathlib.Core.List.{List, [], ◌∷◌, ◌++◌, append_assoc}
use mathlib.Core.Path.{◌≡◌, refl, sym, ap, ap₂, ◌∙◌}
use native.Mathlib.Nat.{add-zero, not-suc-le-zero}
use native.Mathlib.Numerals.{add-one}
use native.Mathlib.Omega.{arith}
use lib.ListN.{length, get_or, take, drop, set, replicate, length-append, length-take, length-drop, take-append-drop, get_or-append}
use lib.Seq.{take-suc, drop-cons, drop-drop, take-append-le, drop-append-le, take_at, drop_at, drop-append-add, set_at, get_or-take, length-take-le, split_at}
use Rattle.combinators.specs.Padding.{pad_to}
use Rattle.stream_lists.specs.Insertion.{opened}

module _ (a : List ℕ) (count : ℕ) where
  -- ---- what stands behind the place moves back by one, from the last on

  -- at the end nothing has moved
  pub opened_start : count < length a → a ≡ opened a count count (get_or a count 0 ∷ [])
  opened_start h =
      let none : count - count ≡ 0 = omega arith in
      rw (none, add-one count) (split_at a count 0 h)

  -- one place lower
  module _ (at : ℕ) (low : at < count) (inside : count < length a) where
    before : length (take (suc at) a) ≡ suc at
    before = length-take-le (suc at) a (omega arith)

    -- what is to be moved stands before the place
    lower : get_or (opened a count (suc at) (get_or a (suc at) 0 ∷ [])) at 0 ≡ get_or a at 0
    lower =
        get_or-append (take (suc at) a) (get_or a (suc at) 0 ∷ (take (count - suc at) (drop (suc at) a) ++ drop (count + 1) a)) 0 at (omega (arith, before))
        ∙ get_or-take (suc at) a at 0 (omega arith)

    moved : set (opened a count (suc at) (get_or a (suc at) 0 ∷ [])) (suc at) (get_or a at 0) ≡ opened a count at (get_or a at 0 ∷ [])
    moved =
        let left : count - at ≡ suc (count - suc at) = omega arith in
        set_at (take (suc at) a) (get_or a (suc at) 0) (take (count - suc at) (drop (suc at) a) ++ drop (count + 1) a) (get_or a at 0) (suc at) before
        ∙ rw (take-suc a at 0 (omega arith), append_assoc (take at a) (get_or a at 0 ∷ []) (get_or a at 0 ∷ (take (count - suc at) (drop (suc at) a) ++ drop (count + 1) a)))
        (sym (rw (left, drop-cons a at 0 (omega arith)) refl))

  -- a turn as the code does it
  pub opened_turn : (at : ℕ) (array : List ℕ) → 0 < at → at ≤ count → count < length a → array ≡ opened a count at (get_or a at 0 ∷ [])
      → set array at (get_or array (at - 1) 0) ≡ opened a count (at - 1) (get_or a (at - 1) 0 ∷ [])
  opened_turn zero array h l k e = absurd (not-suc-le-zero h)
  opened_turn (suc at) array h l k e =
      let one : suc at - 1 ≡ at = omega arith in
      rw (one, e, lower at (omega arith) k) (moved at (omega arith) k)

  -- and last the place itself
  pub opened_end : (place index value : ℕ) → place ≤ length a → set (opened a count place (value ∷ [])) place index ≡ opened a count place (index ∷ [])
  opened_end place index value h =
      set_at (take place a) value (take (count - place) (drop place a) ++ drop (count + 1) a) index place (length-take-le place a h)

  -- ---- the length stays

  pub opened_length : (place : ℕ) (new : List ℕ) → place ≤ count → count + length new ≤ length a → length (opened a count place new) ≡ length a
  opened_length place new h l =
      simp (length-append, length-take, length-drop) (omega arith)

  -- ---- one index more

  module _ (place x : ℕ) (done : List ℕ) (low : place ≤ count) (room : count + length done < length a) where
    pub opened_more : opened (opened a count place done) (count + length done) (place + length done) (x ∷ []) ≡ opened a count place (done ++ (x ∷ []))
    opened_more =
        let A = take place a in
        let B = take (count - place) (drop place a) in
        let C = drop (count + length done) a in
        let long_a : length A ≡ place = length-take-le place a (omega arith) in
        let long_b : length B ≡ count - place = length-take-le (count - place) (drop place a) (omega (arith, length-drop place a)) in
        let grouped : A ++ (done ++ (B ++ C)) ≡ (A ++ done) ++ (B ++ C) = sym (append_assoc A done (B ++ C)) in
        let long_ad : length (A ++ done) ≡ place + length done = length-append A done ∙ ap (λ (n : ℕ). n + length done) long_a in
        let front : take (place + length done) (opened a count place done) ≡ A ++ done =
        ap (take (place + length done)) grouped ∙ take_at (A ++ done) (B ++ C) (place + length done) long_ad in
        let back : drop (place + length done) (opened a count place done) ≡ B ++ C =
        ap (drop (place + length done)) grouped ∙ drop_at (A ++ done) (B ++ C) (place + length done) long_ad in
        let width : count + length done - (place + length done) ≡ count - place = omega arith in
        let mid : take (count + length done - (place + length done)) (drop (place + length done) (opened a count place done)) ≡ B =
        ap₂ (λ (n : ℕ) (l : List ℕ). take n l) width back ∙ take_at B C (count - place) long_b in
        let grouped_all : A ++ (done ++ (B ++ C)) ≡ ((A ++ done) ++ B) ++ C = grouped ∙ sym (append_assoc (A ++ done) B C) in
        let long_adb : length ((A ++ done) ++ B) ≡ count + length done =
        length-append (A ++ done) B ∙ ap₂ (λ (m n : ℕ). m + n) long_ad long_b ∙ (let e : place + length done + (count - place) ≡ count + length done = omega arith in e) in
        let tail : drop (count + length done + 1) (opened a count place done) ≡ drop (count + length (done ++ (x ∷ []))) a =
        ap (drop (count + length done + 1)) grouped_all
        ∙ ap (λ (n : ℕ). drop n (((A ++ done) ++ B) ++ C)) (ap (λ (n : ℕ). n + 1) (sym long_adb))
        ∙ drop-append-add ((A ++ done) ++ B) C 1
        ∙ drop-drop 1 (count + length done) a
        ∙ ap (λ (n : ℕ). drop n a) (let e : count + length done + 1 ≡ count + length (done ++ (x ∷ [])) = simp length-append (omega arith) in e) in
        ap₂ (λ (f r : List ℕ). f ++ ((x ∷ []) ++ r)) front (ap₂ (λ (m t : List ℕ). m ++ t) mid tail)
        ∙ append_assoc A done ((x ∷ []) ++ (B ++ drop (count + length (done ++ (x ∷ []))) a))
        ∙ ap (λ (l : List ℕ). A ++ l) (sym (append_assoc done (x ∷ []) (B ++ drop (count + length (done ++ (x ∷ []))) a)))

-- ---- nothing more

pub opened_none : (a : List ℕ) (count place : ℕ) → place ≤ count → opened a count place [] ≡ a
opened_none a count place h =
    let e : count ≡ place + (count - place) = omega arith in
    let back : take (count - place) (drop place a) ++ drop (count + 0) a ≡ drop place a =
    ap (λ (n : ℕ). take (count - place) (drop place a) ++ drop n a) (add-zero count ∙ e)
    ∙ ap (λ (l : List ℕ). take (count - place) (drop place a) ++ l) (sym (drop-drop (count - place) place a))
    ∙ take-append-drop (count - place) (drop place a) in
    ap (λ (l : List ℕ). take place a ++ l) back ∙ take-append-drop place a

-- ---- a list with zeros behind it

drop_replicate : (m n : ℕ) → drop m (replicate {A = ℕ} n 0) ≡ replicate (n - m) 0
drop_replicate zero n = ap (λ (k : ℕ). replicate k 0) (let e : n ≡ n - 0 = omega arith in e)
drop_replicate (suc m) zero = ap (λ (k : ℕ). replicate k 0) (let e : 0 ≡ 0 - suc m = omega arith in e)
drop_replicate (suc m) (suc n) = drop_replicate m n ∙ ap (λ (k : ℕ). replicate k 0) (let e : n - m ≡ suc n - suc m = omega arith in e)

pub opened_list : (list new : List ℕ) (place : ℕ) → place ≤ length list → length list + length new ≤ 64
    → opened (pad_to 64 0 list) (length list) place new ≡ pad_to 64 0 (take place list ++ (new ++ drop place list))
opened_list list new place h room =
    let Z = replicate {A = ℕ} (64 - length list) 0 in
    let long : length (drop place list) ≡ length list - place = length-drop place list in
    let front : take place (pad_to 64 0 list) ≡ take place list = take-append-le place list Z h in
    let back : take (length list - place) (drop place (pad_to 64 0 list)) ≡ drop place list =
    ap (take (length list - place)) (drop-append-le place list Z h) ∙ take_at (drop place list) Z (length list - place) long in
    let all : length (take place list ++ (new ++ drop place list)) ≡ length list + length new = simp (length-append, length-take, length-drop) (omega arith) in
    let zeros : drop (length list + length new) (pad_to 64 0 list) ≡ replicate (64 - length (take place list ++ (new ++ drop place list))) 0 =
    drop-append-add list Z (length new) ∙ drop_replicate (length new) (64 - length list)
    ∙ ap (λ (n : ℕ). replicate n 0)
    (let e : 64 - length list - length new ≡ 64 - length (take place list ++ (new ++ drop place list)) = omega arith in e) in
    seam (replicate {A = ℕ} (64 - length list) 0) front back zeros
    ∙ ap (λ (l : List ℕ). take place list ++ l) (sym (append_assoc new (drop place list) (replicate (64 - length (take place list ++ (new ++ drop place list))) 0)))
    ∙ sym (append_assoc (take place list) (new ++ drop place list) (replicate (64 - length (take place list ++ (new ++ drop place list))) 0))
  where
    -- the three parts put in
    seam : (Z : List ℕ) → take place (list ++ Z) ≡ take place list → take (length list - place) (drop place (list ++ Z)) ≡ drop place list
        → drop (length list + length new) (list ++ Z) ≡ replicate (64 - length (take place list ++ (new ++ drop place list))) 0
        → opened (list ++ Z) (length list) place new
        ≡ take place list ++ (new ++ (drop place list ++ replicate (64 - length (take place list ++ (new ++ drop place list))) 0))
    seam Z p q r = rw (p, q, r)
