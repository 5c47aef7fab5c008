-- Bytes cut into pieces. A piece is a head of a fixed number of bytes, and a body whose length the head gives. Where bytes are left
-- over that hold no whole piece, the last item says so.
-- Assumes nothing.
use Rattle.std.specs.Prelude.{ℕ, zero, suc, ◌+◌, ◌≤◌, ◌<◌, ◌≡◌, refl, cond, List, [], ◌∷◌, ◌++◌, leb, length, take, drop}
use Rattle.std.proofs.Common.{arith, le-leb, length-drop}
use Rattle.std.proofs.lemmas.Bool.{lt-leb}

pub data Item : Type 0 where
  whole : (head body : List ℕ) → Item
  broken : Item

-- The meaning: nothing left gives nothing; a head with as many bytes after it as it says is a piece, and the rest is cut in the
-- same way; anything else does not fit.
module _ (headSize : ℕ) (bodyLength : List ℕ → ℕ) where
  pub data Cuts : List ℕ → List Item → Type 0 where
    nothing_left : Cuts [] []
    does_not_fit : {l : List ℕ} → 0 < length l → length l < headSize + bodyLength l → Cuts l (broken ∷ [])
    piece : {head body rest : List ℕ} {items : List Item} → length head ≡ headSize → length body ≡ bodyLength head → Cuts rest items
        → Cuts (head ++ (body ++ rest)) (whole head body ∷ items)

  -- The same, computed. Each piece takes at least a byte, so the number of bytes bounds the number of pieces.
  abbrev pub cut_within : ℕ → List ℕ → List Item
  cut_within zero l = []
  cut_within (suc most) [] = []
  cut_within (suc most) (b ∷ bs) =
      let l : List ℕ = b ∷ bs in
      let later : List Item = cut_within most (drop (headSize + bodyLength l) l) in
      cond (leb (headSize + bodyLength l) (length l)) (whole (take headSize l) (take (bodyLength l) (drop headSize l)) ∷ later)
      (broken ∷ [])

  abbrev pub cut : List ℕ → List Item
  cut l = cut_within (length l) l

  module _ (some-head : 0 < headSize) where
    -- the bound is no more than a bound: any two that are large enough give the same
    same_within : (m n : ℕ) (l : List ℕ) → length l ≤ m → length l ≤ n → cut_within m l ≡ cut_within n l
    same_within zero zero l h k = refl
    same_within zero (suc n) [] h k = refl
    same_within zero (suc n) (b ∷ bs) h k = absurd (omega arith)
    same_within (suc m) zero [] h k = refl
    same_within (suc m) zero (b ∷ bs) h k = absurd (omega arith)
    same_within (suc m) (suc n) [] h k = refl
    same_within (suc m) (suc n) (b ∷ bs) h k =
        let taken : ℕ = headSize + bodyLength (b ∷ bs) in
        let left : length (drop taken (b ∷ bs)) ≤ length bs = rw (length-drop taken (b ∷ bs)) (omega arith) in
        rw (same_within m n (drop taken (b ∷ bs)) (omega arith) (omega arith))

    pub cut_end : cut [] ≡ []
    cut_end = refl

    pub cut_broken : (l : List ℕ) → 0 < length l → length l < headSize + bodyLength l → cut l ≡ broken ∷ []
    cut_broken [] h f = absurd (omega arith)
    cut_broken (b ∷ bs) h f = rw (lt-leb (headSize + bodyLength (b ∷ bs)) (length (b ∷ bs)) f)

    pub cut_piece : (l : List ℕ) → headSize + bodyLength l ≤ length l
        → cut l ≡ whole (take headSize l) (take (bodyLength l) (drop headSize l)) ∷ cut (drop (headSize + bodyLength l) l)
    cut_piece [] f = absurd (omega arith)
    cut_piece (b ∷ bs) f =
        let n : ℕ = headSize + bodyLength (b ∷ bs) in
        let d : length (drop n (b ∷ bs)) ≤ length bs = rw (length-drop n (b ∷ bs)) (omega arith) in
        rw (le-leb n (length (b ∷ bs)) f, same_within (length bs) (length (drop n (b ∷ bs))) (drop n (b ∷ bs)) d (omega arith))
