-- Laws of Pieces in specs/, which has the definitions and their meaning.
-- Assumes nothing.
use Rattle.std.specs.Prelude.{ℕ, zero, suc, ◌+◌, ◌-◌, ◌≤◌, ◌<◌, ◌≡◌, refl, List, [], ◌∷◌, ◌++◌, length, take, drop}
use Rattle.std.proofs.Common.{sym, ◌∙◌, ap, subst, arith, length-append, length-drop, take-append-drop, take_at, drop_at, drop-drop, length-take-le}
use Rattle.std.proofs.Math.Decide.{dec_le}
use Rattle.framing.specs.Pieces.{Cuts, Item, cut, cut_broken, cut_piece, does_not_fit, nothing_left, piece}

module _ (headSize : ℕ) (bodyLength : List ℕ → ℕ) where
  module _ (some-head : 0 < headSize) where
    -- what is computed is what is meant, where the length of a body is read off its head alone
    module _ (by_head : (head rest : List ℕ) → length head ≡ headSize → bodyLength (head ++ rest) ≡ bodyLength head) where
      -- one piece off the front, as the meaning has it
      front : (l : List ℕ) → headSize + bodyLength l ≤ length l → Cuts headSize bodyLength (drop (headSize + bodyLength l) l) (cut headSize bodyLength (drop (headSize + bodyLength l) l))
          → Cuts headSize bodyLength l (cut headSize bodyLength l)
      front l f later =
          let head : List ℕ = take headSize l in
          let left : List ℕ = drop headSize l in
          let body : List ℕ = take (bodyLength l) left in
          let rest : List ℕ = drop (headSize + bodyLength l) l in
          let head_length : length head ≡ headSize = length-take-le headSize l (omega arith) in
          let left_length : length left ≡ length l - headSize = length-drop headSize l in
          let body_length : length body ≡ bodyLength l = length-take-le (bodyLength l) left (omega arith) in
          let by : bodyLength l ≡ bodyLength head = ap bodyLength (sym (take-append-drop headSize l)) ∙ by_head head left head_length in
          let tail : body ++ rest ≡ left = rw (← drop-drop (bodyLength l) headSize l) (take-append-drop (bodyLength l) left) in
          let split : head ++ (body ++ rest) ≡ l = rw tail (take-append-drop headSize l) in
          subst (λ (k : List ℕ). Cuts headSize bodyLength k (cut headSize bodyLength l)) split
          (rw (cut_piece headSize bodyLength some-head l f) (piece head_length (body_length ∙ by) later))

      pub cut_cuts : (l : List ℕ) → Cuts headSize bodyLength l (cut headSize bodyLength l)
      cut_cuts l = go (length l) l (omega arith)
        where
          here : (l : List ℕ) → 0 < length l → Dec (headSize + bodyLength l ≤ length l)
              → Cuts headSize bodyLength (drop (headSize + bodyLength l) l) (cut headSize bodyLength (drop (headSize + bodyLength l) l)) → Cuts headSize bodyLength l (cut headSize bodyLength l)
          here l h (yes f) later = front l f later
          here l h (no f) later = rw (cut_broken headSize bodyLength some-head l h (omega arith)) (does_not_fit {l = l} h (omega arith))

          go : (m : ℕ) (l : List ℕ) → length l ≤ m → Cuts headSize bodyLength l (cut headSize bodyLength l)
          go zero [] h = nothing_left
          go (suc m) [] h = nothing_left
          go zero (b ∷ bs) h = absurd (omega arith)
          go (suc m) (b ∷ bs) h =
              let taken : ℕ = headSize + bodyLength (b ∷ bs) in
              here (b ∷ bs) (omega arith) (dec_le taken (length (b ∷ bs)))
              (go m (drop taken (b ∷ bs)) (rw (length-drop taken (b ∷ bs)) (omega arith)))

      pub cuts_unique : {l : List ℕ} {items : List Item} → Cuts headSize bodyLength l items → items ≡ cut headSize bodyLength l
      cuts_unique nothing_left = refl
      cuts_unique (does_not_fit {l} h f) = sym (cut_broken headSize bodyLength some-head l h f)
      cuts_unique (piece {head} {body} {rest} {items} eh eb c) =
          let l : List ℕ = head ++ (body ++ rest) in
          let by : bodyLength l ≡ length body = by_head head (body ++ rest) eh ∙ sym eb in
          let long : length l ≡ length head + (length body + length rest) = simp length-append in
          let fits : headSize + bodyLength l ≤ length l = omega arith in
          let left : drop headSize l ≡ body ++ rest = drop_at head (body ++ rest) headSize eh in
          let tail : drop (headSize + bodyLength l) l ≡ rest =
          sym (drop-drop (bodyLength l) headSize l) ∙ (rw left (drop_at body rest (bodyLength l) (sym by))) in
          let first : take headSize l ≡ head = take_at head (body ++ rest) headSize eh in
          let second : take (bodyLength l) (drop headSize l) ≡ body = rw left (take_at body rest (bodyLength l) (sym by)) in
          rw (cut_piece headSize bodyLength some-head l fits, first, second, tail, cuts_unique c)
