-- Arrays filled from the front, one element more at a time. The definitions stand in Padding and Gathering of specs/.
-- Assumes nothing.
use Rattle.std.specs.Prelude.{ℕ, ◌+◌, ◌≤◌, ◌<◌, ◌≡◌, Bool, true, List, [], ◌∷◌, map, length, get_or, set, take}
use Rattle.std.proofs.Common.{sym, ◌∙◌, ap, arith, add-one, length-append, take-suc, length-take-le}
use Rattle.std.proofs.lemmas.List.{map-append, length-map}
use Rattle.combinators.specs.Below.{count}
use Rattle.combinators.specs.Padding.{pad_to, store_pad_to}
use Rattle.combinators.specs.Those.{those, those_more}
use Rattle.combinators.specs.Gathering.{Gathered, gathered_room}

-- a list's first i elements, each taken by f, and one more
pub store_map : {A B : Type 0} (n : ℕ) (blank : A) (f : B → A) (l : List B) (i : ℕ) (d : B) → i < length l → i < n
    → set (pad_to n blank (map f (take i l))) i (f (get_or l i d)) ≡ pad_to n blank (map f (take (i + 1) l))
store_map n blank f l i d h k =
    let filled : length (map f (take i l)) ≡ i = length-map (take i l) f ∙ length-take-le i l (omega arith) in
    store_pad_to n blank (f (get_or l i d)) (map f (take i l)) i filled k
    ∙ rw (add-one i, take-suc l i d h, map-append f (take i l) (get_or l i d ∷ []))

module _ (test : ℕ → Bool) (bound size : ℕ) where
  -- one number more that passes, stored after those that passed before
  module _ (n passed : ℕ) (array : List ℕ) (known : Gathered test bound size n passed array) (inside : n < bound) where
    pub gathered_more : count test bound ≤ size → test n ≡ true → Gathered test bound size (n + 1) (passed + 1) (set array passed n)
    gathered_more few e =
        record {
          within = omega arith;
          counted = ap (λ (c : ℕ). c + 1) known.counted ∙ sym (length-append (those test n) (n ∷ [])) ∙ ap length (sym (those_more test n e));
          filled = ap (λ (l : List ℕ). set l passed n) known.filled
              ∙ store_pad_to size 0 n (those test n) passed (sym known.counted) (gathered_room test bound size n passed array known inside few e)
              ∙ ap (pad_to size 0) (sym (those_more test n e));
        }
