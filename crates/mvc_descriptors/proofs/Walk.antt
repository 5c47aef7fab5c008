-- One turn of the walk through the descriptors of a stream: what is left of the bytes, and what was found so far.
-- Assumes nothing.
use Prim.Native.Nat.{ℕ, ◌+◌, ◌-◌, ◌≤◌, ◌<◌}
use mathlib.Core.Path.{◌≡◌, refl, sym, ◌∙◌, ap}
use mathlib.Core.Bool.{Bool, true, false, cond}
use mathlib.Core.List.{List, [], ◌∷◌, ◌++◌}
use native.Mathlib.Omega.{arith}
use lib.Dec.{eqb}
use lib.ListN.{length, take, drop, length-drop}
use lib.Seq.{drop-drop}
use Rattle.combinators.specs.Lists.{gather}
use Rattle.framing.specs.Pieces.{cut_broken, cut_piece}
use Rattle.descriptor_heads.specs.Head.{descriptor_tag, descriptor_length}
use Rattle.descriptor_heads.proofs.Heads.{tag_alone}
use Rattle.mvc_descriptors.specs.declared.Found.{Found}
use Rattle.mvc_descriptors.specs.declared.Found.TheVariants.{Missing, One, Wrong}
use Rattle.mvc_descriptors.specs.Finding.{payload_if, payloads_of, extension_payloads, found_in, found_next, found_by, found_after}

-- what is wrong stays so
stays_wrong : (ps : List (List ℕ)) → found_after Wrong ps ≡ Wrong
stays_wrong [] = refl
stays_wrong (p ∷ ps) = stays_wrong ps

second_wrong : (b : Bool) (x : _) (p : List ℕ) (ps : List (List ℕ)) → found_after (found_next (cond b (One x) Wrong) p) ps ≡ Wrong
second_wrong true x p ps = stays_wrong ps
second_wrong false x p ps = stays_wrong ps

-- THE WALK over all of them comes to what is found.
pub walk_finds : (ps : List (List ℕ)) → found_after Missing ps ≡ found_in ps
walk_finds [] = refl
walk_finds (p ∷ []) = refl
walk_finds (p ∷ q ∷ ps) = second_wrong (eqb (length p) 8) _ q ps

-- one descriptor more, then the others
pub by_tag_next : (found : Found) (tag : ℕ) (payload : List ℕ) (ps : List (List ℕ)) → found_after found (payload_if tag payload ++ ps) ≡ found_after (found_by found tag payload) ps
by_tag_next found tag payload ps = go (eqb tag 49)
  where
    go : (b : Bool) → found_after found (cond b (payload ∷ []) [] ++ ps) ≡ found_after (cond b (found_next found payload) found) ps
    go true = refl
    go false = refl

module _ (info left : List ℕ) (at : ℕ) (rest : left ≡ drop at info) where
  pub left_length : length left ≡ length info - at
  left_length = ap length rest ∙ length-drop at info

  pub payloads_stop : 0 < length left → length left < 2 + descriptor_length left → extension_payloads (drop at info) ≡ []
  payloads_stop h short = rw (← rest) (ap (gather payloads_of) (cut_broken 2 descriptor_length (omega arith) left h short))

  pub payloads_next : 2 + descriptor_length left ≤ length left
      → extension_payloads (drop at info)
      ≡ payload_if (descriptor_tag left) (take (descriptor_length left) (drop 2 left)) ++ extension_payloads (drop (at + (2 + descriptor_length left)) info)
  payloads_next f =
      let n : ℕ = descriptor_length left in
      let later : drop (at + (2 + n)) info ≡ drop (2 + n) left = sym (drop-drop (2 + n) at info) ∙ ap (drop (2 + n)) (sym rest) in
      ap extension_payloads (sym rest)
      ∙ ap (gather payloads_of) (cut_piece 2 descriptor_length (omega arith) left f)
      ∙ ap (λ (t : ℕ). payload_if t (take n (drop 2 left)) ++ extension_payloads (drop (2 + n) left)) (tag_alone left)
      ∙ ap (λ (l : List ℕ). payload_if (descriptor_tag left) (take n (drop 2 left)) ++ extension_payloads l) (sym later)
