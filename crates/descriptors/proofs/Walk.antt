-- One turn of the walk through the descriptors of a stream: what is left of the bytes, and what was seen so far.
-- Assumes nothing.
use Prim.Native.Nat.{ℕ, ◌+◌, ◌-◌, ◌≤◌, ◌<◌}
use mathlib.Core.Path.{◌≡◌, refl, sym, ◌∙◌, ap}
use mathlib.Core.Bool.{Bool, true, false, cond, ◌&&◌}
use mathlib.Core.List.{List, [], ◌∷◌, map}
use native.Mathlib.Omega.{arith}
use lib.Dec.{eqb, ltb}
use lib.ListN.{length, get_or, take, drop, length-drop}
use lib.Seq.{drop-drop}
use Rattle.combinators.specs.Padding.{pad_to}
use Rattle.framing.specs.Pieces.{cut_broken, cut_piece}
use Rattle.vocabulary.specs.declared.stream_types.Reading.{Reading}
use Rattle.vocabulary.specs.declared.stream_types.Reading.TheVariants.{Edition2009, Edition2015}
use Rattle.descriptors.specs.declared.looking.Seen.{Seen}
use Rattle.descriptor_heads.specs.Head.{descriptor_tag, descriptor_length}
use Rattle.descriptor_heads.proofs.Heads.{tag_alone}
use Rattle.hierarchy.specs.Hierarchy.{hierarchy_of}
use Rattle.extension.specs.Extension.{no_layer, extension_of, embedded_of}
use Rattle.descriptors.specs.Looking.{Kind, does_not_fit, skipped, wrong_length, hierarchy, extension, is_unfit, kind_of, kinds_of, payload_kind, tag4_kind, tag63_kind, seen_of}
use Rattle.descriptors.specs.Finding.{look_of, layers_in}
use Rattle.descriptors.proofs.Steps.{unfit_seen, with_look, with_kind, seen_after}

cond_fits : (t : Bool) (x y : Kind) → is_unfit x ≡ false → is_unfit y ≡ false → is_unfit (cond t x y) ≡ false
cond_fits true x y p q = p
cond_fits false x y p q = q

-- a descriptor that was looked at fits
payload_fits : (reading : Reading) (tag : ℕ) (p : List ℕ) → is_unfit (payload_kind reading tag p) ≡ false
payload_fits reading tag p =
    cond_fits (eqb tag 4) (tag4_kind reading p) (cond (eqb tag 63) (tag63_kind reading p) skipped)
    (cond_fits (eqb (length p) 4) (hierarchy (hierarchy_of reading p)) wrong_length refl refl)
    (cond_fits (eqb tag 63) (tag63_kind reading p) skipped (by_reading reading) refl)
  where
    counted : Kind
    counted = cond (eqb (length p) (7 + (extension_of p).num_embedded_layers)) (extension (extension_of p) (embedded_of p)) wrong_length

    by_reading : (r : Reading) → is_unfit (tag63_kind r p) ≡ false
    by_reading Edition2009 = refl
    by_reading Edition2015 =
        cond_fits (ltb 0 (length p) && eqb (get_or p 0 0) 0x06) counted skipped
        (cond_fits (eqb (length p) (7 + (extension_of p).num_embedded_layers)) (extension (extension_of p) (embedded_of p)) wrong_length refl refl)
        refl

-- THE KINDS of the bytes that are left.
module _ (reading : Reading) (info left : List ℕ) (at : ℕ) (rest : left ≡ drop at info) where
  pub left_length : length left ≡ length info - at
  left_length = ap length rest ∙ length-drop at info

  pub kinds_stop : 0 < length left → length left < 2 + descriptor_length left → kinds_of reading (drop at info) ≡ does_not_fit ∷ []
  kinds_stop h short = rw (← rest) (ap (map (kind_of reading)) (cut_broken 2 descriptor_length (omega arith) left h short))

  pub kinds_next : 2 + descriptor_length left ≤ length left
      → kinds_of reading (drop at info)
      ≡ payload_kind reading (descriptor_tag left) (take (descriptor_length left) (drop 2 left))
      ∷ kinds_of reading (drop (at + (2 + descriptor_length left)) info)
  kinds_next f =
      let n : ℕ = descriptor_length left in
      let later : drop (at + (2 + n)) info ≡ drop (2 + n) left = sym (drop-drop (2 + n) at info) ∙ ap (drop (2 + n)) (sym rest) in
      ap (kinds_of reading) (sym rest)
      ∙ ap (map (kind_of reading)) (cut_piece 2 descriptor_length (omega arith) left f)
      ∙ ap (λ (t : ℕ). payload_kind reading t (take n (drop 2 left)) ∷ kinds_of reading (drop (2 + n) left)) (tag_alone left)
      ∙ ap (λ (l : List ℕ). payload_kind reading (descriptor_tag left) (take n (drop 2 left)) ∷ kinds_of reading l) (sym later)

  -- with what was seen so far
  module _ (seen : Seen) (inv : seen_after seen (kinds_of reading (drop at info)) ≡ seen_of reading info) where
    pub stop : 0 < length left → length left < 2 + descriptor_length left → unfit_seen seen ≡ seen_of reading info
    stop h short = ap (seen_after seen) (sym (kinds_stop h short)) ∙ inv

    pub next : 2 + descriptor_length left ≤ length left → (after : Seen)
        → (let k : Kind = payload_kind reading (descriptor_tag left) (take (descriptor_length left) (drop 2 left)) in
        after ≡ with_look seen (look_of k) (pad_to 63 no_layer (layers_in k)))
        → seen_after after (kinds_of reading (drop (at + (2 + descriptor_length left)) info)) ≡ seen_of reading info
    next f after e =
        let n : ℕ = descriptor_length left in
        let k : Kind = payload_kind reading (descriptor_tag left) (take n (drop 2 left)) in
        let here : after ≡ with_kind seen k = e ∙ rw (payload_fits reading (descriptor_tag left) (take n (drop 2 left))) in
        rw here (ap (seen_after seen) (sym (kinds_next f)) ∙ inv)
