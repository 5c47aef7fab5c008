-- The law that joins the meaning of a stream's descriptors to what is computed, both ways.
-- Assumes nothing.
use Prim.Native.Nat.{ℕ, ◌+◌, ◌≤◌}
use mathlib.Core.Path.{◌≡◌, refl, sym, ◌∙◌, ap, ap₂, subst}
use mathlib.Core.Logic.{◌≢◌}
use mathlib.Core.Bool.{Bool, true, false, cond}
use mathlib.Core.List.{List, [], ◌∷◌, map}
use native.Mathlib.Omega.{arith}
use native.Mathlib.Decide.{dec_le}
use borrow.Author.Tests.{lt-ltb, eq-eqb, ne_eqb, eqb-true, eqb-false}
use lib.Dec.{eqb, ltb}
use lib.ListN.{length}
use Rattle.framing.specs.Pieces.{Item, whole, broken, cut}
use Rattle.framing.proofs.Pieces.{cut_cuts, cuts_unique}
use Rattle.vocabulary.specs.declared.stream_types.Reading.{Reading}
use Rattle.vocabulary.specs.declared.stream_types.Reading.TheVariants.{Edition2009, Edition2015}
use Rattle.descriptor_heads.specs.Head.{descriptor_tag, descriptor_length}
use Rattle.descriptor_heads.proofs.Heads.{by_tag}
use Rattle.hierarchy.specs.Hierarchy.{hierarchy_of}
use Rattle.extension.specs.Extension.{extension_of, embedded_of}
use Rattle.descriptors.specs.Looking.{Kind, skipped, wrong_length, hierarchy, extension, tag63_kind, tag4_kind, kind_of, kinds_of}
use Rattle.descriptors.specs.Meaning.{Shows, unfit, a_hierarchy, not_4_long, an_extension, without_its_count, not_as_counted, other_extension, no_extension_tag, extension_in_2009, other_tag, ShowEach, none, one_then, Descriptors}

some_byte : (first : ℕ) (rest : List ℕ) → ltb 0 (length (first ∷ rest)) ≡ true
some_byte first rest = lt-ltb 0 (length (first ∷ rest)) (omega arith)

-- THE KIND COMPUTED IS SHOWN.
shows_63 : (reading : Reading) (head payload : List ℕ) → descriptor_tag head ≡ 63 → Shows reading (whole head payload) (tag63_kind reading payload)
shows_63 Edition2009 head payload is-63 = extension_in_2009 refl is-63
shows_63 Edition2015 head [] is-63 = no_extension_tag is-63
shows_63 Edition2015 head (first ∷ rest) is-63 = rw (some_byte first rest) (by_extension (eqb first 0x06) refl)
  where
    counted : ℕ
    counted = 7 + (extension_of (first ∷ rest)).num_embedded_layers

    by_length : first ≡ 0x06 → (b : Bool) → eqb (length (first ∷ rest)) counted ≡ b
        → Shows Edition2015 (whole head (first ∷ rest)) (cond b (extension (extension_of (first ∷ rest)) (embedded_of (first ∷ rest))) wrong_length)
    by_length is-6 true p =
        subst (λ (f : ℕ). Shows Edition2015 (whole head (f ∷ rest)) (extension (extension_of (f ∷ rest)) (embedded_of (f ∷ rest)))) (sym is-6)
        (an_extension refl is-63 (rw is-6 at (eqb-true (length (first ∷ rest)) counted p)))
    by_length is-6 false p =
        subst (λ (f : ℕ). Shows Edition2015 (whole head (f ∷ rest)) wrong_length) (sym is-6)
        (long_enough (dec_le 7 (length (0x06 ∷ rest))) (rw is-6 at (eqb-false (length (first ∷ rest)) counted p)))
      where
        long_enough : Dec (7 ≤ length (0x06 ∷ rest)) → length (0x06 ∷ rest) ≢ 7 + (extension_of (0x06 ∷ rest)).num_embedded_layers
            → Shows Edition2015 (whole head (0x06 ∷ rest)) wrong_length
        long_enough (yes h) other = not_as_counted refl is-63 h other
        long_enough (no h) other = without_its_count {rest = rest} refl is-63 (omega arith)

    by_extension : (b : Bool) → eqb first 0x06 ≡ b
        → Shows Edition2015 (whole head (first ∷ rest))
        (cond b (cond (eqb (length (first ∷ rest)) counted) (extension (extension_of (first ∷ rest)) (embedded_of (first ∷ rest))) wrong_length) skipped)
    by_extension true p = by_length (eqb-true first 0x06 p) (eqb (length (first ∷ rest)) counted) refl
    by_extension false p = other_extension is-63 (eqb-false first 0x06 p)

shows_meant : (reading : Reading) (item : Item) → Shows reading item (kind_of reading item)
shows_meant reading broken = unfit
shows_meant reading (whole head payload) = by_4 (eqb (descriptor_tag head) 4) refl
  where
    by_length : descriptor_tag head ≡ 4 → (b : Bool) → eqb (length payload) 4 ≡ b
        → Shows reading (whole head payload) (cond b (hierarchy (hierarchy_of reading payload)) wrong_length)
    by_length is-4 true p = a_hierarchy is-4 (eqb-true (length payload) 4 p)
    by_length is-4 false p = not_4_long is-4 (eqb-false (length payload) 4 p)

    by_63 : descriptor_tag head ≢ 4 → (b : Bool) → eqb (descriptor_tag head) 63 ≡ b
        → Shows reading (whole head payload) (cond b (tag63_kind reading payload) skipped)
    by_63 not-4 true p = shows_63 reading head payload (eqb-true (descriptor_tag head) 63 p)
    by_63 not-4 false p = other_tag not-4 (eqb-false (descriptor_tag head) 63 p)

    by_4 : (b : Bool) → eqb (descriptor_tag head) 4 ≡ b
        → Shows reading (whole head payload) (cond b (tag4_kind reading payload) (cond (eqb (descriptor_tag head) 63) (tag63_kind reading payload) skipped))
    by_4 true p = by_length (eqb-true (descriptor_tag head) 4 p) (eqb (length payload) 4) refl
    by_4 false p = by_63 (eqb-false (descriptor_tag head) 4 p) (eqb (descriptor_tag head) 63) refl

-- AND NO OTHER KIND IS.
shows_only : {reading : Reading} {item : Item} {kind : Kind} → Shows reading item kind → kind ≡ kind_of reading item
shows_only unfit = refl
shows_only (a_hierarchy {head} {payload} t l) = sym (rw (t, eq-eqb (length payload) 4 l))
shows_only (not_4_long {head} {payload} t l) = sym (rw (t, ne_eqb (length payload) 4 l))
shows_only (an_extension {head} {rest} r t l) =
    sym (rw (r, t, some_byte 0x06 rest, eq-eqb (length (0x06 ∷ rest)) (7 + (extension_of (0x06 ∷ rest)).num_embedded_layers) l))
shows_only (without_its_count {head} {rest} r t l) =
    let other : length (0x06 ∷ rest) ≢ 7 + (extension_of (0x06 ∷ rest)).num_embedded_layers = omega arith in
    sym (rw (r, t, some_byte 0x06 rest, ne_eqb (length (0x06 ∷ rest)) (7 + (extension_of (0x06 ∷ rest)).num_embedded_layers) other))
shows_only (not_as_counted {head} {rest} r t h l) =
    sym (rw (r, t, some_byte 0x06 rest, ne_eqb (length (0x06 ∷ rest)) (7 + (extension_of (0x06 ∷ rest)).num_embedded_layers) l))
shows_only {reading} (other_extension {head} {rest} {first} t l) = sym (rw t (by_reading reading))
  where
    by_reading : (r : Reading) → tag63_kind r (first ∷ rest) ≡ skipped
    by_reading Edition2009 = refl
    by_reading Edition2015 = rw (some_byte first rest, ne_eqb first 0x06 l)
shows_only {reading} (no_extension_tag {head} t) = sym (rw t (by_reading reading))
  where
    by_reading : (r : Reading) → tag63_kind r [] ≡ skipped
    by_reading Edition2009 = refl
    by_reading Edition2015 = refl
shows_only (extension_in_2009 r t) = sym (rw (r, t))
shows_only (other_tag {head} a b) = sym (rw (ne_eqb (descriptor_tag head) 4 a, ne_eqb (descriptor_tag head) 63 b))

-- ALL OF THEM.
module _ (reading : Reading) where
  each_meant : (items : List Item) → ShowEach reading items (map (kind_of reading) items)
  each_meant [] = none
  each_meant (item ∷ items) = one_then (shows_meant reading item) (each_meant items)

  each_only : {items : List Item} {kinds : List Kind} → ShowEach reading items kinds → kinds ≡ map (kind_of reading) items
  each_only none = refl
  each_only (one_then s each) = ap₂ (λ (k : Kind) (ks : List Kind). k ∷ ks) (shows_only s) (each_only each)

  pub descriptors_meant : (info : List ℕ) → Descriptors reading info (kinds_of reading info)
  descriptors_meant info =
      record {
        items = cut 2 descriptor_length info;
        cuts = cut_cuts 2 descriptor_length (omega arith) by_tag info;
        shown = each_meant (cut 2 descriptor_length info);
      }

  pub descriptors_only : {info : List ℕ} {kinds : List Kind} → Descriptors reading info kinds → kinds ≡ kinds_of reading info
  descriptors_only d = each_only d.shown ∙ ap (map (kind_of reading)) (cuts_unique 2 descriptor_length (omega arith) by_tag d.cuts)
