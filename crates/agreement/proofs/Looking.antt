-- Each reading sees the same kinds of descriptor in the descriptors of a 2009 stream that an accepted 2015 loop has, and the same records but for no_view.
-- What a kind is in the 2009 reading stands in specs/Looking.antt.
-- Assumes nothing.
use Rattle.std.specs.Prelude.{ℕ, ◌+◌, ◌<◌, ◌≡◌, refl, Bool, true, false, cond, ◌&&◌, List, [], ◌∷◌, map, eqb, ltb, length, get_or}
use Rattle.std.proofs.Common.{◌∙◌, ap, ap₂, true≢false, arith}
use Rattle.combinators.specs.Bools.{neither_left, neither_right}
use Rattle.combinators.specs.Lists.{any, gather}
use Rattle.framing.specs.Pieces.{Item, whole, broken, cut}
use Rattle.vocabulary.specs.declared.stream_types.Reading.TheVariants.{Edition2009, Edition2015}
use Rattle.records.specs.declared.Record.TheVariants.{Hierarchy}
use Rattle.hierarchy.specs.Hierarchy.{hierarchy_of}
use Rattle.extension.specs.Extension.{extension_of, embedded_of}
use Rattle.descriptors.specs.Looking.{Kind, does_not_fit, skipped, wrong_length, hierarchy, extension, tag4_kind, extension_kind, kind_of, kinds_of, Held, held_in, is_wrong_length, first_record}
use Rattle.descriptor_heads.specs.Head.{descriptor_tag, descriptor_length}
use Rattle.agreement.specs.Records.{view_unread, same_hierarchy}
use Rattle.agreement.specs.Looking.{Plain, held_in2009, is_extension, kind_in2009}

-- An extension of a wrong length is seen by the 2015 reading alone; but for it the kinds are these.
kind_in_2009 : (x : Item) → is_wrong_length (kind_of Edition2015 x) ≡ false → kind_of Edition2009 x ≡ kind_in2009 (kind_of Edition2015 x)
kind_in_2009 broken e = refl
kind_in_2009 (whole head payload) e = by_4 (eqb (descriptor_tag head) 4) e
  where
    hierarchies : (b : Bool) → cond b (hierarchy (hierarchy_of Edition2009 payload)) wrong_length
        ≡ kind_in2009 (cond b (hierarchy (hierarchy_of Edition2015 payload)) wrong_length)
    hierarchies true = ap hierarchy (same_hierarchy payload)
    hierarchies false = refl

    extensions : (b c : Bool) → is_wrong_length (cond b (cond c (extension (extension_of payload) (embedded_of payload)) wrong_length) skipped) ≡ false
        → skipped ≡ kind_in2009 (cond b (cond c (extension (extension_of payload) (embedded_of payload)) wrong_length) skipped)
    extensions true true p = refl
    extensions true false p = absurd (true≢false p)
    extensions false c p = refl

    by_63 : (b : Bool) → is_wrong_length (cond b (extension_kind payload) skipped) ≡ false
        → cond b skipped skipped ≡ kind_in2009 (cond b (extension_kind payload) skipped)
    by_63 true p =
        extensions (ltb 0 (length payload) && eqb (get_or payload 0 0) 0x06)
        (eqb (length payload) (7 + (extension_of payload).num_embedded_layers)) p
    by_63 false p = refl

    by_4 : (b : Bool) → is_wrong_length (cond b (tag4_kind Edition2015 payload) (cond (eqb (descriptor_tag head) 63) (extension_kind payload) skipped)) ≡ false
        → cond b (tag4_kind Edition2009 payload) (cond (eqb (descriptor_tag head) 63) skipped skipped)
        ≡ kind_in2009 (cond b (tag4_kind Edition2015 payload) (cond (eqb (descriptor_tag head) 63) (extension_kind payload) skipped))
    by_4 true p = hierarchies (eqb (length payload) 4)
    by_4 false p = by_63 (eqb (descriptor_tag head) 63) p

-- ---- all descriptors of a stream

all_kinds : (items : List Item) → any is_wrong_length (map (kind_of Edition2015) items) ≡ false
    → map (kind_of Edition2009) items ≡ map kind_in2009 (map (kind_of Edition2015) items)
all_kinds [] e = refl
all_kinds (x ∷ xs) e =
    let first : Bool = is_wrong_length (kind_of Edition2015 x) in
    let later : Bool = any is_wrong_length (map (kind_of Edition2015) xs) in
    ap₂ (λ (k : Kind) (ks : List Kind). k ∷ ks) (kind_in_2009 x (neither_left first later e)) (all_kinds xs (neither_right first later e))

none_held : (kinds : List Kind) → length (gather held_in kinds) < 1 → gather held_in (map kind_in2009 kinds) ≡ map held_in2009 (gather held_in kinds)
none_held [] h = refl
none_held (does_not_fit ∷ ks) h = none_held ks h
none_held (skipped ∷ ks) h = none_held ks h
none_held (wrong_length ∷ ks) h = none_held ks h
none_held (hierarchy x ∷ ks) h = absurd (omega arith)
none_held (extension x layers ∷ ks) h = absurd (omega arith)

-- one record at the most, and it is no extension
one_held : (kinds : List Kind) → length (gather held_in kinds) < 2 → is_extension (first_record (gather held_in kinds)) ≡ false
    → gather held_in (map kind_in2009 kinds) ≡ map held_in2009 (gather held_in kinds)
one_held [] h e = refl
one_held (does_not_fit ∷ ks) h e = one_held ks h e
one_held (skipped ∷ ks) h e = one_held ks h e
one_held (wrong_length ∷ ks) h e = one_held ks h e
one_held (hierarchy x ∷ ks) h e =
    ap (λ (hs : List Held). record { held = Hierarchy (view_unread x); layers = [] } ∷ hs) (none_held ks (omega arith))
one_held (extension x layers ∷ ks) h e = absurd (true≢false e)

pub kinds_alike : {info : List ℕ} → Plain info → kinds_of Edition2009 info ≡ map kind_in2009 (kinds_of Edition2015 info)
kinds_alike {info} p = all_kinds (cut 2 descriptor_length info) p.right_length

pub held_alike : {info : List ℕ} → Plain info → gather held_in (kinds_of Edition2009 info) ≡ map held_in2009 (gather held_in (kinds_of Edition2015 info))
held_alike {info} p = ap (gather held_in) (kinds_alike p) ∙ one_held (kinds_of Edition2015 info) p.one_record p.no_extension
