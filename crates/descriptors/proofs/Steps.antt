-- What is seen after one descriptor more, and the law that such steps come to what is seen of all.
-- Assumes nothing.
use Prim.Native.Nat.{suc}
use mathlib.Core.Path.{◌≡◌, refl, ◌∙◌}
use mathlib.Core.Bool.{Bool, true, false, cond, not, ◌&&◌, ◌||◌, and-true, and-false, or-true, or-false}
use mathlib.Core.List.{List, [], ◌∷◌}
use native.Mathlib.Omega.{arith}
use borrow.Author.Tests.{lt-ltb}
use lib.Dec.{ltb, leb-suc-suc}
use lib.ListN.{length}
use Rattle.combinators.specs.Lists.{any, gather}
use Rattle.combinators.specs.Padding.{pad_to}
use Rattle.vocabulary.specs.declared.LayerIndex.{LayerIndex}
use Rattle.records.specs.declared.Record.{Record}
use Rattle.records.specs.declared.Record.TheVariants.{NoRecord, Hierarchy, Extension, Implied}
use Rattle.descriptors.specs.declared.looking.Look.{Look}
use Rattle.descriptors.specs.declared.looking.Look.TheVariants.{Skipped, WrongLength, Hierarchy as LookHierarchy, Extension as LookExtension}
use Rattle.descriptors.specs.declared.looking.Seen.{Seen}
use Rattle.extension.specs.Extension.{no_layer}
use Rattle.descriptors.specs.Looking.{Kind, does_not_fit, skipped, wrong_length, hierarchy, extension, Held, held_in, is_unfit, is_wrong_length, first_record, first_layers, seen_of_kinds, nothing_seen}
use Rattle.descriptors.specs.Finding.{look_of, layers_in}

-- a descriptor that does not fit
abbrev pub unfit_seen : Seen → Seen
unfit_seen s = record { fits = false; wrong_length = s.wrong_length; second_record = s.second_record; «record» = s.«record»; embedded = s.embedded }

abbrev pub with_wrong_length : Seen → Seen
with_wrong_length s = record { fits = s.fits; wrong_length = true; second_record = s.second_record; «record» = s.«record»; embedded = s.embedded }

abbrev pub with_second : Seen → Seen
with_second s = record { fits = s.fits; wrong_length = s.wrong_length; second_record = true; «record» = s.«record»; embedded = s.embedded }

abbrev pub with_first : Seen → Record → List LayerIndex → Seen
with_first s r layers = record { fits = s.fits; wrong_length = s.wrong_length; second_record = s.second_record; «record» = r; embedded = layers }

-- a record more: the first is kept, another is the second
abbrev pub besides : Record → Seen → Record → List LayerIndex → Seen
besides NoRecord s r layers = with_first s r layers
besides (Hierarchy h) s r layers = with_second s
besides (Extension x) s r layers = with_second s
besides Implied s r layers = with_second s

abbrev pub with_record : Seen → Record → List LayerIndex → Seen
with_record s r layers = besides s.«record» s r layers

abbrev pub with_look : Seen → Look → List LayerIndex → Seen
with_look s Skipped layers = s
with_look s WrongLength layers = with_wrong_length s
with_look s (LookHierarchy h) layers = with_record s (Hierarchy h) layers
with_look s (LookExtension x) layers = with_record s (Extension x) layers

-- any kind more
abbrev pub with_kind : Seen → Kind → Seen
with_kind s k = cond (is_unfit k) (unfit_seen s) (with_look s (look_of k) (pad_to 63 no_layer (layers_in k)))

abbrev pub seen_after : Seen → List Kind → Seen
seen_after s [] = s
seen_after s (k ∷ ks) = seen_after (with_kind s k) ks

-- what was seen before, and what the kinds after it add
abbrev join_record : Record → List Held → Record
join_record NoRecord hs = first_record hs
join_record (Hierarchy h) hs = Hierarchy h
join_record (Extension x) hs = Extension x
join_record Implied hs = Implied

abbrev join_layers : Record → List LayerIndex → List Held → List LayerIndex
join_layers NoRecord e [] = e
join_layers NoRecord e (h ∷ hs) = pad_to 63 no_layer h.layers
join_layers (Hierarchy h) e hs = e
join_layers (Extension x) e hs = e
join_layers Implied e hs = e

abbrev join_second : Record → List Held → Bool
join_second NoRecord hs = ltb 1 (length hs)
join_second (Hierarchy h) hs = ltb 0 (length hs)
join_second (Extension x) hs = ltb 0 (length hs)
join_second Implied hs = ltb 0 (length hs)

abbrev join : Seen → List Kind → Seen
join s ks =
    record {
      fits = s.fits && not (any is_unfit ks);
      wrong_length = s.wrong_length || any is_wrong_length ks;
      second_record = s.second_record || join_second s.«record» (gather held_in ks);
      «record» = join_record s.«record» (gather held_in ks);
      embedded = join_layers s.«record» s.embedded (gather held_in ks);
    }

-- one kind more, then the others, is that kind and the others
step : (f w d : Bool) (r : Record) (e : List LayerIndex) (k : Kind) (ks : List Kind)
    → let s : Seen = record { fits = f; wrong_length = w; second_record = d; «record» = r; embedded = e } in
    join (with_kind s k) ks ≡ join s (k ∷ ks)
step f w d r e does_not_fit ks = rw (and-false f)
step f w d r e skipped ks = refl
step f w d r e wrong_length ks = rw (or-true w)
step f w d NoRecord e (hierarchy h) ks = rw (leb-suc-suc 1 (length (gather held_in ks)))
step f w d (Hierarchy g) e (hierarchy h) ks = rw (lt-ltb 0 (suc (length (gather held_in ks))) (omega arith), or-true d)
step f w d (Extension g) e (hierarchy h) ks = rw (lt-ltb 0 (suc (length (gather held_in ks))) (omega arith), or-true d)
step f w d Implied e (hierarchy h) ks = rw (lt-ltb 0 (suc (length (gather held_in ks))) (omega arith), or-true d)
step f w d NoRecord e (extension x l) ks = rw (leb-suc-suc 1 (length (gather held_in ks)))
step f w d (Hierarchy g) e (extension x l) ks = rw (lt-ltb 0 (suc (length (gather held_in ks))) (omega arith), or-true d)
step f w d (Extension g) e (extension x l) ks = rw (lt-ltb 0 (suc (length (gather held_in ks))) (omega arith), or-true d)
step f w d Implied e (extension x l) ks = rw (lt-ltb 0 (suc (length (gather held_in ks))) (omega arith), or-true d)

nothing_more : (f w d : Bool) (r : Record) (e : List LayerIndex)
    → let s : Seen = record { fits = f; wrong_length = w; second_record = d; «record» = r; embedded = e } in s ≡ join s []
nothing_more f w d NoRecord e = rw (and-true f, or-false w, or-false d)
nothing_more f w d (Hierarchy h) e = rw (and-true f, or-false w, or-false d)
nothing_more f w d (Extension x) e = rw (and-true f, or-false w, or-false d)
nothing_more f w d Implied e = rw (and-true f, or-false w, or-false d)

after_join : (s : Seen) (ks : List Kind) → seen_after s ks ≡ join s ks
after_join s [] = nothing_more s.fits s.wrong_length s.second_record s.«record» s.embedded
after_join s (k ∷ ks) =
    after_join (with_kind s k) ks ∙ step s.fits s.wrong_length s.second_record s.«record» s.embedded k ks

layers_start : (hs : List Held) → join_layers NoRecord (pad_to 63 no_layer []) hs ≡ pad_to 63 no_layer (first_layers hs)
layers_start [] = refl
layers_start (h ∷ hs) = refl

-- The steps come to what is seen of all.
pub steps_see : (ks : List Kind) → seen_after nothing_seen ks ≡ seen_of_kinds ks
steps_see ks = after_join nothing_seen ks ∙ rw (layers_start (gather held_in ks))
