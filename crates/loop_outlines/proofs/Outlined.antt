-- The outline of a stream from what was found in its descriptors. A mark says nothing on embedded layers: of an implied layer 9 never holds, as without a record.
-- Assumes nothing.
use Prim.Native.Nat.{ℕ}
use mathlib.Core.Path.{◌≡◌, refl, sym, ◌∙◌, ap, ap₂}
use mathlib.Core.Bool.{Bool, true, false, cond}
use mathlib.Core.List.{List}
use Rattle.combinators.specs.Padding.{pad_to}
use Rattle.vocabulary.specs.declared.LayerIndex.{LayerIndex}
use Rattle.extension.specs.Extension.{no_layer}
use Rattle.records.specs.declared.Record.{Record}
use Rattle.records.specs.declared.Record.TheVariants.{NoRecord, Hierarchy, Extension, Implied}
use Rattle.descriptors.specs.declared.looking.Found.{Found}
use Rattle.descriptors.specs.declared.looking.Seen.{Seen}
use Rattle.descriptors.specs.Finding.{list_before, seen_by}
use Rattle.implied.specs.Rule.{given}
use Rattle.implied.specs.Marking.{with_mark, marked_record}
use Rattle.judging.specs.Judging.{wrong_embedded, TellsEmbedded}
use Rattle.judging.proofs.Meant.{implied_sound}
use Rattle.loop_entries.specs.Entries.{marked_stream}
use Rattle.loop_outlines.specs.declared.Outline.{Outline}
use Rattle.loop_outlines.specs.Outlines.{outline_of}

marked_same : (pair : Bool) (t : ℕ) (r : Record) (layers : List LayerIndex) → wrong_embedded t r layers ≡ wrong_embedded t (marked_record pair t r) layers
marked_same pair t r layers = go (given pair t)
  where
    with_mark_lem : (r : Record) → wrong_embedded t r layers ≡ wrong_embedded t (with_mark r) layers
    with_mark_lem NoRecord = sym (implied_sound t layers)
    with_mark_lem (Hierarchy h) = refl
    with_mark_lem (Extension x) = refl
    with_mark_lem Implied = refl

    go : (b : Bool) → wrong_embedded t r layers ≡ wrong_embedded t (cond b (with_mark r) r) layers
    go true = with_mark_lem r
    go false = refl

-- the outline of what is seen
abbrev pub outline_with : Bool → ℕ → ℕ → Seen → Outline
outline_with pair t pid s = outline_of (marked_stream pair (record { fits = s.fits; stream_type = t; pid = pid; seen = s }))

pub outlined : (pair : Bool) (t pid : ℕ) (info : List ℕ) (found : Found) (seen : Seen) → seen_by info found ≡ seen → (marked : Record)
    → marked ≡ marked_record pair t found.«record» → (wrong : Bool)
    → TellsEmbedded wrong found.«record» (pad_to 63 no_layer (list_before info found.«record» found.end))
    → ◌≡◌ {A = Outline}
    (record {
      fits = found.fits;
      stream_type = t;
      pid = pid;
      wrong_length = found.wrong_length;
      second_record = found.second_record;
      «record» = marked;
      wrong_embedded = wrong;
    })
    (outline_with pair t pid seen)
outlined pair t pid info found seen is_seen marked is_marked wrong tells =
    ap₂
    (λ (r : Record) (w : Bool). record { fits = found.fits; stream_type = t; pid = pid; wrong_length = found.wrong_length; second_record = found.second_record; «record» = r; wrong_embedded = w })
    is_marked
    (tells t ∙ marked_same pair t found.«record» (pad_to 63 no_layer (list_before info found.«record» found.end)))
    ∙ ap (outline_with pair t pid) is_seen
