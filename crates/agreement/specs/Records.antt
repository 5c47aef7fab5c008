-- WHAT THE 2009 READING ANSWERS OF AN ENTRY, said of what the 2015 reading answers of it: the same stream type and PID; on a 2009 stream type
-- the same record but for no_view, which it answers as 1, and on any other type no record. Entries has the law that this is so of every entry
-- of a loop that the 2015 reading accepts.
-- Assumes nothing.
use Rattle.std.specs.Prelude.{ℕ, ◌≡◌, refl, Bool, true, false, cond, ◌||◌, List, [], ◌∷◌, ◌++◌, eqb, drop}
use Rattle.std.proofs.Common.{arith}
use Rattle.combinators.specs.Members.{member}
use Rattle.combinators.specs.Padding.{pad_to}
use Rattle.vocabulary.specs.declared.LayerIndex.{LayerIndex}
use Rattle.vocabulary.specs.declared.stream_types.Reading.TheVariants.{Edition2009, Edition2015}
use Rattle.vocabulary.specs.StreamTypes.{known_types, known}
use Rattle.hierarchy.specs.declared.HierarchyRecord.{HierarchyRecord}
use Rattle.records.specs.declared.Record.{Record}
use Rattle.records.specs.declared.Record.TheVariants.{NoRecord, Hierarchy, Extension, Implied}
use Rattle.extension.specs.Extension.{no_layer}
use Rattle.hierarchy.specs.Hierarchy.{hierarchy_of}
use Rattle.loop_entries.specs.declared.Entry.{Entry}

-- 'the 2009 reading answers no_view as 1'
abbrev pub view_unread : HierarchyRecord → HierarchyRecord
view_unread h =
    record {
      no_view = true;
      no_temporal = h.no_temporal;
      no_spatial = h.no_spatial;
      no_quality = h.no_quality;
      hierarchy_type = h.hierarchy_type;
      layer_index = h.layer_index;
      tref_present_flag = h.tref_present_flag;
      embedded_layer_index = h.embedded_layer_index;
      channel = h.channel;
    }

-- '2015 reading only (the 2009 reading skips it)', of the extension; an accepted loop has none on a 2009 stream type, by refusal 6. 'Both readings do
-- this', of the implied mark.
abbrev pub record_in2009 : Record → Record
record_in2009 NoRecord = NoRecord
record_in2009 (Hierarchy h) = Hierarchy (view_unread h)
record_in2009 (Extension x) = NoRecord
record_in2009 Implied = Implied

-- 'Entries of other types are framed, .. and their descriptors are not looked into.'
abbrev pub with_record : Entry → Record → List LayerIndex → Entry
with_record e r layers = record { stream_type = e.stream_type; pid = e.pid; «record» = r; embedded = layers }

abbrev pub entry_in2009 : Entry → Entry
entry_in2009 e =
    cond (known Edition2009 e.stream_type) (with_record e (record_in2009 e.«record») e.embedded) (with_record e NoRecord (pad_to 63 no_layer []))

-- The 2015 reading knows every 2009 type.
pub known_later : (t : ℕ) → known Edition2009 t ≡ true → known Edition2015 t ≡ true
known_later t = go (known_types Edition2009) (drop 3 (known_types Edition2015))
  where
    by_first : (b : Bool) {early late : Bool} → (early ≡ true → late ≡ true) → b || early ≡ true → b || late ≡ true
    by_first true f p = refl
    by_first false f p = f p

    go : (l more : List ℕ) → member t l ≡ true → member t (l ++ more) ≡ true
    go [] more e = let z : ◌≡◌ {A = ℕ} 0 1 = cc in absurd (omega arith)
    go (x ∷ xs) more e = by_first (eqb t x) (go xs more) e

-- Both readings take the same fields from a hierarchy descriptor, but for its first bit.
pub same_hierarchy : (payload : List ℕ) → hierarchy_of Edition2009 payload ≡ view_unread (hierarchy_of Edition2015 payload)
same_hierarchy payload = refl
