-- The bytes computed for entries are those that are meant, and no others are.
-- Assumes nothing.
use Prim.Native.Nat.{ℕ}
use mathlib.Core.Path.{◌≡◌, refl, ◌∙◌, ap, ap₂, subst}
use mathlib.Core.Bool.{false}
use mathlib.Core.List.{List, [], ◌∷◌, ◌++◌, map}
use lib.ListN.{length, take}
use Rattle.combinators.specs.Bools.{neither_left, neither_right}
use Rattle.combinators.specs.Lists.{any, gather}
use Rattle.syntax.specs.Filled.{Filled, bytes_in, too_wide_in, Writes}
use Rattle.syntax.proofs.NamedLaws.{written_by_meant, written_by_only}
use Rattle.syntax.proofs.FilledLaws.{AllProper, none, one_then, NoneTooWide, none as all_fit, one_then as fit_then, bytes_of_all, writes_meant, writes_only}
use Rattle.vocabulary.specs.declared.LayerIndex.{LayerIndex}
use Rattle.records.specs.declared.Record.{Record}
use Rattle.records.specs.declared.Record.TheVariants.{NoRecord, Hierarchy, Extension, Implied}
use Rattle.extension.specs.Extension.{layer_table}
use Rattle.records.specs.Records.{record_tables}
use Rattle.loop_entries.specs.declared.Entry.{Entry}
use Rattle.loop_writer.specs.Layout.{entry_head_table, info_bytes, entry_bytes, loop_bytes, too_wide}
use Rattle.loop_writer.specs.Meaning.{WritesEntry, head_then, WritesEntries, nothing, entry_then}
use Rattle.loop_writer.proofs.Entries.{head_fit, record_fit}

-- every table that an entry is made of can be written
layers_proper : (layers : List LayerIndex) → AllProper (map layer_table layers)
layers_proper [] = none
layers_proper (index ∷ layers) = one_then (record { sound = record { whole = refl; fixed_fit = refl }; lines = refl }) (layers_proper layers)

record_proper : (r : Record) (layers : List LayerIndex) → AllProper (record_tables r layers)
record_proper NoRecord layers = none
record_proper (Hierarchy h) layers =
    one_then (record { sound = record { whole = refl; fixed_fit = refl }; lines = refl })
    (one_then (record { sound = record { whole = refl; fixed_fit = refl }; lines = refl }) none)
record_proper (Extension x) layers =
    one_then (record { sound = record { whole = refl; fixed_fit = refl }; lines = refl })
    (one_then (record { sound = record { whole = refl; fixed_fit = refl }; lines = refl }) (layers_proper (take x.num_embedded_layers layers)))
record_proper Implied layers = none

all_bytes : (fs : List Filled) → bytes_of_all fs ≡ gather bytes_in fs
all_bytes [] = refl
all_bytes (f ∷ fs) = ap (λ (l : List ℕ). bytes_in f ++ l) (all_bytes fs)

none_wide : (fs : List Filled) → any too_wide_in fs ≡ false → NoneTooWide fs
none_wide [] e = all_fit
none_wide (f ∷ fs) e = fit_then (neither_left (too_wide_in f) (any too_wide_in fs) e) (none_wide fs (neither_right (too_wide_in f) (any too_wide_in fs) e))

module _ (e : Entry) where
  abbrev tables : List Filled
  tables = record_tables e.«record» e.embedded

  entry_meant : too_wide e ≡ false → WritesEntry e (entry_bytes e)
  entry_meant fine =
      head_then {info = info_bytes e} (written_by_meant (record { whole = refl; fixed_fit = refl }) refl (head_fit e fine))
      (subst (Writes tables) (all_bytes tables) (writes_meant (record_proper e.«record» e.embedded) (none_wide tables (record_fit e fine))))

  entry_only : {l : List ℕ} → WritesEntry e l → l ≡ entry_bytes e
  entry_only (head_then {head} {info} w ws) =
      let same : info ≡ info_bytes e = writes_only (record_proper e.«record» e.embedded) ws ∙ all_bytes tables in
      ap₂ (λ (a b : List ℕ). a ++ b)
      (written_by_only (record { whole = refl; fixed_fit = refl }) w
      ∙ ap (λ (n : ℕ). bytes_in (entry_head_table e.stream_type e.pid n)) (ap length same))
      same

pub bytes_meant : (es : List Entry) → any too_wide es ≡ false → WritesEntries es (loop_bytes es)
bytes_meant [] fine = nothing
bytes_meant (e ∷ es) fine =
    entry_then (entry_meant e (neither_left (too_wide e) (any too_wide es) fine)) (bytes_meant es (neither_right (too_wide e) (any too_wide es) fine))

pub bytes_only : {es : List Entry} {l : List ℕ} → WritesEntries es l → l ≡ loop_bytes es
bytes_only nothing = refl
bytes_only (entry_then {e} w ws) = ap₂ (λ (a b : List ℕ). a ++ b) (entry_only e w) (bytes_only ws)
