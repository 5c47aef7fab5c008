-- What the rule on two views without a hierarchy descriptor looks at of a row (document 02, W-201): its stream type, and whether its `record` is 1.
-- Assumes nothing.
use Prim.Native.Nat.{ℕ}
use mathlib.Core.Path.{◌≡◌, refl, ap}
use mathlib.Core.Bool.{Bool, true, false, cond}
use mathlib.Core.List.{List}
use lib.Dec.{eqb}
use lib.ListN.{get_or}
use Rattle.hierarchy.specs.declared.HierarchyRecord.{HierarchyRecord}
use Rattle.extension.specs.declared.ExtensionRecord.{ExtensionRecord}
use Rattle.records.specs.declared.Record.TheVariants.{NoRecord, Hierarchy, Extension, Implied}
use Rattle.implied.specs.Marking.{is_described}
use Rattle.loop_entries.specs.Entries.{shown_of}
use Rattle.loop_writer.specs.Verdict.{stream_for}
use Rattle.entry_rows.specs.Rows.{entry_in}

described : (one two three : Bool) (h : HierarchyRecord) (x : ExtensionRecord)
    → one ≡ is_described (cond one (Hierarchy h) (cond two (Extension x) (cond three Implied NoRecord)))
described true two three h x = refl
described false true three h x = refl
described false false true h x = refl
described false false false h x = refl

pub row_shown : (row : List ℕ) → record { type = get_or row 0 0; described = eqb (get_or row 2 0) 1 } ≡ shown_of (stream_for (entry_in row))
unfolding entry_in
row_shown row =
    ap (λ (b : Bool). record { type = get_or row 0 0; described = b }) (described (eqb (get_or row 2 0) 1) (eqb (get_or row 2 0) 2) (eqb (get_or row 2 0) 3) _ _)
