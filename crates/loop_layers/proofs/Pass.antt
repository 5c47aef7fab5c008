-- The pass over an array of entries: what the table so far, continued over the entries that are left, comes to.
-- Assumes nothing.
use Prim.Native.Nat.{ℕ, ◌+◌, ◌<◌, min}
use mathlib.Core.Path.{◌≡◌, sym, ◌∙◌, ap}
use mathlib.Core.List.{List, ◌∷◌}
use native.Mathlib.Decide.{dec_lt}
use native.Mathlib.Numerals.{add-one}
use native.Mathlib.Omega.{arith}
use lib.ListN.{length, get_or, take, drop}
use lib.Seq.{take_all, drop-cons}
use Rattle.loop_entries.specs.declared.Entry.{Entry}
use Rattle.loop_layers.specs.declared.table.LayerTable.{LayerTable}
use Rattle.loop_layers.specs.Layers.{table_of, with_entry}
use Rattle.loop_layers.proofs.Walked.{table_with, table_next}

-- A turn, at the entry of place i.
pub pass_next : (counting : List Entry) (i : ℕ) → i < length counting → (blank : Entry) (table after : LayerTable)
    → table_with table (drop i counting) ≡ table_of counting → after ≡ with_entry table (get_or counting i blank)
    → table_with after (drop (i + 1) counting) ≡ table_of counting
pass_next counting i more blank table after inv is_after =
    let here : drop i counting ≡ get_or counting i blank ∷ drop (i + 1) counting = drop-cons counting i blank more ∙ rw (add-one i) in
    table_next table after (get_or counting i blank) (drop (i + 1) counting) counting (sym (ap (table_with table) here) ∙ inv) is_after

-- The pass ends after the entries that count, or after the last.
pub counted : (entries : List Entry) (count end : ℕ) → length entries ≡ 201 → end ≡ min count 201 → take end entries ≡ take count entries
counted entries count end room e = go (dec_lt count 201)
  where
    go : Dec (count < 201) → take end entries ≡ take count entries
    go (yes h) = let same : end ≡ count = omega arith in rw same
    go (no h) = take_all end entries (omega arith) ∙ sym (take_all count entries (omega arith))
