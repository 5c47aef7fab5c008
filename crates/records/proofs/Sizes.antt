-- How many bytes a record's descriptor takes, where its values are not too wide.
-- Assumes nothing.
use Prim.Native.Nat.{ℕ, ◌+◌, ◌≤◌}
use mathlib.Core.Path.{◌≡◌, refl, ◌∙◌}
use mathlib.Core.Bool.{false}
use mathlib.Core.List.{List, map}
use native.Mathlib.Omega.{arith}
use lib.ListN.{length, length-take}
use lib.Seq.{length-take-le}
use Rattle.combinators.specs.Lists.{any, gather}
use Rattle.syntax.specs.Filled.{bytes_in, too_wide_in}
use Rattle.vocabulary.specs.declared.LayerIndex.{LayerIndex}
use Rattle.records.specs.declared.Record.{Record}
use Rattle.records.specs.declared.Record.TheVariants.{NoRecord, Hierarchy, Extension, Implied}
use Rattle.extension.specs.Extension.{layer_table}
use Rattle.extension.proofs.Widths.{listed, count_small, length_layers}
use Rattle.records.specs.Records.{record_tables}

-- THE SIZES: a descriptor's head takes two bytes, a hierarchy descriptor four more, and an extension seven and one for each embedded layer.
abbrev pub record_size : Record → ℕ
record_size NoRecord = 0
record_size (Hierarchy h) = 6
record_size (Extension x) = 9 + x.num_embedded_layers
record_size Implied = 0

-- what stands in the array beyond the count does not count
pub record_size_lem : (r : Record) (layers : List LayerIndex) → length layers ≡ 63 → any too_wide_in (record_tables r layers) ≡ false
    → length (gather bytes_in (record_tables r layers)) ≡ record_size r
record_size_lem NoRecord layers room e = refl
record_size_lem (Hierarchy h) layers room e = refl
record_size_lem Implied layers room e = refl
record_size_lem (Extension x) layers room e =
    let counted : length (listed x layers e) ≡ x.num_embedded_layers =
    length-take-le x.num_embedded_layers layers (omega (arith, count_small x layers e)) in
    let size : length (gather bytes_in (map layer_table (listed x layers e))) ≡ x.num_embedded_layers = length_layers (listed x layers e) ∙ counted in
    omega arith

-- ES_info_length is at most 72, so that the upper two of its 12 bits are 0.
pub info_short : (r : Record) (layers : List LayerIndex) → any too_wide_in (record_tables r layers) ≡ false
    → length (gather bytes_in (record_tables r layers)) ≤ 72
info_short NoRecord layers e = omega arith
info_short (Hierarchy h) layers e = omega arith
info_short Implied layers e = omega arith
info_short (Extension x) layers e =
    omega (arith, count_small x layers e, length_layers (listed x layers e), length-take x.num_embedded_layers layers)
