-- The bytes of each table that is written, given values that fit it: by quotients and remainders, with the reserved bits 1. And the record that is
-- made of the values that are written of it: the same again.
-- Assumes nothing.
use Prim.Native.Nat.{◌+◌, ◌*◌, ◌/◌, ◌%◌}
use mathlib.Core.Path.{◌≡◌}
use mathlib.Core.List.{[], ◌∷◌}
use native.Mathlib.Omega.{arith}
use Rattle.syntax.specs.Table.{write_table, Fit}
use Rattle.syntax.specs.Named.{by_names}
use Rattle.syntax.specs.Filled.{values_in, bytes_in, bit_of}
use Rattle.syntax.proofs.Equations.{each, bounds}
use Rattle.vocabulary.specs.declared.LayerIndex.{LayerIndex}
use Rattle.descriptor_heads.proofs.Bits.{bit_back}
use Rattle.extension.specs.declared.ExtensionRecord.{ExtensionRecord}
use Rattle.extension.specs.Extension.{extension_head, embedded_layer, extension_from, extension_fields, layer_table}

pub extension_written : (x : ExtensionRecord) → Fit extension_head (extension_fields x)
    → 6
    ∷ (x.dimension_bits / 256)
    ∷ (x.dimension_bits % 256)
    ∷ (x.layer_index.0 * 4 + x.temporal_id.0 / 2)
    ∷ (x.temporal_id.0 % 2 * 128 + x.nuh_layer_id.0 * 2 + bit_of x.tref_present_flag)
    ∷ (192 + x.num_embedded_layers)
    ∷ (192 + x.channel.0)
    ∷ []
    ≡ write_table extension_head (extension_fields x)
extension_written x fit = let b = bounds fit in each (omega arith)

pub layer_written : (index : LayerIndex) → Fit embedded_layer (values_in (layer_table index)) → (192 + index.0) ∷ [] ≡ bytes_in (layer_table index)
layer_written index fit = let b = bounds fit in each (omega arith)

-- THE SAME AGAIN.
pub extension_fields_lem : (x : ExtensionRecord) → extension_from (by_names extension_head (extension_fields x)) ≡ x
extension_fields_lem x = rw (bit_back x.tref_present_flag)
