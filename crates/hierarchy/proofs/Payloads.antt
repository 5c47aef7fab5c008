-- The bytes of the table that is written, given values that fit it: by quotients and remainders, with the reserved bits 1. And the record that is
-- made of the values that are written of it: the same again.
-- Assumes nothing.
use Prim.Native.Nat.{◌+◌, ◌*◌}
use mathlib.Core.Path.{◌≡◌}
use mathlib.Core.List.{[], ◌∷◌}
use native.Mathlib.Omega.{arith}
use Rattle.syntax.specs.Table.{write_table, Fit}
use Rattle.syntax.specs.Named.{by_names}
use Rattle.syntax.specs.Filled.{bit_of}
use Rattle.syntax.proofs.Equations.{each, bounds}
use Rattle.vocabulary.specs.declared.stream_types.Reading.TheVariants.{Edition2015}
use Rattle.descriptor_heads.proofs.Bits.{bit_back}
use Rattle.hierarchy.specs.declared.HierarchyRecord.{HierarchyRecord}
use Rattle.hierarchy.specs.Hierarchy.{hierarchy_descriptor, hierarchy_from, hierarchy_fields}

pub hierarchy_written : (h : HierarchyRecord) → Fit (hierarchy_descriptor Edition2015) (hierarchy_fields h)
    → (bit_of h.no_view * 128 + bit_of h.no_temporal * 64 + bit_of h.no_spatial * 32 + bit_of h.no_quality * 16 + h.hierarchy_type)
    ∷ (192 + h.layer_index.0)
    ∷ (bit_of h.tref_present_flag * 128 + 64 + h.embedded_layer_index.0)
    ∷ (192 + h.channel.0)
    ∷ []
    ≡ write_table (hierarchy_descriptor Edition2015) (hierarchy_fields h)
hierarchy_written h fit = let b = bounds fit in each (omega arith)

-- THE SAME AGAIN.
pub hierarchy_fields_lem : (h : HierarchyRecord) → hierarchy_from (by_names (hierarchy_descriptor Edition2015) (hierarchy_fields h)) ≡ h
hierarchy_fields_lem h =
    rw (bit_back h.no_view, bit_back h.no_temporal, bit_back h.no_spatial, bit_back h.no_quality, bit_back h.tref_present_flag)
