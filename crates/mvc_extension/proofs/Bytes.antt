-- The record at unknown bytes, and the bytes of values that fit: by quotients and remainders, as the code takes and makes them. And the record of the values
-- that are written of it: the same again.
-- Assumes nothing.
use Prim.Native.Nat.{ℕ, ◌+◌, ◌*◌, ◌/◌, ◌%◌}
use mathlib.Core.Path.{◌≡◌, sym, ap}
use mathlib.Core.List.{List, [], ◌∷◌}
use native.Mathlib.Omega.{arith}
use lib.Dec.{eqb}
use lib.ListN.{get_or}
use Rattle.syntax.specs.Table.{AreBytes, read_table, write_table, Fit}
use Rattle.syntax.specs.Named.{by_names}
use Rattle.syntax.specs.Filled.{bit_of}
use Rattle.syntax.proofs.Equations.{each, bounds}
use Rattle.descriptor_heads.proofs.Bits.{bit_back}
use Rattle.mvc_extension.specs.declared.MvcExtension.{MvcExtension}
use Rattle.mvc_extension.specs.MvcExtension.{mvc_extension_descriptor, mvc_extension_from, mvc_extension_of, mvc_extension_fields}

pub mvc_extension_bytes : (l : List ℕ) → AreBytes l
    → record {
      average_bit_rate = get_or l 0 0 * 256 + get_or l 1 0;
      maximum_bitrate = get_or l 2 0 * 256 + get_or l 3 0;
      view_order_index_min = get_or l 4 0 % 16 * 64 + get_or l 5 0 / 4;
      view_order_index_max = get_or l 5 0 % 4 * 256 + get_or l 6 0;
      temporal_id_start = get_or l 7 0 / 32;
      temporal_id_end = get_or l 7 0 / 4 % 8;
      no_sei_nal_unit_present = eqb (get_or l 7 0 / 2 % 2) 1;
      no_prefix_nal_unit_present = eqb (get_or l 7 0 % 2) 1;
    }
    ≡ mvc_extension_of l
mvc_extension_bytes l b =
    ap (λ (vs : List ℕ). mvc_extension_from (by_names mvc_extension_descriptor vs))
    (sym
    (each
    {xs = read_table mvc_extension_descriptor l}
    {ys = (get_or l 0 0 * 256 + get_or l 1 0)
    ∷ (get_or l 2 0 * 256 + get_or l 3 0)
    ∷ (get_or l 4 0 % 16 * 64 + get_or l 5 0 / 4)
    ∷ (get_or l 5 0 % 4 * 256 + get_or l 6 0)
    ∷ (get_or l 7 0 / 32)
    ∷ (get_or l 7 0 / 4 % 8)
    ∷ (get_or l 7 0 / 2 % 2)
    ∷ (get_or l 7 0 % 2)
    ∷ []}
    (omega (arith, b 0, b 1, b 2, b 3, b 4, b 5, b 6, b 7))))

pub mvc_extension_written : (x : MvcExtension) → Fit mvc_extension_descriptor (mvc_extension_fields x)
    → (x.average_bit_rate / 256)
    ∷ (x.average_bit_rate % 256)
    ∷ (x.maximum_bitrate / 256)
    ∷ (x.maximum_bitrate % 256)
    ∷ (240 + x.view_order_index_min / 64)
    ∷ (x.view_order_index_min % 64 * 4 + x.view_order_index_max / 256)
    ∷ (x.view_order_index_max % 256)
    ∷ (x.temporal_id_start * 32 + x.temporal_id_end * 4 + bit_of x.no_sei_nal_unit_present * 2 + bit_of x.no_prefix_nal_unit_present)
    ∷ []
    ≡ write_table mvc_extension_descriptor (mvc_extension_fields x)
mvc_extension_written x fit = let b = bounds fit in each (omega arith)

-- THE SAME AGAIN.
pub mvc_extension_fields_lem : (x : MvcExtension) → mvc_extension_from (by_names mvc_extension_descriptor (mvc_extension_fields x)) ≡ x
mvc_extension_fields_lem x = rw (bit_back x.no_sei_nal_unit_present, bit_back x.no_prefix_nal_unit_present)
