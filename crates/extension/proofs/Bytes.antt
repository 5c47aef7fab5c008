-- The record at unknown bytes: each value of the syntax table as the code takes it from the bytes, by quotients and remainders; and an embedded layer.
-- Assumes nothing.
use Prim.Native.Nat.{ℕ, ◌+◌, ◌*◌, ◌/◌, ◌%◌}
use mathlib.Core.Path.{◌≡◌, sym, ap}
use mathlib.Core.List.{List, [], ◌∷◌}
use native.Mathlib.Omega.{arith}
use lib.Dec.{eqb}
use lib.ListN.{get_or}
use Rattle.syntax.specs.Table.{AreBytes, read_table}
use Rattle.syntax.specs.Named.{by_names}
use Rattle.syntax.proofs.Equations.{each}
use Rattle.extension.specs.Extension.{extension_head, extension_from, extension_of, layer_index_of}

pub layer_byte : (byte : ℕ) → record { 0 = byte % 64 } ≡ layer_index_of byte
layer_byte byte = ap (λ (n : ℕ). record { 0 = n }) (omega arith)

module _ (l : List ℕ) (b : AreBytes l) where
  pub extension_bytes :
      record {
        dimension_bits = get_or l 1 0 * 256 + get_or l 2 0;
        layer_index = record { 0 = get_or l 3 0 / 4 };
        temporal_id = record { 0 = get_or l 3 0 % 4 * 2 + get_or l 4 0 / 128 };
        nuh_layer_id = record { 0 = get_or l 4 0 / 2 % 64 };
        tref_present_flag = eqb (get_or l 4 0 % 2) 1;
        num_embedded_layers = get_or l 5 0 % 64;
        channel = record { 0 = get_or l 6 0 % 64 };
      }
      ≡ extension_of l
  extension_bytes =
      ap (λ (vs : List ℕ). extension_from (by_names extension_head vs))
      (sym
      (each
      {xs = read_table extension_head l}
      {ys = (get_or l 1 0 * 256 + get_or l 2 0)
      ∷ (get_or l 3 0 / 4)
      ∷ (get_or l 3 0 % 4 * 2 + get_or l 4 0 / 128)
      ∷ (get_or l 4 0 / 2 % 64)
      ∷ (get_or l 4 0 % 2)
      ∷ (get_or l 5 0 % 64)
      ∷ (get_or l 6 0 % 64)
      ∷ []}
      (omega (arith, b 0, b 1, b 2, b 3, b 4, b 5, b 6))))
