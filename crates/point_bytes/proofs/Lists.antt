-- The two lists of a point: their bytes, and the point in two halves.
-- Assumes nothing.
use Prim.Native.Nat.{ℕ, zero, suc, ◌+◌, ◌*◌, ◌/◌, ◌%◌, ◌^◌, ◌<◌}
use mathlib.Core.Path.{◌≡◌, refl, sym, ap, ap₂, ◌∙◌}
use mathlib.Core.List.{List, [], ◌∷◌, ◌++◌, map, append-nil}
use native.Mathlib.Omega.{arith}
use lib.ListN.{get_or}
use Rattle.combinators.specs.Lists.{gather, gather_map, gather_append}
use Rattle.syntax.specs.Table.{AreBytes, write_table}
use Rattle.syntax.specs.Named.{write_by}
use Rattle.syntax.proofs.Laws.{write_read}
use Rattle.syntax.proofs.Equations.{each}
use Rattle.operation_points.specs.Tables.{point_head, reference, flags_count, flags}
use Rattle.point_fields.specs.WrittenParts.{part_bytes}
use Rattle.point_fields.specs.Fields.{given_in, item_in, lists_in, reference_bytes, list_parts, rate_parts, list_bytes, rate_bytes, point_bytes}

pub reference_written : (byte : ℕ) → byte < 256 → (128 + byte % 128) ∷ [] ≡ write_by reference (item_in reference byte)
reference_written byte h = ap (λ (n : ℕ). n ∷ []) seven ∙ two (byte / 64 % 2) (byte % 64) (omega arith) (omega arith) ∙ ap₂ (λ (a b : ℕ). write_table reference (a ∷ b ∷ [])) first second
  where
    seven : 128 + byte % 128 ≡ 128 + byte / 64 % 2 * 64 + byte % 64
    seven = omega arith

    two : (a b : ℕ) → a < 2 → b < 64 → (128 + a * 64 + b) ∷ [] ≡ write_table reference (a ∷ b ∷ [])
    two a b h k = each (omega arith)

    first : byte / 64 % 2 ≡ (byte * 256 ^ 0 + 0) / 2 ^ 6 % 2 ^ 1
    first = omega arith

    second : byte % 64 ≡ (byte * 256 ^ 0 + 0) / 2 ^ 0 % 2 ^ 6
    second = omega arith

pub flags_written : (byte : ℕ) → byte < 256 → write_by flags (item_in flags byte) ≡ byte ∷ []
flags_written byte h = write_read {t = flags} (record { whole = refl; fixed_fit = refl }) (byte ∷ []) small (omega arith) refl refl
  where
    small : AreBytes (byte ∷ [])
    small zero = h
    small (suc i) = omega arith

-- a list of bytes, each written as its item is
pub layers_written : (layers : List ℕ) → AreBytes layers → gather (write_by flags) (map (item_in flags) layers) ≡ layers
layers_written [] b = refl
layers_written (x ∷ xs) b = ap₂ (λ (a r : List ℕ). a ++ r) (flags_written x (b 0)) (layers_written xs (λ i. b (suc i)))

pub lists_in_lem : (row references layers : List ℕ) → AreBytes layers
    → write_table point_head (get_or row 0 0 ∷ get_or row 1 0 ∷ []) ++ (gather reference_bytes references ++ (write_table flags_count (get_or row 2 0 ∷ []) ++ layers))
    ≡ list_bytes row references layers
unfolding list_bytes
lists_in_lem row references layers b =
    ap₂ (λ (l m : List ℕ). write_table point_head (get_or row 0 0 ∷ get_or row 1 0 ∷ []) ++ (l ++ (write_table flags_count (get_or row 2 0 ∷ []) ++ m)))
    (sym (gather_map (write_by reference) (item_in reference) references))
    (sym (layers_written layers b) ∙ sym (append-nil (gather (write_by flags) (map (item_in flags) layers))))

pub two_halves : (row references layers : List ℕ) → list_bytes row references layers ++ rate_bytes row ≡ point_bytes row references layers
unfolding list_bytes rate_bytes point_bytes
two_halves row references layers = sym (gather_append (part_bytes (given_in row) (lists_in references layers)) list_parts rate_parts)
