-- The record at unknown bytes: each value of the syntax table as the code takes it from the bytes, by quotients and remainders.
-- Assumes nothing.
use Prim.Native.Nat.{ℕ, ◌/◌, ◌%◌}
use mathlib.Core.Path.{◌≡◌, sym, ap}
use mathlib.Core.List.{List, [], ◌∷◌}
use native.Mathlib.Omega.{arith}
use lib.Dec.{eqb}
use lib.ListN.{get_or}
use Rattle.syntax.specs.Table.{AreBytes, read_table}
use Rattle.syntax.specs.Named.{by_names}
use Rattle.syntax.proofs.Equations.{each}
use Rattle.vocabulary.specs.declared.stream_types.Reading.{Reading}
use Rattle.vocabulary.specs.declared.stream_types.Reading.TheVariants.{Edition2009, Edition2015}
use Rattle.hierarchy.specs.Hierarchy.{hierarchy_descriptor, hierarchy_from, hierarchy_of, first_bit}

module _ (l : List ℕ) (b : AreBytes l) where
  abbrev after_first : List ℕ
  after_first =
      (get_or l 0 0 / 64 % 2)
      ∷ (get_or l 0 0 / 32 % 2)
      ∷ (get_or l 0 0 / 16 % 2)
      ∷ (get_or l 0 0 % 16)
      ∷ (get_or l 1 0 % 64)
      ∷ (get_or l 2 0 / 128)
      ∷ (get_or l 2 0 % 64)
      ∷ (get_or l 3 0 % 64)
      ∷ []

  pub hierarchy_bytes : (reading : Reading)
      → record {
        no_view = first_bit reading (get_or l 0 0);
        no_temporal = eqb (get_or l 0 0 / 64 % 2) 1;
        no_spatial = eqb (get_or l 0 0 / 32 % 2) 1;
        no_quality = eqb (get_or l 0 0 / 16 % 2) 1;
        hierarchy_type = get_or l 0 0 % 16;
        layer_index = record { 0 = get_or l 1 0 % 64 };
        tref_present_flag = eqb (get_or l 2 0 / 128) 1;
        embedded_layer_index = record { 0 = get_or l 2 0 % 64 };
        channel = record { 0 = get_or l 3 0 % 64 };
      }
      ≡ hierarchy_of reading l
  hierarchy_bytes Edition2009 =
      ap (λ (vs : List ℕ). hierarchy_from (("no_view_scalability_flag", 1) ∷ by_names (hierarchy_descriptor Edition2009) vs)) (sym (each {xs = read_table (hierarchy_descriptor Edition2009) l} {ys = after_first} (omega (arith, b 0, b 1, b 2, b 3))))
  hierarchy_bytes Edition2015 =
      ap (λ (vs : List ℕ). hierarchy_from (by_names (hierarchy_descriptor Edition2015) vs)) (sym (each {xs = read_table (hierarchy_descriptor Edition2015) l} {ys = (get_or l 0 0 / 128) ∷ after_first} (omega (arith, b 0, b 1, b 2, b 3))))
