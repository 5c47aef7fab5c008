-- What the two layers name, in a loop that is accepted: refusals 6 and 9 leave a layer of type 0x1B and index 0 no layer to name, and one of type 0x20 and index 1
-- the layer 0 alone. So the first is a base, and the second rests on it.
-- Assumes nothing.
use Prim.Native.Nat.{ℕ, ◌<◌}
use mathlib.Core.Path.{◌≡◌, refl, sym, ◌∙◌, ap}
use mathlib.Core.Bool.{Bool, true, false, not, ◌||◌}
use mathlib.Core.List.{List, [], ◌∷◌}
use native.Mathlib.Omega.{arith}
use borrow.Author.Tests.{eqb-true, leb-false}
use lib.Dec.{leb}
use Rattle.combinators.specs.Bools.{apart, neither_left}
use Rattle.vocabulary.specs.StreamTypes.{may_stand_on}
use Rattle.vocabulary.specs.declared.LayerIndex.{LayerIndex}
use Rattle.records.specs.declared.Record.{Record}
use Rattle.records.specs.declared.Record.TheVariants.{NoRecord, Hierarchy, Extension, Implied}
use Rattle.records.specs.Records.{is_layer, is_base, index_of, named, plain}
use Rattle.judging.specs.Judging.{type_not_allowed, wrong_list, wrong_embedded}

-- a list of one index below its layer's own
one_below : (own index : ℕ) → wrong_list own (index ∷ []) ≡ false → index < own
one_below own index e = leb-false own index (neither_left (leb own index) false (sym shape ∙ e))
  where
    shape : wrong_list own (index ∷ []) ≡ (leb own index || false)
    shape = refl

module _ (given : Bool) (layers : List LayerIndex) where
  pub base_names : (r : Record) → is_layer r ≡ true → index_of 0x1B r ≡ 0 → type_not_allowed given 0x1B r ≡ false → wrong_embedded 0x1B r layers ≡ false
      → named 0x1B r layers ≡ []
  base_names NoRecord l i six nine = apart l
  base_names (Hierarchy h) l i six nine = go (is_base h) refl
    where
      go : (b : Bool) → is_base h ≡ b → named 0x1B (Hierarchy h) layers ≡ []
      go true p = rw p
      go false p =
          let list : named 0x1B (Hierarchy h) layers ≡ plain h.embedded_layer_index ∷ [] = rw p in
          let below = one_below h.layer_index.0 (plain h.embedded_layer_index) (sym (ap (wrong_list h.layer_index.0) list) ∙ nine) in
          absurd (omega arith)
  base_names (Extension x) l i six nine = apart (sym six)
  base_names Implied l i six nine = refl

  pub second_names : (r : Record) → is_layer r ≡ true → index_of 0x20 r ≡ 1 → type_not_allowed given 0x20 r ≡ false → wrong_embedded 0x20 r layers ≡ false
      → named 0x20 r layers ≡ 0 ∷ []
  second_names NoRecord l i six nine = apart l
  second_names (Hierarchy h) l i six nine = go (is_base h) refl
    where
      go : (b : Bool) → is_base h ≡ b → named 0x20 (Hierarchy h) layers ≡ 0 ∷ []
      go true p = apart (sym (sym (ap (λ (t : ℕ). not (may_stand_on t 0x20)) (eqb-true h.hierarchy_type 15 p)) ∙ six))
      go false p =
          let list : named 0x20 (Hierarchy h) layers ≡ plain h.embedded_layer_index ∷ [] = rw p in
          let below = one_below h.layer_index.0 (plain h.embedded_layer_index) (sym (ap (wrong_list h.layer_index.0) list) ∙ nine) in
          let zero_index : plain h.embedded_layer_index ≡ 0 = omega arith in
          list ∙ ap (λ (n : ℕ). n ∷ []) zero_index
  second_names (Extension x) l i six nine = apart (sym six)
  second_names Implied l i six nine = refl
