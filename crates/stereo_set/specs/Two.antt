-- THE TWO LAYERS of a stereo set among the entries of a loop, in the words of W-211: 'exactly two layers in the 2015 reading, one 0x1B base of index 0 and one 0x20 of
-- index 1 resting on it'. Reading has them among the entries that it answers, writing among those that it is given.
-- Assumes nothing.
use Rattle.std.specs.Prelude.{ℕ, ◌≡◌, ◌⊎◌, true, List, [], ◌∷◌}
use Rattle.combinators.specs.Lists.{Nth}
use Rattle.records.specs.Records.{is_layer, named}
use Rattle.loop_entries.specs.declared.Entry.{Entry}
use Rattle.stereo_set.specs.Views.{index_in}

module _ (entries : List Entry) where
  -- an entry that is a layer
  pub record LayerAt (k : ℕ) (e : Entry) : Type 0 where
    pub entry : Nth entries k e
    pub layer : is_layer e.«record» ≡ true

  -- a layer of a type and an index that names these layers
  pub record LayerOf (k t index : ℕ) (names : List ℕ) (e : Entry) : Type 0 where
    pub stands : LayerAt k e
    pub type : e.stream_type ≡ t
    pub indexed : index_in e ≡ index
    pub rests_on : named e.stream_type e.«record» e.embedded ≡ names

  -- a base names no layer, and the other names the base alone
  pub record TwoLayers (base second : Entry) : Type 0 where
    pub base_place : ℕ
    pub second_place : ℕ
    pub is_base : LayerOf base_place 0x1B 0 [] base
    pub is_second : LayerOf second_place 0x20 1 (0 ∷ []) second
    pub no_other : (k : ℕ) (e : Entry) → LayerAt k e → (k ≡ base_place) ⊎ (k ≡ second_place)
