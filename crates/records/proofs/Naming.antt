-- The set of the layers that a record names, index by index.
-- Assumes nothing.
use Prim.Native.Nat.{ℕ, ◌+◌, ◌<◌, min}
use mathlib.Core.Path.{◌≡◌, refl, sym, ◌∙◌}
use mathlib.Core.List.{List, [], ◌∷◌, ◌++◌, map, map-append}
use native.Mathlib.Decide.{dec_lt}
use native.Mathlib.Numerals.{add-one}
use native.Mathlib.Omega.{arith}
use lib.ListN.{length, get_or, take}
use lib.Seq.{take-suc, take_all, take_at}
use Rattle.combinators.specs.Padding.{pad_to}
use Rattle.sets.specs.Sets.{added}
use Rattle.vocabulary.specs.declared.LayerIndex.{LayerIndex}
use Rattle.extension.specs.Extension.{no_layer}
use Rattle.records.specs.Records.{plain, with_indices}

-- one index more at the end
pub indices_last : (set n : ℕ) (l : List ℕ) → with_indices set (l ++ n ∷ []) ≡ added (with_indices set l) n
indices_last set n [] = refl
indices_last set n (x ∷ xs) = indices_last (added set x) n xs

-- the set of the indices passed, with the next
pub named_step : (embedded : List LayerIndex) (names i : ℕ) → i < length embedded → names ≡ with_indices 0 (map plain (take i embedded))
    → added names (plain (get_or embedded i no_layer)) ≡ with_indices 0 (map plain (take (i + 1) embedded))
named_step embedded names i h inv =
    let x : LayerIndex = get_or embedded i no_layer in
    rw (add-one i, take-suc embedded i no_layer h, map-append plain (take i embedded) (x ∷ []), indices_last 0 (plain x) (map plain (take i embedded)), inv)

-- an extension that counts more than the array has lists all of it
pub all_listed : (embedded : List LayerIndex) (num count : ℕ) → length embedded ≡ 63 → count ≡ min num 63 → take count embedded ≡ take num embedded
all_listed embedded num count room e = go (dec_lt num 63)
  where
    go : Dec (num < 63) → take count embedded ≡ take num embedded
    go (yes h) = let same : count ≡ num = omega arith in rw same
    go (no h) = take_all count embedded (omega arith) ∙ sym (take_all num embedded (omega arith))

-- as many of a padded list as there are, is the list
pub padded_list : (layers : List LayerIndex) (num : ℕ) → length layers ≡ num → take num (pad_to 63 no_layer layers) ≡ layers
padded_list layers num e = take_at layers _ num e
