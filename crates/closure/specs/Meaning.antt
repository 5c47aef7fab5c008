-- What is right, in the words of document 01, with no word of how it is found.
-- proofs/Meant.antt has the laws that join this to what is computed: the computed answer has this meaning, and no other answer has it.
-- Assumes nothing.
use Rattle.std.specs.Prelude.{ℕ, ◌<◌, ◌≤◌, true, false, ◌↔◌, ◌≡◌, get_or, Err, Ok}
use Rattle.sets.specs.Sets.{has}
use Rattle.vocabulary.specs.declared.LayerIndex.{LayerIndex}
use Rattle.vocabulary.specs.declared.refusal.Refusal.TheVariants.{NoSuchLayer, EmbeddedLayerAbsent}
use Rattle.closure.specs.declared.Layers.{Layers}
use Rattle.closure.specs.Answer.{Closure}
use Rattle.closure.specs.Closures.{is_layer}

-- Layer i names j: the loop has a layer i, and j is one of its embedded indices, below its own. (In an accepted loop every embedded index
-- is below its layer's own, by refusal 9, so that this loses nothing: `below_its_own` of proofs/Meant.antt.)
pub record Names (layers : Layers) (i j : ℕ) : Type 0 where
  pub in_loop : is_layer layers i ≡ true
  pub embedded : has (get_or layers.embedded i 0) j ≡ true
  pub lower : j < i

-- 'The closure of a layer is the layer, its embedded layers, theirs, and so on': a target rests on itself, and on whatever is named by
-- a layer that it rests on.
pub data RestsOn (layers : Layers) (target : ℕ) : ℕ → Type 0 where
  itself : RestsOn layers target target
  by : {i j : ℕ} → RestsOn layers target i → Names layers i j → RestsOn layers target j

-- 'a layer in the closure is not in the loop', and 'lowest missing index'
pub record Missing (layers : Layers) (target j : ℕ) : Type 0 where
  pub rested_on : RestsOn layers target j
  pub not_in_loop : is_layer layers j ≡ false

pub record LowestMissing (layers : Layers) (target i : ℕ) : Type 0 where
  pub missing : Missing layers target i
  pub lowest : (j : ℕ) → Missing layers target j → i ≤ j

-- The closure as a set: its members are exactly the indices that the target rests on, and each of them is a layer of the loop.
pub record WholeClosure (layers : Layers) (target set : ℕ) : Type 0 where
  pub members : (j : ℕ) → (has set j ≡ true) ↔ RestsOn layers target j
  pub in_loop : (j : ℕ) → RestsOn layers target j → is_layer layers j ≡ true

-- THE ANSWER to a target: 11 'no layer with the target index'; 12 'a layer in the closure is not in the loop', with the lowest missing
-- index as its place; else the closure.
pub data Answers (layers : Layers) (target : ℕ) : Closure → Type 0 where
  no_such_layer : is_layer layers target ≡ false → Answers layers target (Err NoSuchLayer)
  absent : {index : LayerIndex} → is_layer layers target ≡ true → LowestMissing layers target index.0
      → Answers layers target (Err (EmbeddedLayerAbsent index))
  complete : {set : ℕ} → is_layer layers target ≡ true → WholeClosure layers target set → Answers layers target (Ok set)
