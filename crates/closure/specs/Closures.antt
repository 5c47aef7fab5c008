-- Closures, as document 01 has them: 'The closure of a layer is the layer, its embedded layers, theirs, and so on.'
-- Assumes nothing.
use Rattle.std.specs.Prelude.{ℕ, zero, suc, Bool, true, false, not, cond, ◌&&◌, ltb, get_or, Err, Ok}
use Rattle.combinators.specs.Below.{some, seek}
use Rattle.sets.specs.Sets.{has, joined, only, below}
use Rattle.vocabulary.specs.declared.refusal.Refusal.TheVariants.{NoSuchLayer, EmbeddedLayerAbsent}
use Rattle.closure.specs.declared.Layers.{Layers}
use Rattle.closure.specs.Answer.{Closure}

-- whether the loop has a layer of index i; indices have six bits, so a number above 63 is no layer's
abbrev pub is_layer : Layers → ℕ → Bool
is_layer layers i = ltb i 64 && has layers.present i

-- The set of the indices that a layer names: those of its embedded indices that are below its own. (In an accepted loop all of them are,
-- by refusal 9, so that nothing is lost; asking for it here gives every value of `Layers` one answer.) Where the loop has no such layer,
-- what it would name is unknown and adds nothing.
abbrev pub named_by : Bool → ℕ → ℕ → ℕ
named_by is_layer embedded i = cond is_layer (below embedded i) 0

abbrev pub named : Layers → ℕ → ℕ
named layers i = named_by (is_layer layers i) (get_or layers.embedded i 0) i

-- a set, and with it what layer i names, if i is a member
abbrev pub following : Layers → ℕ → ℕ → ℕ
following layers set i = cond (has set i) (joined set (named layers i)) set

-- a set, with the layers below n followed from the highest down. A layer names lower ones only, so each is followed after all that name it.
abbrev pub followed_below : Layers → ℕ → ℕ → ℕ
followed_below layers zero set = set
followed_below layers (suc i) set = followed_below layers i (following layers set i)

-- what a target rests on, itself included
abbrev pub rested_on : Layers → ℕ → ℕ
rested_on layers target = followed_below layers (suc target) (only target)

-- whether i is a member of the set, and the loop has no such layer
abbrev pub lacks : Layers → ℕ → ℕ → Bool
lacks layers set i = has set i && not (is_layer layers i)

-- The answer, given whether the target is a layer of the loop, and what it rests on: 11 where there is no layer with the target index; 12,
-- at the lowest missing index, where a layer in the closure is not in the loop; else the closure.
abbrev pub answer_for : Layers → Bool → ℕ → Closure
answer_for layers false set = Err NoSuchLayer
answer_for layers true set =
    cond (some (lacks layers set) 64) (Err (EmbeddedLayerAbsent (record { 0 = seek (lacks layers set) 64 }))) (Ok set)

abbrev pub closure_of : Layers → ℕ → Closure
closure_of layers target = answer_for layers (is_layer layers target) (rested_on layers target)
