-- The worked examples of document 01 for targets, and a loop with a layer absent, each computed from the definition.
-- Assumes nothing.
use Rattle.std.specs.Prelude.{Err, Ok}
use mathlib.Core.List.{◌∷◌}
use mathlib.Core.Path.{◌≡◌, refl}
use lib.ListN.{replicate}
use Rattle.vocabulary.specs.declared.refusal.Refusal.TheVariants.{NoSuchLayer, EmbeddedLayerAbsent}
use Rattle.closure.specs.declared.Layers.{Layers}
use Rattle.closure.specs.Closures.{closure_of}

-- loop A in the 2015 reading: layers 0, 1 and 2; 1 and 2 each embed 0
abbrev loop_a : Layers
loop_a = record { present = 0b111; embedded = 0 ∷ 0b1 ∷ 0b1 ∷ replicate 61 0 }

-- Target 1: closure 0, 1. Target 2: closure 0, 2.
target_1 : closure_of loop_a 1 ≡ Ok 0b011
target_1 = refl

target_2 : closure_of loop_a 2 ≡ Ok 0b101
target_2 = refl

-- in the 2009 reading layer 2 is not known: 11
abbrev loop_a2009 : Layers
loop_a2009 = record { present = 0b011; embedded = 0 ∷ 0b1 ∷ replicate 62 0 }

target_2_in_2009 : closure_of loop_a2009 2 ≡ Err NoSuchLayer
target_2_in_2009 = refl

-- Empty loop: target 0 gives 11; and so does every target above 63.
abbrev empty : Layers
empty = record { present = 0; embedded = replicate 64 0 }

target_0_of_none : closure_of empty 0 ≡ Err NoSuchLayer
target_0_of_none = refl

target_64 : closure_of loop_a 64 ≡ Err NoSuchLayer
target_64 = refl

-- 5 embeds 4 and 2, 4 embeds 3 and 1, and of these only 5 and 4 are in the loop: 12, at the lowest missing index 1. Layer 0, that an absent layer
-- would name, does not count.
abbrev broken : Layers
broken = record { present = 0b110000; embedded = 0 ∷ 0b1 ∷ 0b1 ∷ 0b1 ∷ 0b1010 ∷ 0b10100 ∷ replicate 58 0 }

target_5_of_broken : closure_of broken 5 ≡ Err (EmbeddedLayerAbsent (record { 0 = 1 }))
target_5_of_broken = refl
