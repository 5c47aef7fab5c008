-- Document 01's starred examples of loops and targets, computed from the bytes; and two views without a hierarchy descriptor (document 02, W-201).
-- Assumes nothing.
use Rattle.std.specs.Prelude.{ℕ, List, [], ◌∷◌, ◌++◌, ◌≡◌, refl, Err, Ok}
use Rattle.vocabulary.specs.declared.stream_types.Reading.TheVariants.{Edition2009, Edition2015}
use Rattle.vocabulary.specs.declared.refusal.Refusal.TheVariants.{DoesNotFit, NoSuchLayer}
use Rattle.es_loop.specs.Examples.{loop_a}
use Rattle.loop_layers.specs.Closures.{loop_closure}

-- Target 1: closure 0, 1 in both readings.
target_1_in_2009 : loop_closure Edition2009 loop_a 1 ≡ Ok 0b011
target_1_in_2009 = refl

target_1_in_2015 : loop_closure Edition2015 loop_a 1 ≡ Ok 0b011
target_1_in_2015 = refl

-- Target 2: closure 0, 2 in 2015; 11 in 2009.
target_2_in_2015 : loop_closure Edition2015 loop_a 2 ≡ Ok 0b101
target_2_in_2015 = refl

target_2_in_2009 : loop_closure Edition2009 loop_a 2 ≡ Err NoSuchLayer
target_2_in_2009 = refl

-- Empty loop: accepted, target 0 gives 11.
empty_loop : loop_closure Edition2015 [] 0 ≡ Err NoSuchLayer
empty_loop = refl

-- 4 bytes: 2 at entry 0.
four_bytes : loop_closure Edition2015 (0x1B ∷ 0xE1 ∷ 0x00 ∷ 0xF0 ∷ []) 0 ≡ Err (DoesNotFit 0)
four_bytes = refl

-- TWO VIEWS: a 0x1B with PID 256 and a 0x20 with PID 257, without a descriptor. The 0x20 is layer 1 and rests on the 0x1B, which is layer 0.
abbrev pub first_view : List ℕ
first_view = 0x1B ∷ 0xE1 ∷ 0x00 ∷ 0xF0 ∷ 0x00 ∷ []

abbrev pub second_view : List ℕ
second_view = 0x20 ∷ 0xE1 ∷ 0x01 ∷ 0xF0 ∷ 0x00 ∷ []

abbrev pub two_views : List ℕ
two_views = first_view ++ second_view

second_view_in_2009 : loop_closure Edition2009 two_views 1 ≡ Ok 0b011
second_view_in_2009 = refl

second_view_in_2015 : loop_closure Edition2015 two_views 1 ≡ Ok 0b011
second_view_in_2015 = refl

first_view_lem : loop_closure Edition2015 two_views 0 ≡ Ok 0b001
first_view_lem = refl

-- in the other order the same
views_exchanged : loop_closure Edition2015 (second_view ++ first_view) 1 ≡ Ok 0b011
views_exchanged = refl

-- a 0x1F with a hierarchy descriptor, layer 2, which embeds layer 1: it rests on both views
abbrev third_layer : List ℕ
third_layer = 0x1F ∷ 0xE1 ∷ 0x02 ∷ 0xF0 ∷ 0x06 ∷ 0x04 ∷ 0x04 ∷ 0xD1 ∷ 0xC2 ∷ 0x41 ∷ 0xC3 ∷ []

on_two_views_in_2009 : loop_closure Edition2009 (two_views ++ third_layer) 2 ≡ Ok 0b111
on_two_views_in_2009 = refl

on_two_views_in_2015 : loop_closure Edition2015 (two_views ++ third_layer) 2 ≡ Ok 0b111
on_two_views_in_2015 = refl

-- of one view alone nothing is implied: there is no layer
one_view : loop_closure Edition2015 first_view 0 ≡ Err NoSuchLayer
one_view = refl
