-- The two readings of loop A of document 01, and of a loop whose base layer is HEVC: both kinds of answer that demand 3 tells apart, and both
-- numbers, 11 and 12, that the 2009 reading then gives.
-- Assumes nothing.
use Rattle.std.specs.Prelude.{ℕ, List, [], ◌∷◌, ◌++◌, ◌≡◌, refl, get_or, Err, Ok}
use Rattle.std.proofs.Common.{sym, true≢false, arith}
use Rattle.combinators.specs.Lists.{get_d_nth}
use Rattle.vocabulary.specs.declared.stream_types.Reading.TheVariants.{Edition2009, Edition2015}
use Rattle.vocabulary.specs.declared.refusal.Refusal.TheVariants.{NoSuchLayer, EmbeddedLayerAbsent}
use Rattle.loop_entries.specs.declared.Entry.{Entry}
use Rattle.loop_entries.specs.Entries.{blank_entry}
use Rattle.es_loop.specs.Examples.{loop_a}
use Rattle.closure.specs.declared.Layers.{Layers}
use Rattle.closure.specs.Meaning.{itself}
use Rattle.loop_layers.specs.Closures.{loop_closure}
use Rattle.agreement.specs.Meaning.{Accepts, StreamType2009, Every2009, Otherwise, another_type, Refuses2009}
use Rattle.agreement.specs.Entries.{entries_in}
use Rattle.agreement.proofs.Layers.{types_2009}
use Rattle.agreement.specs.Computed.{layers_in}
use Rattle.agreement.proofs.Computed.{every_2009}
use Rattle.agreement.proofs.Agreement.{accepts, agreement}

-- loop A as the 2015 reading accepts it
abbrev entries : List Entry
entries = entries_in Edition2015 loop_a

abbrev layers : Layers
layers = layers_in Edition2015 loop_a

loop_a_lem : Accepts Edition2015 loop_a entries layers
loop_a_lem = accepts Edition2015 loop_a refl

-- 'Target 1: closure 0, 1 in both readings': layers 0 and 1 are AVC and SVC.
target_1 : Every2009 entries layers 1
target_1 = every_2009 loop_a refl 1 0b011 refl

-- 'Target 2: closure 0, 2 in 2015; 11 in 2009': the stream of layer 2 has type 0x28.
no_2009_type : StreamType2009 0x28 → ⊥
no_2009_type s = true≢false (sym ((types_2009 0x28).1 s))

target_2 : Otherwise entries layers 2
target_2 =
    another_type
    (λ every. no_2009_type
    (every.has_type 2 2 (get_or entries 2 blank_entry) itself
    (record { entry = get_d_nth entries 2 blank_entry (omega arith); layer = refl; index = refl })))

target_2_refused : Refuses2009 loop_a 2
target_2_refused = (agreement loop_a_lem 2).otherwise target_2

target_2_gives_11 : loop_closure Edition2009 loop_a 2 ≡ Err NoSuchLayer
target_2_gives_11 = refl

-- A base layer of type 0x24 below an SVC layer: complete in 2015; in 2009 the embedded layer is absent.
abbrev hevc_base : List ℕ
hevc_base =
    (0x24 ∷ 0xE1 ∷ 0x00 ∷ 0xF0 ∷ 0x06 ∷ 0x04 ∷ 0x04 ∷ 0xFF ∷ 0xC0 ∷ 0xFF ∷ 0xC0 ∷ [])
    ++ (0x1F ∷ 0xE1 ∷ 0x01 ∷ 0xF0 ∷ 0x06 ∷ 0x04 ∷ 0x04 ∷ 0xD1 ∷ 0xC1 ∷ 0x40 ∷ 0xC1 ∷ [])

base_in_2015 : loop_closure Edition2015 hevc_base 1 ≡ Ok 0b011
base_in_2015 = refl

base_in_2009 : loop_closure Edition2009 hevc_base 1 ≡ Err (EmbeddedLayerAbsent (record { 0 = 0 }))
base_in_2009 = refl
