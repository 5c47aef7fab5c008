-- WHAT THE DESCRIPTORS OF A STREAM ARE, in the words of document 01: the bytes cut into descriptors, and of each whether it fits, is of a wrong
-- length, is a record, or is skipped. proofs/Meant.antt joins this to what is computed, both ways.
-- Assumes nothing.
use Rattle.std.specs.Prelude.{ℕ, ◌+◌, ◌≤◌, ◌<◌, ◌≡◌, ◌≢◌, List, [], ◌∷◌, length}
use Rattle.framing.specs.Pieces.{Item, whole, broken, Cuts}
use Rattle.vocabulary.specs.declared.stream_types.Reading.{Reading}
use Rattle.vocabulary.specs.declared.stream_types.Reading.TheVariants.{Edition2009, Edition2015}
use Rattle.descriptor_heads.specs.Head.{descriptor_tag, descriptor_length}
use Rattle.hierarchy.specs.Hierarchy.{hierarchy_of}
use Rattle.extension.specs.Extension.{extension_of, embedded_of}
use Rattle.descriptors.specs.Looking.{Kind, does_not_fit, skipped, wrong_length, hierarchy, extension}

module _ (reading : Reading) where
  -- One descriptor of a stream whose type the reading knows, by its head and its payload.
  pub data Shows : Item → Kind → Type 0 where
    unfit : Shows broken does_not_fit
    -- tag 4: the hierarchy descriptor, of length 4
    a_hierarchy : {head payload : List ℕ} → descriptor_tag head ≡ 4 → length payload ≡ 4 → Shows (whole head payload) (hierarchy (hierarchy_of reading payload))
    not_4_long : {head payload : List ℕ} → descriptor_tag head ≡ 4 → length payload ≢ 4 → Shows (whole head payload) wrong_length
    -- tag 63 with extension tag 0x06, in the 2015 reading: of length 7 plus the number of embedded layers that it counts
    an_extension : {head rest : List ℕ} → reading ≡ Edition2015 → descriptor_tag head ≡ 63
        → length (0x06 ∷ rest) ≡ 7 + (extension_of (0x06 ∷ rest)).num_embedded_layers
        → Shows (whole head (0x06 ∷ rest)) (extension (extension_of (0x06 ∷ rest)) (embedded_of (0x06 ∷ rest)))
    without_its_count : {head rest : List ℕ} → reading ≡ Edition2015 → descriptor_tag head ≡ 63 → length (0x06 ∷ rest) < 7
        → Shows (whole head (0x06 ∷ rest)) wrong_length
    not_as_counted : {head rest : List ℕ} → reading ≡ Edition2015 → descriptor_tag head ≡ 63 → 7 ≤ length (0x06 ∷ rest)
        → length (0x06 ∷ rest) ≢ 7 + (extension_of (0x06 ∷ rest)).num_embedded_layers → Shows (whole head (0x06 ∷ rest)) wrong_length
    -- tag 63 with another extension tag, or with no byte to hold one; in the 2009 reading every one
    other_extension : {head rest : List ℕ} {first : ℕ} → descriptor_tag head ≡ 63 → first ≢ 0x06 → Shows (whole head (first ∷ rest)) skipped
    no_extension_tag : {head : List ℕ} → descriptor_tag head ≡ 63 → Shows (whole head []) skipped
    extension_in_2009 : {head payload : List ℕ} → reading ≡ Edition2009 → descriptor_tag head ≡ 63 → Shows (whole head payload) skipped
    -- every other descriptor
    other_tag : {head payload : List ℕ} → descriptor_tag head ≢ 4 → descriptor_tag head ≢ 63 → Shows (whole head payload) skipped

  pub data ShowEach : List Item → List Kind → Type 0 where
    none : ShowEach [] []
    one_then : {item : Item} {kind : Kind} {items : List Item} {kinds : List Kind} → Shows item kind → ShowEach items kinds
        → ShowEach (item ∷ items) (kind ∷ kinds)

  -- the descriptors of these bytes, in order
  pub record Descriptors (info : List ℕ) (kinds : List Kind) : Type 0 where
    pub items : List Item
    pub cuts : Cuts 2 descriptor_length info items
    pub shown : ShowEach items kinds
