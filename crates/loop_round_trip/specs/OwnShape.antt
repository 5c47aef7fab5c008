-- THE WRITER'S OWN SHAPE of a loop: reserved bits 1 and no other descriptor. What stands in a loop of that shape, piece by piece.
-- Assumes nothing.
use Rattle.std.specs.Prelude.{ℕ, ◌≤◌, ◌≡◌, true, List, [], ◌∷◌, length, drop}
use Rattle.combinators.specs.Lists.{Nth}
use Rattle.framing.specs.Pieces.{Item, whole, cut}
use Rattle.syntax.specs.Table.{Table, number, bytes, fixed_hold, reserved_ones}
use Rattle.vocabulary.specs.declared.stream_types.Reading.TheVariants.{Edition2015}
use Rattle.vocabulary.specs.StreamTypes.{known}
use Rattle.hierarchy.specs.Hierarchy.{hierarchy_descriptor}
use Rattle.extension.specs.Extension.{extension_head, embedded_layer}
use Rattle.descriptor_heads.specs.Head.{descriptor_tag, descriptor_length}
use Rattle.loop_entries.specs.Entries.{entry_head, stream_type, es_info_length}

-- the reserved bits of a table at the front of some bytes are 1
abbrev pub Ones : Table → List ℕ → Type 0
Ones table l = reserved_ones table (number (bytes table) l) ≡ true

-- those of each byte of an extension's list
pub data ListOnes : List ℕ → Type 0 where
  no_more : ListOnes []
  one_more : {byte : ℕ} {list : List ℕ} → Ones embedded_layer (byte ∷ []) → ListOnes list → ListOnes (byte ∷ list)

-- a descriptor that the writer writes: the hierarchy descriptor, or the extension with its extension tag and its list
pub data OwnDescriptor : Item → Type 0 where
  hierarchy_own : {head payload : List ℕ} → descriptor_tag head ≡ 4 → length payload ≡ 4 → Ones (hierarchy_descriptor Edition2015) payload
      → OwnDescriptor (whole head payload)
  extension_own : {head payload : List ℕ} → descriptor_tag head ≡ 63 → 7 ≤ length payload → fixed_hold extension_head (number 7 payload) ≡ true
      → Ones extension_head payload → ListOnes (drop 7 payload) → OwnDescriptor (whole head payload)

-- an entry that the writer writes: on a known stream type it has no other descriptor, on another type it has none
pub data OwnEntry : Item → Type 0 where
  known_own : {head info : List ℕ} → Ones entry_head head → known Edition2015 (stream_type head) ≡ true
      → ((k : ℕ) (d : Item) → Nth (cut 2 descriptor_length info) k d → OwnDescriptor d) → OwnEntry (whole head info)
  bare_own : {head : List ℕ} → Ones entry_head head → OwnEntry (whole head [])

-- a loop in the writer's own shape
abbrev pub OwnShape : List ℕ → Type 0
OwnShape loop = (k : ℕ) (entry : Item) → Nth (cut 5 es_info_length loop) k entry → OwnEntry entry
