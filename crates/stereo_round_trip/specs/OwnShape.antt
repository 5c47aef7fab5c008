-- THE WRITER'S OWN SHAPE of a loop that holds a stereo set: each entry in the loop writer's own shape, and behind the descriptor of each layer, if any, an MVC extension descriptor
-- of length 8 whose reserved bits are 1.
-- Assumes nothing.
use Rattle.std.specs.Prelude.{ℕ, ◌≡◌, Bool, true, false, List, ◌++◌, length, get_or}
use Rattle.combinators.specs.Lists.{Nth}
use Rattle.framing.specs.Pieces.{Item, whole, cut}
use Rattle.vocabulary.specs.declared.stream_types.Reading.TheVariants.{Edition2015}
use Rattle.vocabulary.specs.StreamTypes.{known}
use Rattle.descriptor_heads.specs.Head.{descriptor_tag, descriptor_length}
use Rattle.records.specs.Records.{is_layer}
use Rattle.loop_entries.specs.Entries.{entry_head, stream_type, es_info_length, blank_entry}
use Rattle.loop_round_trip.specs.OwnShape.{Ones, OwnDescriptor, OwnEntry}
use Rattle.mvc_extension.specs.MvcExtension.{mvc_extension_descriptor}
use Rattle.stereo_set.specs.Meaning.{answered}

-- the descriptors of a layer: those that the loop writer writes, then tag 49
pub data OwnInfo : List ℕ → Type 0 where
  then_extension : (plain tagged payload : List ℕ) → ((k : ℕ) (d : Item) → Nth (cut 2 descriptor_length plain) k d → OwnDescriptor d) → length tagged ≡ 2
      → descriptor_tag tagged ≡ 49 → descriptor_length tagged ≡ 8 → length payload ≡ 8 → Ones mvc_extension_descriptor payload → OwnInfo (plain ++ (tagged ++ payload))

-- an entry, given whether it is a layer
pub data OwnEntryOf (layer : Bool) : Item → Type 0 where
  a_layer : {head info : List ℕ} → layer ≡ true → Ones entry_head head → known Edition2015 (stream_type head) ≡ true → OwnInfo info → OwnEntryOf layer (whole head info)
  no_layer_lem : {item : Item} → layer ≡ false → OwnEntry item → OwnEntryOf layer item

-- whether the entry at a place is one, as the 2015 reading answers it
abbrev pub is_layer_there : List Item → ℕ → Bool
is_layer_there items k = is_layer (get_or (answered items) k blank_entry).«record»

abbrev pub OwnItems : List Item → Type 0
OwnItems items = (k : ℕ) (item : Item) → Nth items k item → OwnEntryOf (is_layer_there items k) item

abbrev pub OwnSet : List ℕ → Type 0
OwnSet bytes = OwnItems (cut 5 es_info_length bytes)
