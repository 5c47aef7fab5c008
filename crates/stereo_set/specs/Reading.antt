-- WHAT READING A STEREO SET ANSWERS, straight from a loop's bytes: the loop's own refusal under the 2015 reading, or its layers judged.
-- Assumes nothing.
use Rattle.std.specs.Prelude.{ℕ, Bool, List, [], map, Err, Ok}
use Rattle.framing.specs.Pieces.{Item, whole, broken, cut}
use Rattle.vocabulary.specs.declared.stream_types.Reading.TheVariants.{Edition2015}
use Rattle.es_loop.specs.Answer.{Verdict}
use Rattle.loop_entries.specs.Entries.{es_info_length, stream_of, pair_of, marked_stream, entry_of}
use Rattle.es_loop.specs.Reading.{verdict_of}
use Rattle.mvc_descriptors.specs.Finding.{extension_in}
use Rattle.stereo_set.specs.declared.views.View.{View}
use Rattle.stereo_set.specs.declared.set.StereoRead.{StereoRead}
use Rattle.stereo_set.specs.Views.{layers_among}
use Rattle.stereo_set.specs.Set.{refused_set, set_of}

-- the descriptor bytes of an entry
abbrev pub info_of : Item → List ℕ
info_of (whole head info) = info
info_of broken = []

-- an entry as it is answered, given whether the loop has the two views without a hierarchy descriptor, with its MVC extension descriptor
abbrev pub view_of : Bool → Item → View
view_of pair item = record { entry = entry_of (marked_stream pair (stream_of Edition2015 item)); found = extension_in (info_of item) }

abbrev pub views_of : List Item → List View
views_of items = map (view_of (pair_of (map (stream_of Edition2015) items))) items

abbrev pub views_in : List ℕ → List View
views_in bytes = views_of (cut 5 es_info_length bytes)

abbrev pub stereo_by : List ℕ → Verdict → StereoRead
stereo_by bytes (Err r) = refused_set r
stereo_by bytes (Ok judged) = set_of (layers_among (views_in bytes))

abbrev pub stereo_read : List ℕ → StereoRead
stereo_read bytes = stereo_by bytes (verdict_of Edition2015 bytes)
