-- WHAT IS FOUND in the descriptor bytes of a stream, as a walk through them keeps it: what is seen, but in place of the embedded layers of the first
-- record the place at which its descriptor ends: an extension's list are its last bytes.
-- Assumes nothing.
use Rattle.std.specs.Prelude.{ℕ, ◌-◌, ◌≤◌, true, false, List, [], ◌≡◌, length, take, drop}
use Rattle.combinators.specs.Padding.{pad_to}
use Rattle.vocabulary.specs.declared.LayerIndex.{LayerIndex}
use Rattle.records.specs.declared.Record.{Record}
use Rattle.records.specs.declared.Record.TheVariants.{NoRecord, Hierarchy, Extension, Implied}
use Rattle.descriptors.specs.declared.looking.Look.{Look}
use Rattle.descriptors.specs.declared.looking.Look.TheVariants.{Skipped, WrongLength, Hierarchy as LookHierarchy, Extension as LookExtension}
use Rattle.descriptors.specs.declared.looking.Found.{Found}
use Rattle.descriptors.specs.declared.looking.Named.{Named}
use Rattle.descriptors.specs.declared.looking.Seen.{Seen}
use Rattle.extension.specs.Extension.{no_layer, layers_of}
use Rattle.records.specs.Records.{names_of}
use Rattle.descriptors.specs.Looking.{Kind, does_not_fit, skipped, wrong_length, hierarchy, extension, Held, first_record, first_layers}

-- the look at a kind, and the embedded layers that stand in it
abbrev pub look_of : Kind → Look
look_of does_not_fit = Skipped
look_of skipped = Skipped
look_of wrong_length = WrongLength
look_of (hierarchy h) = LookHierarchy h
look_of (extension x layers) = LookExtension x

abbrev pub layers_in : Kind → List LayerIndex
layers_in does_not_fit = []
layers_in skipped = []
layers_in wrong_length = []
layers_in (hierarchy h) = []
layers_in (extension x layers) = layers

-- before any descriptor
abbrev pub nothing_found : Found
nothing_found = record { fits = true; wrong_length = false; second_record = false; «record» = NoRecord; end = 0 }

-- one descriptor more: one that does not fit, one at a wrong length, and a record, of which the first is kept and another is the second
abbrev pub unfit_found : Found → Found
unfit_found f = record { fits = false; wrong_length = f.wrong_length; second_record = f.second_record; «record» = f.«record»; end = f.end }

abbrev pub wrong_length_found : Found → Found
wrong_length_found f = record { fits = f.fits; wrong_length = true; second_record = f.second_record; «record» = f.«record»; end = f.end }

abbrev pub second_found : Found → Found
second_found f = record { fits = f.fits; wrong_length = f.wrong_length; second_record = true; «record» = f.«record»; end = f.end }

abbrev pub besides_found : Record → Found → Record → ℕ → Found
besides_found NoRecord f r end = record { fits = f.fits; wrong_length = f.wrong_length; second_record = f.second_record; «record» = r; end = end }
besides_found (Hierarchy h) f r end = second_found f
besides_found (Extension x) f r end = second_found f
besides_found Implied f r end = second_found f

abbrev pub record_found : Found → Record → ℕ → Found
record_found f r end = besides_found f.«record» f r end

abbrev pub look_found : Found → Look → ℕ → Found
look_found f Skipped end = f
look_found f WrongLength end = wrong_length_found f
look_found f (LookHierarchy h) end = record_found f (Hierarchy h) end
look_found f (LookExtension x) end = record_found f (Extension x) end

-- the embedded layers of a record whose descriptor ends at a place of the descriptor bytes; only an extension has a list
abbrev pub list_before : List ℕ → Record → ℕ → List LayerIndex
list_before info NoRecord end = []
list_before info (Hierarchy h) end = []
list_before info (Extension x) end = layers_of (take x.num_embedded_layers (drop (end - x.num_embedded_layers) info))
list_before info Implied end = []

-- the list lies within the bytes, and its array holds it
abbrev pub Within : List ℕ → Record → ℕ → Type 0
Within info NoRecord end = Unit {0}
Within info (Hierarchy h) end = Unit {0}
Within info (Extension x) end = (x.num_embedded_layers ≤ end) × (end ≤ length info) × (x.num_embedded_layers ≤ 63)
Within info Implied end = Unit {0}

-- what is found, as it is seen
abbrev pub seen_by : List ℕ → Found → Seen
seen_by info f =
    record {
      fits = f.fits;
      wrong_length = f.wrong_length;
      second_record = f.second_record;
      «record» = f.«record»;
      embedded = pad_to 63 no_layer (list_before info f.«record» f.end);
    }

-- a record, and the set of the layers that it names: the first of the records that are held, and of what is seen
abbrev pub named_in : ℕ → List Held → Named
named_in stream_type held =
    record { «record» = first_record held; names = names_of stream_type (first_record held) (pad_to 63 no_layer (first_layers held)) }

abbrev pub named_by : ℕ → Seen → Named
named_by stream_type s = record { «record» = s.«record»; names = names_of stream_type s.«record» s.embedded }

-- the same whatever the stream's type, as of every record that stands in the bytes: none of them is implied
abbrev pub NamedIn : Named → List Held → Type 0
NamedIn n held = (stream_type : ℕ) → n ≡ named_in stream_type held

abbrev pub NamedBy : Named → Seen → Type 0
NamedBy n s = (stream_type : ℕ) → n ≡ named_by stream_type s
