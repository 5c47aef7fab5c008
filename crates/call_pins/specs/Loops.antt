-- LOOPS, pinned: derived by hand from document 01, each number given and narrowly not given; and one loop in which every field differs from every
-- other, read, listed and written.
-- Assumes nothing.
use Rattle.std.specs.Prelude.{ℕ, ◌+◌, Bool, true, false, List, [], ◌∷◌, ◌++◌, map, ◌≡◌, refl, length, take, replicate, Err, Ok}
use Rattle.vocabulary.specs.declared.stream_types.Reading.{Reading}
use Rattle.vocabulary.specs.declared.stream_types.Reading.TheVariants.{Edition2009, Edition2015}
use Rattle.vocabulary.specs.declared.refusal.Refusal.TheVariants.{DoesNotFit, EmbeddedLayerAbsent, LoopTooLong, NoRoom, RepeatedLayerIndex, RepeatedPid, SecondRecord, TooWide, TypeNotAllowed, WrongEmbeddedIndex, WrongFlags, WrongLength}
use Rattle.combinators.specs.Padding.{pad_to}
use Rattle.combinators.specs.Those.{those}
use Rattle.sets.specs.Sets.{size}
use Rattle.text.specs.Text.{ascii, decimal, decimal_width, texts}
use Rattle.records.specs.declared.Record.{Record}
use Rattle.records.specs.declared.Record.TheVariants.{NoRecord, Hierarchy, Extension, Implied}
use Rattle.loop_entries.specs.declared.Entry.{Entry}
use Rattle.es_loop.specs.Answer.{Outcome}
use Rattle.es_loop.specs.Reading.{loop_read}
use Rattle.loop_layers.specs.Closures.{loop_closure}
use Rattle.loop_writer.specs.Answer.{Written}
use Rattle.loop_writer.specs.Writing.{answer, content}
use Rattle.record_pins.specs.Records.{hierarchy_payload, hierarchy, extension_payload, extension}
use Rattle.listing.specs.Lines.{members, layer_line, line_at, layers_text, accepted_text, refused_text, loop_text}

pub record Case : Type 0 where
  pub reading : Reading
  pub bytes : List ℕ
  pub outcome : Outcome

abbrev pub case : Reading → List ℕ → Outcome → Case
case reading bytes outcome = record { reading = reading; bytes = bytes; outcome = outcome }

-- 0, 1, 2 and so on, so many
abbrev pub first : ℕ → List ℕ
first count = those (λ i. true) count

-- the bytes of a list of embedded layers
abbrev pub index_bytes : List ℕ → List ℕ
index_bytes indices = map (λ (i : ℕ). 0xC0 + i) indices

-- a layer of index 63 with an extension that counts so many embedded layers, and has these
abbrev pub layer63 : ℕ → List ℕ → List ℕ
layer63 count list =
    (0x28 ∷ 0xE1 ∷ 0x00 ∷ 0xF0 ∷ (9 + length list) ∷ 0x3F ∷ (7 + length list) ∷ 0x06 ∷ 0x00 ∷ 0x01 ∷ 0xFC ∷ 0x02 ∷ (0xC0 + count) ∷ 0xC0 ∷ []) ++ index_bytes list

-- Two views and no hierarchy descriptor, AVC on PID 288 and MVC on PID 289; what may stand beside them: an audio stream, an HEVC base of index 0, and an SVC layer of an
-- index that rests on another
abbrev pub avc_view : List ℕ
avc_view = 0x1B ∷ 0xE1 ∷ 0x20 ∷ 0xF0 ∷ 0x00 ∷ []

abbrev pub mvc_view : List ℕ
mvc_view = 0x20 ∷ 0xE1 ∷ 0x21 ∷ 0xF0 ∷ 0x00 ∷ []

abbrev pub audio : List ℕ
audio = 0x0F ∷ 0xE1 ∷ 0x22 ∷ 0xF0 ∷ 0x00 ∷ []

abbrev pub hevc_base : List ℕ
hevc_base = 0x24 ∷ 0xE1 ∷ 0x23 ∷ 0xF0 ∷ 0x06 ∷ 0x04 ∷ 0x04 ∷ 0xFF ∷ 0xC0 ∷ 0xFF ∷ 0xC0 ∷ []

abbrev pub svc_layer : ℕ → ℕ → List ℕ
svc_layer index embedded = 0x1F ∷ 0xE1 ∷ 0x24 ∷ 0xF0 ∷ 0x06 ∷ 0x04 ∷ 0x04 ∷ 0xF1 ∷ (0xC0 + index) ∷ (0x40 + embedded) ∷ 0xC0 ∷ []

-- the MVC view with a hierarchy extension of index 1, on layer 0
abbrev pub extended_view : List ℕ
extended_view =
    0x20 ∷ 0xE1 ∷ 0x21 ∷ 0xF0 ∷ 0x0A ∷ 0x3F ∷ 0x08 ∷ 0x06 ∷ 0x00 ∷ 0x02 ∷ 0x04 ∷ 0x02 ∷ 0xC1 ∷ 0xC1 ∷ 0xC0 ∷ []

-- the sample sports
abbrev pub sports : List ℕ
sports = avc_view ++ audio ++ mvc_view

abbrev pub loops : List Case
loops =
    -- 1: 1,008 bytes and 1,009
    case Edition2009 ((0x02 ∷ 0xE1 ∷ 0x00 ∷ 0xF3 ∷ 0xEB ∷ []) ++ replicate 1003 0xFF) (Ok tt)
    ∷ case Edition2009 ((0x02 ∷ 0xE1 ∷ 0x00 ∷ 0xF3 ∷ 0xEC ∷ []) ++ replicate 1004 0xFF) (Err LoopTooLong)
    ∷ case Edition2015 ((0x02 ∷ 0xE1 ∷ 0x00 ∷ 0xF3 ∷ 0xEC ∷ []) ++ replicate 1004 0xFF) (Err LoopTooLong)
    -- 2: an entry of one byte too few; all 12 bits of its length count; a descriptor of one byte too few, on a known type alone
    ∷ case Edition2015 (0x1B ∷ 0xE1 ∷ 0x00 ∷ 0xF0 ∷ 0x00 ∷ 0x1F ∷ 0xE1 ∷ 0x01 ∷ 0xF0 ∷ 0x00 ∷ []) (Ok tt)
    ∷ case Edition2015 (0x1B ∷ 0xE1 ∷ 0x00 ∷ 0xF0 ∷ 0x00 ∷ 0x1F ∷ 0xE1 ∷ 0x01 ∷ 0xF0 ∷ []) (Err (DoesNotFit 1))
    ∷ case Edition2015 (0x1B ∷ 0xE1 ∷ 0x00 ∷ 0xF4 ∷ 0x00 ∷ []) (Err (DoesNotFit 0))
    ∷ case Edition2009 (0x1B ∷ 0xE1 ∷ 0x00 ∷ 0xF0 ∷ 0x02 ∷ 0x05 ∷ 0x01 ∷ []) (Err (DoesNotFit 0))
    ∷ case Edition2009 (0x1B ∷ 0xE1 ∷ 0x00 ∷ 0xF0 ∷ 0x03 ∷ 0x05 ∷ 0x01 ∷ 0xAA ∷ []) (Ok tt)
    ∷ case Edition2015 (0x2C ∷ 0xE1 ∷ 0x00 ∷ 0xF0 ∷ 0x01 ∷ 0x04 ∷ []) (Ok tt)
    ∷ case Edition2009 (0x24 ∷ 0xE1 ∷ 0x00 ∷ 0xF0 ∷ 0x01 ∷ 0x04 ∷ []) (Ok tt)
    ∷ case Edition2015 (0x24 ∷ 0xE1 ∷ 0x00 ∷ 0xF0 ∷ 0x01 ∷ 0x04 ∷ []) (Err (DoesNotFit 0))
    -- 3: a PID twice, on whatever type; 13 bits of it count
    ∷ case Edition2009 (0x1B ∷ 0xE1 ∷ 0x00 ∷ 0xF0 ∷ 0x00 ∷ 0x0F ∷ 0xE1 ∷ 0x00 ∷ 0xF0 ∷ 0x00 ∷ []) (Err (RepeatedPid 1))
    ∷ case Edition2015 (0x1B ∷ 0xE1 ∷ 0x00 ∷ 0xF0 ∷ 0x00 ∷ 0x0F ∷ 0xE1 ∷ 0x01 ∷ 0xF0 ∷ 0x00 ∷ []) (Ok tt)
    ∷ case Edition2015 (0x0F ∷ 0xE1 ∷ 0x00 ∷ 0xF0 ∷ 0x00 ∷ 0x0F ∷ 0xF1 ∷ 0x00 ∷ 0xF0 ∷ 0x00 ∷ []) (Ok tt)
    ∷ case Edition2015 (0x02 ∷ 0xE0 ∷ 0x01 ∷ 0xF0 ∷ 0x00 ∷ 0x02 ∷ 0xE0 ∷ 0x02 ∷ 0xF0 ∷ 0x00 ∷ 0x02 ∷ 0xE0 ∷ 0x02 ∷ 0xF0 ∷ 0x00 ∷ 0x02 ∷ 0xE0 ∷ 0x01 ∷ 0xF0 ∷ 0x00 ∷ []) (Err (RepeatedPid 2))
    -- 4: a hierarchy descriptor of length 3, 4, 5; an extension of another length than its count demands, and too short to hold its count
    ∷ case Edition2009 (0x1B ∷ 0xE1 ∷ 0x00 ∷ 0xF0 ∷ 0x05 ∷ 0x04 ∷ 0x03 ∷ 0xFF ∷ 0xC0 ∷ 0xFF ∷ []) (Err (WrongLength 0))
    ∷ case Edition2009 (0x1B ∷ 0xE1 ∷ 0x00 ∷ 0xF0 ∷ 0x06 ∷ 0x04 ∷ 0x04 ∷ 0xFF ∷ 0xC0 ∷ 0xFF ∷ 0xC0 ∷ []) (Ok tt)
    ∷ case Edition2015 (0x1B ∷ 0xE1 ∷ 0x00 ∷ 0xF0 ∷ 0x07 ∷ 0x04 ∷ 0x05 ∷ 0xFF ∷ 0xC0 ∷ 0xFF ∷ 0xC0 ∷ 0x00 ∷ []) (Err (WrongLength 0))
    ∷ case Edition2009 (0x0F ∷ 0xE1 ∷ 0x00 ∷ 0xF0 ∷ 0x02 ∷ 0x04 ∷ 0x00 ∷ []) (Ok tt)
    ∷ case Edition2015 (0x28 ∷ 0xE1 ∷ 0x00 ∷ 0xF0 ∷ 0x02 ∷ 0x3F ∷ 0x00 ∷ []) (Ok tt)
    ∷ case Edition2015 (0x28 ∷ 0xE1 ∷ 0x00 ∷ 0xF0 ∷ 0x07 ∷ 0x3F ∷ 0x05 ∷ 0x06 ∷ 0x00 ∷ 0x02 ∷ 0x04 ∷ 0x00 ∷ []) (Err (WrongLength 0))
    ∷ case Edition2015 (0x28 ∷ 0xE1 ∷ 0x00 ∷ 0xF0 ∷ 0x0A ∷ 0x3F ∷ 0x08 ∷ 0x06 ∷ 0x00 ∷ 0x02 ∷ 0x04 ∷ 0x00 ∷ 0xC1 ∷ 0xC0 ∷ 0xC0 ∷ []) (Ok tt)
    ∷ case Edition2015 (0x28 ∷ 0xE1 ∷ 0x00 ∷ 0xF0 ∷ 0x0A ∷ 0x3F ∷ 0x08 ∷ 0x06 ∷ 0x00 ∷ 0x02 ∷ 0x04 ∷ 0x00 ∷ 0xC2 ∷ 0xC0 ∷ 0xC0 ∷ []) (Err (WrongLength 0))
    ∷ case Edition2009 (0x1B ∷ 0xE1 ∷ 0x00 ∷ 0xF0 ∷ 0x03 ∷ 0x3F ∷ 0x01 ∷ 0x06 ∷ []) (Ok tt)
    -- 5: two records; the 2009 reading sees one of them
    ∷ case Edition2015 (0x1B ∷ 0xE1 ∷ 0x00 ∷ 0xF0 ∷ 0x0C ∷ 0x04 ∷ 0x04 ∷ 0xFF ∷ 0xC0 ∷ 0xFF ∷ 0xC0 ∷ 0x04 ∷ 0x04 ∷ 0xFF ∷ 0xC1 ∷ 0xFF ∷ 0xC0 ∷ []) (Err (SecondRecord 0))
    ∷ case Edition2015 (0x1B ∷ 0xE1 ∷ 0x00 ∷ 0xF0 ∷ 0x0F ∷ 0x04 ∷ 0x04 ∷ 0xFF ∷ 0xC0 ∷ 0xFF ∷ 0xC0 ∷ 0x3F ∷ 0x07 ∷ 0x06 ∷ 0x00 ∷ 0x00 ∷ 0x04 ∷ 0x00 ∷ 0xC0 ∷ 0xC0 ∷ []) (Err (SecondRecord 0))
    ∷ case Edition2009 (0x1B ∷ 0xE1 ∷ 0x00 ∷ 0xF0 ∷ 0x0F ∷ 0x04 ∷ 0x04 ∷ 0xFF ∷ 0xC0 ∷ 0xFF ∷ 0xC0 ∷ 0x3F ∷ 0x07 ∷ 0x06 ∷ 0x00 ∷ 0x00 ∷ 0x04 ∷ 0x00 ∷ 0xC0 ∷ 0xC0 ∷ []) (Ok tt)
    -- 6: type 9 on 0x1B, and on 0x20; type 15 on 0x1F; an extension on 0x1B, and on 0x28
    ∷ case Edition2015 (0x1B ∷ 0xE1 ∷ 0x00 ∷ 0xF0 ∷ 0x06 ∷ 0x04 ∷ 0x04 ∷ 0xF9 ∷ 0xC1 ∷ 0x40 ∷ 0xC0 ∷ []) (Err (TypeNotAllowed 0))
    ∷ case Edition2015 (0x20 ∷ 0xE1 ∷ 0x00 ∷ 0xF0 ∷ 0x06 ∷ 0x04 ∷ 0x04 ∷ 0xF9 ∷ 0xC1 ∷ 0x40 ∷ 0xC0 ∷ []) (Ok tt)
    ∷ case Edition2009 (0x1F ∷ 0xE1 ∷ 0x00 ∷ 0xF0 ∷ 0x06 ∷ 0x04 ∷ 0x04 ∷ 0xFF ∷ 0xC1 ∷ 0x40 ∷ 0xC0 ∷ []) (Err (TypeNotAllowed 0))
    ∷ case Edition2015 (0x1B ∷ 0xE1 ∷ 0x00 ∷ 0xF0 ∷ 0x09 ∷ 0x3F ∷ 0x07 ∷ 0x06 ∷ 0x00 ∷ 0x02 ∷ 0x04 ∷ 0x00 ∷ 0xC0 ∷ 0xC0 ∷ []) (Err (TypeNotAllowed 0))
    ∷ case Edition2009 (0x1B ∷ 0xE1 ∷ 0x00 ∷ 0xF0 ∷ 0x09 ∷ 0x3F ∷ 0x07 ∷ 0x06 ∷ 0x00 ∷ 0x02 ∷ 0x04 ∷ 0x00 ∷ 0xC0 ∷ 0xC0 ∷ []) (Ok tt)
    ∷ case Edition2015 (0x28 ∷ 0xE1 ∷ 0x00 ∷ 0xF0 ∷ 0x09 ∷ 0x3F ∷ 0x07 ∷ 0x06 ∷ 0x00 ∷ 0x02 ∷ 0x04 ∷ 0x00 ∷ 0xC0 ∷ 0xC0 ∷ []) (Ok tt)
    -- 7: one flag at 0 and two; no_view counts in 2015 alone; type 8 with all at 0; type 9 with one
    ∷ case Edition2015 (0x1F ∷ 0xE1 ∷ 0x00 ∷ 0xF0 ∷ 0x06 ∷ 0x04 ∷ 0x04 ∷ 0x71 ∷ 0xC1 ∷ 0x40 ∷ 0xC0 ∷ []) (Ok tt)
    ∷ case Edition2015 (0x1F ∷ 0xE1 ∷ 0x00 ∷ 0xF0 ∷ 0x06 ∷ 0x04 ∷ 0x04 ∷ 0x31 ∷ 0xC1 ∷ 0x40 ∷ 0xC0 ∷ []) (Err (WrongFlags 0))
    ∷ case Edition2009 (0x1F ∷ 0xE1 ∷ 0x00 ∷ 0xF0 ∷ 0x06 ∷ 0x04 ∷ 0x04 ∷ 0x31 ∷ 0xC1 ∷ 0x40 ∷ 0xC0 ∷ []) (Ok tt)
    ∷ case Edition2009 (0x1F ∷ 0xE1 ∷ 0x00 ∷ 0xF0 ∷ 0x06 ∷ 0x04 ∷ 0x04 ∷ 0x11 ∷ 0xC1 ∷ 0x40 ∷ 0xC0 ∷ []) (Err (WrongFlags 0))
    ∷ case Edition2015 (0x1F ∷ 0xE1 ∷ 0x00 ∷ 0xF0 ∷ 0x06 ∷ 0x04 ∷ 0x04 ∷ 0x08 ∷ 0xC1 ∷ 0x40 ∷ 0xC0 ∷ []) (Ok tt)
    ∷ case Edition2015 (0x20 ∷ 0xE1 ∷ 0x00 ∷ 0xF0 ∷ 0x06 ∷ 0x04 ∷ 0x04 ∷ 0x79 ∷ 0xC1 ∷ 0x40 ∷ 0xC0 ∷ []) (Err (WrongFlags 0))
    ∷ case Edition2009 (0x20 ∷ 0xE1 ∷ 0x00 ∷ 0xF0 ∷ 0x06 ∷ 0x04 ∷ 0x04 ∷ 0x79 ∷ 0xC1 ∷ 0x40 ∷ 0xC0 ∷ []) (Ok tt)
    -- 8: an index held by an earlier layer; channel and nuh_layer_id are no index
    ∷ case Edition2015 (0x1B ∷ 0xE1 ∷ 0x00 ∷ 0xF0 ∷ 0x06 ∷ 0x04 ∷ 0x04 ∷ 0xFF ∷ 0xC0 ∷ 0xFF ∷ 0xC0 ∷ 0x1F ∷ 0xE1 ∷ 0x01 ∷ 0xF0 ∷ 0x06 ∷ 0x04 ∷ 0x04 ∷ 0xF1 ∷ 0xC1 ∷ 0x40 ∷ 0xC0 ∷ 0x1F ∷ 0xE1 ∷ 0x02 ∷ 0xF0 ∷ 0x06 ∷ 0x04 ∷ 0x04 ∷ 0xF2 ∷ 0xC1 ∷ 0x40 ∷ 0xC0 ∷ []) (Err (RepeatedLayerIndex 2))
    ∷ case Edition2009 (0x1B ∷ 0xE1 ∷ 0x00 ∷ 0xF0 ∷ 0x06 ∷ 0x04 ∷ 0x04 ∷ 0xFF ∷ 0xC0 ∷ 0xFF ∷ 0xC0 ∷ 0x1F ∷ 0xE1 ∷ 0x01 ∷ 0xF0 ∷ 0x06 ∷ 0x04 ∷ 0x04 ∷ 0xF1 ∷ 0xC1 ∷ 0x40 ∷ 0xC0 ∷ 0x1F ∷ 0xE1 ∷ 0x02 ∷ 0xF0 ∷ 0x06 ∷ 0x04 ∷ 0x04 ∷ 0xF2 ∷ 0xC2 ∷ 0x40 ∷ 0xC0 ∷ []) (Ok tt)
    ∷ case Edition2015 (0x24 ∷ 0xE1 ∷ 0x00 ∷ 0xF0 ∷ 0x06 ∷ 0x04 ∷ 0x04 ∷ 0xFF ∷ 0xC0 ∷ 0xFF ∷ 0xC0 ∷ 0x28 ∷ 0xE1 ∷ 0x01 ∷ 0xF0 ∷ 0x0A ∷ 0x3F ∷ 0x08 ∷ 0x06 ∷ 0x00 ∷ 0x01 ∷ 0x04 ∷ 0x02 ∷ 0xC1 ∷ 0xC1 ∷ 0xC0 ∷ 0x2A ∷ 0xE1 ∷ 0x02 ∷ 0xF0 ∷ 0x0A ∷ 0x3F ∷ 0x08 ∷ 0x06 ∷ 0x00 ∷ 0x02 ∷ 0x08 ∷ 0x02 ∷ 0xC1 ∷ 0xC1 ∷ 0xC0 ∷ []) (Ok tt)
    -- 9: layer 1 on 0 and on 1; a base layer on whatever; an extension that lists a layer twice
    ∷ case Edition2009 (0x1F ∷ 0xE1 ∷ 0x00 ∷ 0xF0 ∷ 0x06 ∷ 0x04 ∷ 0x04 ∷ 0xF1 ∷ 0xC1 ∷ 0x40 ∷ 0xC0 ∷ []) (Ok tt)
    ∷ case Edition2009 (0x1F ∷ 0xE1 ∷ 0x00 ∷ 0xF0 ∷ 0x06 ∷ 0x04 ∷ 0x04 ∷ 0xF1 ∷ 0xC1 ∷ 0x41 ∷ 0xC0 ∷ []) (Err (WrongEmbeddedIndex 0))
    ∷ case Edition2015 (0x1B ∷ 0xE1 ∷ 0x00 ∷ 0xF0 ∷ 0x06 ∷ 0x04 ∷ 0x04 ∷ 0xFF ∷ 0xC5 ∷ 0x7F ∷ 0xC0 ∷ []) (Ok tt)
    ∷ case Edition2015 (0x28 ∷ 0xE1 ∷ 0x00 ∷ 0xF0 ∷ 0x0B ∷ 0x3F ∷ 0x09 ∷ 0x06 ∷ 0x00 ∷ 0x01 ∷ 0x0C ∷ 0x02 ∷ 0xC2 ∷ 0xC0 ∷ 0xC1 ∷ 0xC0 ∷ []) (Ok tt)
    ∷ case Edition2015 (0x28 ∷ 0xE1 ∷ 0x00 ∷ 0xF0 ∷ 0x0B ∷ 0x3F ∷ 0x09 ∷ 0x06 ∷ 0x00 ∷ 0x01 ∷ 0x0C ∷ 0x02 ∷ 0xC2 ∷ 0xC0 ∷ 0xC0 ∷ 0xC0 ∷ []) (Err (WrongEmbeddedIndex 0))
    -- 8 embedded layers, and 9
    ∷ case Edition2015 (0x28 ∷ 0xE1 ∷ 0x00 ∷ 0xF0 ∷ 0x11 ∷ 0x3F ∷ 0x0F ∷ 0x06 ∷ 0x00 ∷ 0x01 ∷ 0x20 ∷ 0x02 ∷ 0xC8 ∷ 0xC0 ∷ 0xC0 ∷ 0xC1 ∷ 0xC2 ∷ 0xC3 ∷ 0xC4 ∷ 0xC5 ∷ 0xC6 ∷ 0xC7 ∷ []) (Ok tt)
    ∷ case Edition2015 (0x28 ∷ 0xE1 ∷ 0x00 ∷ 0xF0 ∷ 0x12 ∷ 0x3F ∷ 0x10 ∷ 0x06 ∷ 0x00 ∷ 0x01 ∷ 0x24 ∷ 0x02 ∷ 0xC9 ∷ 0xC0 ∷ 0xC0 ∷ 0xC1 ∷ 0xC2 ∷ 0xC3 ∷ 0xC4 ∷ 0xC5 ∷ 0xC6 ∷ 0xC7 ∷ 0xC8 ∷ []) (Ok tt)
    -- 12, 62 and 63 of them; one of 63 listed twice; 63 counted where 62 are listed, and 62 counted where 63 are
    ∷ case Edition2015 (layer63 12 (first 12)) (Ok tt)
    ∷ case Edition2015 (layer63 62 (first 62)) (Ok tt)
    ∷ case Edition2015 (layer63 63 (first 63)) (Ok tt)
    ∷ case Edition2009 (layer63 63 (first 63)) (Ok tt)
    ∷ case Edition2015 (layer63 63 (first 62 ++ 61 ∷ [])) (Err (WrongEmbeddedIndex 0))
    ∷ case Edition2015 (layer63 63 (first 62)) (Err (WrongLength 0))
    ∷ case Edition2015 (layer63 62 (first 63)) (Err (WrongLength 0))
    -- two views and no hierarchy descriptor, beside an HEVC base of index 0: 8 at the later entry, whichever is implied; none in 2009, or with a second MVC
    ∷ case Edition2015 (hevc_base ++ avc_view ++ mvc_view) (Err (RepeatedLayerIndex 1))
    ∷ case Edition2015 (avc_view ++ hevc_base ++ mvc_view) (Err (RepeatedLayerIndex 1))
    ∷ case Edition2015 (avc_view ++ mvc_view ++ hevc_base) (Err (RepeatedLayerIndex 2))
    ∷ case Edition2015 (mvc_view ++ hevc_base ++ avc_view) (Err (RepeatedLayerIndex 2))
    ∷ case Edition2009 (hevc_base ++ avc_view ++ mvc_view) (Ok tt)
    ∷ case Edition2015 (hevc_base ++ avc_view ++ mvc_view ++ (0x20 ∷ 0xE1 ∷ 0x25 ∷ 0xF0 ∷ 0x00 ∷ [])) (Ok tt)
    -- beside a layer of index 1, in both readings; of index 2, which rests on 1
    ∷ case Edition2009 (svc_layer 1 0 ++ avc_view ++ mvc_view) (Err (RepeatedLayerIndex 2))
    ∷ case Edition2015 (mvc_view ++ svc_layer 1 0 ++ avc_view) (Err (RepeatedLayerIndex 1))
    ∷ case Edition2009 (avc_view ++ mvc_view ++ svc_layer 2 1) (Ok tt)
    -- an extension on one of them
    ∷ case Edition2009 (avc_view ++ extended_view) (Ok tt)
    ∷ case Edition2015 (avc_view ++ extended_view) (Err (TypeNotAllowed 1))
    ∷ []

-- A loop in which every field differs from every other:
abbrev pub distinct : List ℕ
distinct =
    -- AVC, PID 298: type 15, index 7, TREF, embedded index 63, which names nothing, channel 21
    (0x1B ∷ 0xE1 ∷ 0x2A ∷ 0xF0 ∷ 0x06 ∷ 0x04 ∷ 0x04 ∷ 0xFF ∷ 0xC7 ∷ 0xFF ∷ 0xD5 ∷ [])
    -- SVC, PID 300, on layer 7
    ++ (0x1F ∷ 0xE1 ∷ 0x2C ∷ 0xF0 ∷ 0x06 ∷ 0x04 ∷ 0x04 ∷ []) ++ hierarchy_payload
    -- HEVC, PID 301, on layers 9 and 7
    ++ (0x29 ∷ 0xE1 ∷ 0x2D ∷ 0xF0 ∷ 0x0B ∷ 0x3F ∷ 0x09 ∷ []) ++ extension_payload

abbrev pub distinct_entries : List Entry
distinct_entries =
    record {
      stream_type = 27;
      pid = 298;
      «record» = Hierarchy (record {
        no_view = true;
        no_temporal = true;
        no_spatial = true;
        no_quality = true;
        hierarchy_type = 15;
        layer_index = record { 0 = 7 };
        tref_present_flag = true;
        embedded_layer_index = record { 0 = 63 };
        channel = record { 0 = 21 };
      });
      embedded = replicate 63 (record { 0 = 0 });
    }
    ∷ record {
      stream_type = 31;
      pid = 300;
      «record» = Hierarchy hierarchy;
      embedded = replicate 63 (record { 0 = 0 });
    }
    ∷ record {
      stream_type = 41;
      pid = 301;
      «record» = Extension extension;
      embedded = pad_to 63 (record { 0 = 0 }) (record { 0 = 9 } ∷ record { 0 = 7 } ∷ []);
    }
    ∷ []

-- an entry without a descriptor, and those of the sample sports with these records
abbrev pub undescribed : ℕ → ℕ → Record → Entry
undescribed stream_type pid r = record { stream_type = stream_type; pid = pid; «record» = r; embedded = replicate 63 (record { 0 = 0 }) }

abbrev pub sports_entries : Record → Record → Record → List Entry
sports_entries avc other mvc = undescribed 27 288 avc ∷ undescribed 15 290 other ∷ undescribed 32 289 mvc ∷ []

-- entries to be written: one without a record; one with a hierarchy record that enhances spatially, and temporally too where the flag is false; one with
-- an extension that lists the layers from 0 on
abbrev pub plain_entry : ℕ → Entry
plain_entry pid = record { stream_type = 15; pid = pid; «record» = NoRecord; embedded = replicate 63 (record { 0 = 0 }) }

abbrev pub layer : ℕ → ℕ → ℕ → Bool → ℕ → ℕ → Entry
layer stream_type pid type temporal index embedded =
    record {
      stream_type = stream_type;
      pid = pid;
      «record» = Hierarchy (record {
        no_view = true;
        no_temporal = temporal;
        no_spatial = false;
        no_quality = true;
        hierarchy_type = type;
        layer_index = record { 0 = index };
        tref_present_flag = true;
        embedded_layer_index = record { 0 = embedded };
        channel = record { 0 = 42 };
      });
      embedded = replicate 63 (record { 0 = 0 });
    }

-- layer 63 on so many
abbrev pub on_many : ℕ → Entry
on_many count =
    record {
      stream_type = 40;
      pid = 301;
      «record» = Extension (record {
        dimension_bits = 0xABCD;
        layer_index = record { 0 = 63 };
        temporal_id = record { 0 = 6 };
        nuh_layer_id = record { 0 = 33 };
        tref_present_flag = true;
        num_embedded_layers = count;
        channel = record { 0 = 47 };
      });
      embedded = pad_to 63 (record { 0 = 0 }) (map (λ (i : ℕ). record { 0 = i }) (first 63));
    }

-- its bytes on 63
abbrev pub on_all : List ℕ
on_all =
    (0x28 ∷ 0xE1 ∷ 0x2D ∷ 0xF0 ∷ 0x48 ∷ 0x3F ∷ 0x46 ∷ 0x06 ∷ 0xAB ∷ 0xCD ∷ 0xFF ∷ 0x43 ∷ 0xFF ∷ 0xEF ∷ []) ++ index_bytes (first 63)

-- entries, how many of them, the places of the buffer, and what is answered
pub record Write : Type 0 where
  pub entries : List Entry
  pub count : ℕ
  pub room : ℕ
  pub written : Written

abbrev pub write : List Entry → ℕ → ℕ → Written → Write
write entries count room written = record { entries = entries; count = count; room = room; written = written }

abbrev pub writes : List Write
writes =
    -- 25: a PID of 8191 and 8192; hierarchy_type 16; an index of 64
    write (plain_entry 8191 ∷ []) 1 5 (Ok 5)
    ∷ write (plain_entry 8192 ∷ []) 1 5 (Err TooWide)
    ∷ write (layer 27 300 16 true 9 7 ∷ []) 1 11 (Err TooWide)
    ∷ write (layer 27 300 1 true 64 7 ∷ []) 1 11 (Err TooWide)
    -- 1: 202 entries; 201 of one PID are 1,005 bytes: 3
    ∷ write (replicate 201 (plain_entry 300)) 202 2000 (Err LoopTooLong)
    ∷ write (replicate 201 (plain_entry 300)) 201 2000 (Err (RepeatedPid 1))
    -- 3: the same PID, and another
    ∷ write (plain_entry 300 ∷ plain_entry 300 ∷ []) 2 10 (Err (RepeatedPid 1))
    ∷ write (plain_entry 300 ∷ plain_entry 301 ∷ []) 2 10 (Ok 10)
    -- 6: type 9 on 0x1B; a record on a type that is not known; type 1 on 0x1F
    ∷ write (layer 27 300 9 true 9 7 ∷ []) 1 11 (Err (TypeNotAllowed 0))
    ∷ write (layer 44 300 1 true 9 7 ∷ []) 1 11 (Err (TypeNotAllowed 0))
    ∷ write (layer 31 300 1 true 9 7 ∷ []) 1 11 (Ok 11)
    -- 6: the marks of two views, right; each of them missing; on another stream; of a view alone, and of one beside a view with a descriptor
    ∷ write (sports_entries Implied NoRecord Implied) 3 15 (Ok 15)
    ∷ write (sports_entries NoRecord NoRecord NoRecord) 3 15 (Err (TypeNotAllowed 0))
    ∷ write (sports_entries NoRecord NoRecord Implied) 3 15 (Err (TypeNotAllowed 0))
    ∷ write (sports_entries Implied NoRecord NoRecord) 3 15 (Err (TypeNotAllowed 2))
    ∷ write (sports_entries Implied Implied Implied) 3 15 (Err (TypeNotAllowed 1))
    ∷ write (sports_entries Implied NoRecord Implied) 1 15 (Err (TypeNotAllowed 0))
    ∷ write (sports_entries NoRecord NoRecord Implied) 2 15 (Ok 10)
    ∷ write (layer 27 300 15 true 0 63 ∷ undescribed 32 289 Implied ∷ []) 2 16 (Err (TypeNotAllowed 1))
    ∷ write (layer 27 300 15 true 0 63 ∷ undescribed 32 289 NoRecord ∷ []) 2 16 (Ok 16)
    -- 7: a second flag at 0
    ∷ write (layer 31 300 1 false 9 7 ∷ []) 1 11 (Err (WrongFlags 0))
    -- 8: the same index
    ∷ write (layer 31 300 1 true 9 7 ∷ layer 31 301 1 true 9 7 ∷ []) 2 22 (Err (RepeatedLayerIndex 1))
    ∷ write (layer 31 300 1 true 9 7 ∷ layer 31 301 1 true 10 7 ∷ []) 2 22 (Ok 22)
    -- 8: an index of two views, at the later entry
    ∷ write (layer 31 300 1 true 1 0 ∷ sports_entries Implied NoRecord Implied) 4 26 (Err (RepeatedLayerIndex 3))
    ∷ write (sports_entries Implied NoRecord Implied ++ layer 31 300 1 true 1 0 ∷ []) 4 26 (Err (RepeatedLayerIndex 3))
    ∷ write (sports_entries Implied NoRecord Implied ++ layer 31 300 1 true 2 1 ∷ []) 4 26 (Ok 26)
    -- 9: on itself
    ∷ write (layer 31 300 1 true 9 9 ∷ []) 1 11 (Err (WrongEmbeddedIndex 0))
    -- on 8 layers, on 9 and on 63; 25: on 64
    ∷ write (on_many 8 ∷ []) 1 22 (Ok 22)
    ∷ write (on_many 9 ∷ []) 1 23 (Ok 23)
    ∷ write (on_many 63 ∷ []) 1 77 (Ok 77)
    ∷ write (on_many 63 ∷ []) 1 76 (Err NoRoom)
    ∷ write (on_many 64 ∷ []) 1 78 (Err TooWide)
    -- 17: one place too few
    ∷ write (plain_entry 300 ∷ []) 1 4 (Err NoRoom)
    ∷ []

-- a base layer of index 0, on PID 256
abbrev pub base : List ℕ
base = 0x1B ∷ 0xE1 ∷ 0x00 ∷ 0xF0 ∷ 0x06 ∷ 0x04 ∷ 0x04 ∷ 0xFF ∷ 0xC0 ∷ 0xFF ∷ 0xC0 ∷ []

pub record LoopsPinned : Type 0 where
  pub outcomes : map (λ (c : Case). (loop_read c.reading c.bytes).outcome) loops ≡ map (λ (c : Case). c.outcome) loops
  pub read : take 3 (loop_read Edition2015 distinct).entries ≡ distinct_entries
  pub answers : map (λ (w : Write). answer w.room w.count w.entries) writes ≡ map (λ (w : Write). w.written) writes
  pub written : (answer 38 3 distinct_entries ≡ Ok 38) × (content 3 distinct_entries (replicate 40 5) ≡ distinct ++ 5 ∷ 5 ∷ [])
  pub closures : (loop_closure Edition2015 distinct 12 ≡ Ok 0b1001010000000) × (loop_closure Edition2009 distinct 9 ≡ Ok 0b1010000000)
  -- layer 63 on the 63 others, none of which is in the loop
  pub long_list_read : take 1 (loop_read Edition2015 on_all).entries ≡ on_many 63 ∷ []
  pub long_list_written : content 1 (on_many 63 ∷ []) (replicate 78 5) ≡ on_all ++ 5 ∷ []
  pub long_list_absent : loop_closure Edition2015 on_all 63 ≡ Err (EmbeddedLayerAbsent (record { 0 = 0 }))
  -- two views and no hierarchy descriptor
  pub views_read : (take 3 (loop_read Edition2015 sports).entries ≡ sports_entries Implied NoRecord Implied)
      × (take 3 (loop_read Edition2009 sports).entries ≡ sports_entries Implied NoRecord Implied)
  pub views_written : content 3 (sports_entries Implied NoRecord Implied) (replicate 16 5) ≡ sports ++ 5 ∷ []
  pub views_closures : (loop_closure Edition2009 sports 0 ≡ Ok 0b1) × (loop_closure Edition2015 sports 1 ≡ Ok 0b11)
      × (loop_closure Edition2015 (mvc_view ++ avc_view ++ svc_layer 2 1) 2 ≡ Ok 0b111)
  pub views_listed : loop_text Edition2015 (mvc_view ++ avc_view)
      ≡ ascii "accepted 2\nlayer 0 pid 288 type 27 channel 0 closure 0\nlayer 1 pid 289 type 32 channel 0 closure 0 1\n"
  pub listed : loop_text Edition2015 distinct
      ≡ ascii "accepted 3\nlayer 7 pid 298 type 27 channel 21 closure 7\nlayer 9 pid 300 type 31 channel 42 closure 7 9\nlayer 12 pid 301 type 41 channel 47 closure 7 9 12\n"
  pub listed_in_2009 : loop_text Edition2009 distinct
      ≡ ascii "accepted 2\nlayer 7 pid 298 type 27 channel 21 closure 7\nlayer 9 pid 300 type 31 channel 42 closure 7 9\n"
  -- layer 2 rests on layer 1, which is not in the loop
  pub listed_absent : loop_text Edition2015 (base ++ (0x1F ∷ 0xE1 ∷ 0x02 ∷ 0xF0 ∷ 0x06 ∷ 0x04 ∷ 0x04 ∷ 0xE2 ∷ 0xC2 ∷ 0x41 ∷ 0xC5 ∷ []))
      ≡ ascii "accepted 2\nlayer 0 pid 256 type 27 channel 0 closure 0\nlayer 2 pid 258 type 31 channel 5 closure absent\n"
  -- layer 1 rests on itself
  pub listed_refusal : loop_text Edition2015 (base ++ (0x1F ∷ 0xE1 ∷ 0x01 ∷ 0xF0 ∷ 0x06 ∷ 0x04 ∷ 0x04 ∷ 0xD1 ∷ 0xC1 ∷ 0x41 ∷ 0xC1 ∷ []))
      ≡ ascii "refused 9 entry 1\n"

pub loops_pinned : LoopsPinned
unfolding loop_text size accepted_text refused_text layers_text line_at layer_line members texts decimal decimal_width
loops_pinned = record { outcomes = refl; read = refl; answers = refl; written = (refl, refl); closures = (refl, refl); long_list_read = refl; long_list_written = refl; long_list_absent = refl; views_read = (refl, refl); views_written = refl; views_closures = (refl, refl, refl); views_listed = refl; listed = refl; listed_in_2009 = refl; listed_absent = refl; listed_refusal = refl }
