-- Document 01's loop examples, and those of W-201, computed.
-- Assumes nothing.
use Rattle.std.specs.Prelude.{ℕ, ◌≡◌, refl, List, [], ◌∷◌, ◌++◌, length, get_or, Ok}
use Rattle.vocabulary.specs.declared.stream_types.Reading.TheVariants.{Edition2009, Edition2015}
use Rattle.vocabulary.specs.declared.refusal.Refusal.TheVariants.{DoesNotFit, TypeNotAllowed, RepeatedLayerIndex}
use Rattle.records.specs.declared.Record.{Record}
use Rattle.records.specs.declared.Record.TheVariants.{NoRecord, Implied}
use Rattle.extension.specs.Extension.{no_layer}
use Rattle.combinators.specs.Padding.{pad_to}
use Rattle.es_loop.specs.declared.reader.LoopRead.{LoopRead}
use Rattle.loop_entries.specs.declared.Entry.{Entry}
use Rattle.loop_entries.specs.Entries.{blank_entry}
use Rattle.es_loop.specs.Reading.{refused_with, loop_read}

abbrev pub loop_a : List ℕ
loop_a =
    (0x1B ∷ 0xE1 ∷ 0x00 ∷ 0xF0 ∷ 0x06 ∷ 0x04 ∷ 0x04 ∷ 0xFF ∷ 0xC0 ∷ 0xFF ∷ 0xC0 ∷ [])
    ++ (0x1F ∷ 0xE1 ∷ 0x01 ∷ 0xF0 ∷ 0x06 ∷ 0x04 ∷ 0x04 ∷ 0xD1 ∷ 0xC1 ∷ 0x40 ∷ 0xC1 ∷ [])
    ++ (0x28 ∷ 0xE1 ∷ 0x02 ∷ 0xF0 ∷ 0x0A ∷ 0x3F ∷ 0x08 ∷ 0x06 ∷ 0x00 ∷ 0x02 ∷ 0x08 ∷ 0x03 ∷ 0xC1 ∷ 0xC2 ∷ 0xC0 ∷ [])

-- the empty loop is accepted
empty : loop_read Edition2015 [] ≡ record { outcome = Ok tt; count = 0; entries = pad_to 201 blank_entry [] }
empty = refl

-- 4 bytes: 2 at entry 0
four_bytes : loop_read Edition2015 (0x1B ∷ 0xE1 ∷ 0x00 ∷ 0xF0 ∷ []) ≡ refused_with (DoesNotFit 0)
four_bytes = refl

-- loop A is accepted in both readings
loop_a_2015 : (loop_read Edition2015 loop_a).outcome ≡ Ok tt
loop_a_2015 = refl

loop_a_2009 : (loop_read Edition2009 loop_a).outcome ≡ Ok tt
loop_a_2009 = refl

-- Two views and no hierarchy descriptor: an AVC stream on PID 256 and an MVC stream on PID 257, neither with a descriptor.
abbrev avc : List ℕ
avc = 0x1B ∷ 0xE1 ∷ 0x00 ∷ 0xF0 ∷ 0x00 ∷ []

abbrev mvc : List ℕ
mvc = 0x20 ∷ 0xE1 ∷ 0x01 ∷ 0xF0 ∷ 0x00 ∷ []

-- the same MVC stream with an HEVC hierarchy extension
abbrev mvc_extended : List ℕ
mvc_extended = 0x20 ∷ 0xE1 ∷ 0x01 ∷ 0xF0 ∷ 0x09 ∷ 0x3F ∷ 0x07 ∷ 0x06 ∷ 0x00 ∷ 0x02 ∷ 0x01 ∷ 0x00 ∷ 0xC0 ∷ 0xC0 ∷ []

-- an HEVC base layer of index 0 on PID 258, by a hierarchy descriptor
abbrev hevc_base : List ℕ
hevc_base = 0x24 ∷ 0xE1 ∷ 0x02 ∷ 0xF0 ∷ 0x06 ∷ 0x04 ∷ 0x04 ∷ 0xFF ∷ 0xC0 ∷ 0xFF ∷ 0xC0 ∷ []

-- an AVC stream on PID 256 with a hierarchy descriptor, the base layer of index 0
abbrev avc_base : List ℕ
avc_base = 0x1B ∷ 0xE1 ∷ 0x00 ∷ 0xF0 ∷ 0x06 ∷ 0x04 ∷ 0x04 ∷ 0xFF ∷ 0xC0 ∷ 0xFF ∷ 0xC0 ∷ []

-- an AVC stream on PID 259
abbrev another_avc : List ℕ
another_avc = 0x1B ∷ 0xE1 ∷ 0x03 ∷ 0xF0 ∷ 0x00 ∷ []

abbrev answered : ℕ → ℕ → Record → Entry
answered t pid r = record { stream_type = t; pid = pid; «record» = r; embedded = pad_to 63 no_layer [] }

-- accepted, with these entries
abbrev with_entries : List Entry → LoopRead
with_entries es = record { outcome = Ok tt; count = length es; entries = pad_to 201 blank_entry es }

-- each has the implied mark, in both readings and in either order
pair_2009 : loop_read Edition2009 (avc ++ mvc) ≡ with_entries (answered 0x1B 256 Implied ∷ answered 0x20 257 Implied ∷ [])
pair_2009 = refl

pair_2015 : loop_read Edition2015 (avc ++ mvc) ≡ with_entries (answered 0x1B 256 Implied ∷ answered 0x20 257 Implied ∷ [])
pair_2015 = refl

mvc_first_2009 : loop_read Edition2009 (mvc ++ avc) ≡ with_entries (answered 0x20 257 Implied ∷ answered 0x1B 256 Implied ∷ [])
mvc_first_2009 = refl

mvc_first_2015 : loop_read Edition2015 (mvc ++ avc) ≡ with_entries (answered 0x20 257 Implied ∷ answered 0x1B 256 Implied ∷ [])
mvc_first_2015 = refl

-- neither alone, nor two of a type
avc_alone : loop_read Edition2015 avc ≡ with_entries (answered 0x1B 256 NoRecord ∷ [])
avc_alone = refl

two_avc : loop_read Edition2015 (avc ++ (mvc ++ another_avc))
    ≡ with_entries (answered 0x1B 256 NoRecord ∷ answered 0x20 257 NoRecord ∷ answered 0x1B 259 NoRecord ∷ [])
two_avc = refl

-- a hierarchy descriptor on one of them: the other is no layer
one_described : get_or (loop_read Edition2015 (avc_base ++ mvc)).entries 1 blank_entry ≡ answered 0x20 257 NoRecord
one_described = refl

-- an extension: the 2009 reading skips it, and the 2015 reading refuses it with 6
extended_2009 : loop_read Edition2009 (avc ++ mvc_extended) ≡ with_entries (answered 0x1B 256 Implied ∷ answered 0x20 257 Implied ∷ [])
extended_2009 = refl

extended_2015 : loop_read Edition2015 (avc ++ mvc_extended) ≡ refused_with (TypeNotAllowed 1)
extended_2015 = refl

-- an HEVC base of index 0 beside them: 8 at the later of the two entries that hold the index; the 2009 reading does not know its type
base_after : loop_read Edition2015 (avc ++ (mvc ++ hevc_base)) ≡ refused_with (RepeatedLayerIndex 2)
base_after = refl

base_before : loop_read Edition2015 (hevc_base ++ (avc ++ mvc)) ≡ refused_with (RepeatedLayerIndex 1)
base_before = refl

base_between : loop_read Edition2015 (mvc ++ (hevc_base ++ avc)) ≡ refused_with (RepeatedLayerIndex 2)
base_between = refl

base_unknown : (loop_read Edition2009 (hevc_base ++ (avc ++ mvc))).outcome ≡ Ok tt
base_unknown = refl
