-- The refusals of document 01, 'Refusal numbers': which number and which place each named case has.
-- Assumes nothing.
use Rattle.std.specs.Prelude.{ℕ}
use Rattle.vocabulary.specs.declared.refusal.Refusal.{Refusal}
use Rattle.vocabulary.specs.declared.refusal.Refusal.TheVariants.{LoopTooLong, DoesNotFit, RepeatedPid, WrongLength, SecondRecord, TypeNotAllowed, WrongFlags, RepeatedLayerIndex, WrongEmbeddedIndex, NoSuchLayer, EmbeddedLayerAbsent, OutOfRange, TimeOrderBroken, Unpaired, UsedTwice, NoRoom, SpanTooWide, NotVideoHeader, NoPts, FieldsDoNotFit, WrongMarker, PtsBeforeDts, TooWide, LostSync, CounterGap, OutsidePacket, Scrambled, PointsDoNotFit, ReservedEsCount, UnknownReference, NotStereoSet, WrongMvcExtension, RangesMeet}

-- the column 'No.'
abbrev pub number_of : Refusal → ℕ
number_of LoopTooLong = 1
number_of (DoesNotFit entry) = 2
number_of (RepeatedPid entry) = 3
number_of (WrongLength entry) = 4
number_of (SecondRecord entry) = 5
number_of (TypeNotAllowed entry) = 6
number_of (WrongFlags entry) = 7
number_of (RepeatedLayerIndex entry) = 8
number_of (WrongEmbeddedIndex entry) = 9
number_of NoSuchLayer = 11
number_of (EmbeddedLayerAbsent index) = 12
number_of (OutOfRange row) = 13
number_of (TimeOrderBroken row) = 14
number_of (Unpaired row) = 15
number_of (UsedTwice row) = 16
number_of NoRoom = 17
number_of SpanTooWide = 18
number_of NotVideoHeader = 20
number_of NoPts = 21
number_of FieldsDoNotFit = 22
number_of WrongMarker = 23
number_of PtsBeforeDts = 24
number_of TooWide = 25
number_of (LostSync packet) = 30
number_of (CounterGap packet) = 31
number_of (OutsidePacket packet) = 32
number_of (Scrambled packet) = 33
number_of PointsDoNotFit = 40
number_of ReservedEsCount = 41
number_of UnknownReference = 42
number_of NotStereoSet = 44
number_of WrongMvcExtension = 45
number_of RangesMeet = 46

-- the column 'Place', and 0 where it names none
abbrev pub place_of : Refusal → ℕ
place_of LoopTooLong = 0
place_of (DoesNotFit entry) = entry
place_of (RepeatedPid entry) = entry
place_of (WrongLength entry) = entry
place_of (SecondRecord entry) = entry
place_of (TypeNotAllowed entry) = entry
place_of (WrongFlags entry) = entry
place_of (RepeatedLayerIndex entry) = entry
place_of (WrongEmbeddedIndex entry) = entry
place_of NoSuchLayer = 0
place_of (EmbeddedLayerAbsent index) = index.0
place_of (OutOfRange row) = row
place_of (TimeOrderBroken row) = row
place_of (Unpaired row) = row
place_of (UsedTwice row) = row
place_of NoRoom = 0
place_of SpanTooWide = 0
place_of NotVideoHeader = 0
place_of NoPts = 0
place_of FieldsDoNotFit = 0
place_of WrongMarker = 0
place_of PtsBeforeDts = 0
place_of TooWide = 0
place_of (LostSync packet) = packet
place_of (CounterGap packet) = packet
place_of (OutsidePacket packet) = packet
place_of (Scrambled packet) = packet
place_of PointsDoNotFit = 0
place_of ReservedEsCount = 0
place_of UnknownReference = 0
place_of NotStereoSet = 0
place_of WrongMvcExtension = 0
place_of RangesMeet = 0
