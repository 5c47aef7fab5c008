-- THE WORDS, pinned: document 01's tables over again, each as numbers, so that `vocabulary` cannot say something else.
-- Assumes nothing.
use Rattle.std.specs.Prelude.{ℕ, List, [], ◌∷◌, map, ◌≡◌, refl}
use Rattle.combinators.specs.Those.{those}
use Rattle.vocabulary.specs.declared.stream_types.Reading.TheVariants.{Edition2009, Edition2015}
use Rattle.vocabulary.specs.declared.refusal.Refusal.{Refusal}
use Rattle.vocabulary.specs.declared.refusal.Refusal.TheVariants.{LoopTooLong, DoesNotFit, RepeatedPid, WrongLength, SecondRecord, TypeNotAllowed, WrongFlags, RepeatedLayerIndex, WrongEmbeddedIndex, NoSuchLayer, EmbeddedLayerAbsent, OutOfRange, TimeOrderBroken, Unpaired, UsedTwice, NoRoom, SpanTooWide, NotVideoHeader, NoPts, FieldsDoNotFit, WrongMarker, PtsBeforeDts, TooWide, LostSync, CounterGap, OutsidePacket, Scrambled, PointsDoNotFit, ReservedEsCount, UnknownReference, NotStereoSet, WrongMvcExtension, RangesMeet}
use Rattle.vocabulary.specs.Refusals.{number_of, place_of}
use Rattle.vocabulary.specs.StreamTypes.{known, may_stand_on}

-- a line of the table 'Refusal numbers': its number, its place, and the case
pub record Line : Type 0 where
  pub number : ℕ
  pub place : ℕ
  pub refusal : Refusal

abbrev pub line : ℕ → ℕ → Refusal → Line
line number place refusal = record { number = number; place = place; refusal = refusal }

-- the table, for a place p: an entry, an index or a row
abbrev pub refusal_table : ℕ → List Line
refusal_table p =
    -- 'loop longer than 1,008 bytes'
    line 1 0 LoopTooLong
    -- 'an entry or a descriptor doesn't fit in the bytes that hold it'
    ∷ line 2 p (DoesNotFit p)
    -- 'a PID seen in an earlier entry'
    ∷ line 3 p (RepeatedPid p)
    -- 'on a known stream, tag 4 with length not 4, or the extension with another length than its count demands'
    ∷ line 4 p (WrongLength p)
    -- 'two hierarchy records on one known stream'
    ∷ line 5 p (SecondRecord p)
    -- 'type not allowed on this stream'
    ∷ line 6 p (TypeNotAllowed p)
    -- 'type 9 with a flag at 0, or more than one flag at 0 and type not 8'
    ∷ line 7 p (WrongFlags p)
    -- 'a layer index held by an earlier layer'
    ∷ line 8 p (RepeatedLayerIndex p)
    -- 'an embedded index not below the layer's own, or listed twice'
    ∷ line 9 p (WrongEmbeddedIndex p)
    -- 'no layer with the target index'
    ∷ line 11 0 NoSuchLayer
    -- 'a layer in the closure is not in the loop': 'lowest missing index'
    ∷ line 12 p (EmbeddedLayerAbsent (record { 0 = p }))
    -- 'row columns of unequal length, more than 512 rows (place 0), or a row out of range'
    ∷ line 13 p (OutOfRange p)
    -- 'time order broken in a closure layer'
    ∷ line 14 p (TimeOrderBroken p)
    -- 'a target row has no assembly'
    ∷ line 15 p (Unpaired p)
    -- 'a row would stand in two units': 'later target row'
    ∷ line 16 p (UsedTwice p)
    -- 'output room too small'
    ∷ line 17 0 NoRoom
    -- W-204: 'when the distances of closure rows from that first row span 2^32 or more'
    ∷ line 18 0 SpanTooWide
    -- 'not a video PES header'
    ∷ line 20 0 NotVideoHeader
    -- 'PTS_DTS_flags is 00 or 01'
    ∷ line 21 0 NoPts
    -- 'flagged fields don't fit PES_header_data_length or their own length byte'
    ∷ line 22 0 FieldsDoNotFit
    -- 'a marker or prefix bit of PTS, DTS, TREF or the extension length is wrong'
    ∷ line 23 0 WrongMarker
    -- 'PTS lies before DTS'
    ∷ line 24 0 PtsBeforeDts
    -- 'a value to be written is too wide for its field'
    ∷ line 25 0 TooWide
    -- W-202: 'lost sync'
    ∷ line 30 p (LostSync p)
    -- 'counter gap without a discontinuity indicator'
    ∷ line 31 p (CounterGap p)
    -- 'an adaptation field, or a PES header (9 bytes and its data), not within its packet'
    ∷ line 32 p (OutsidePacket p)
    -- 'scrambled payload'
    ∷ line 33 p (Scrambled p)
    -- W-205: 'a descriptor whose fields don't fill its length exactly or that runs past its loop, or a loop over 1,008 bytes'
    ∷ line 40 0 PointsDoNotFit
    -- 'a reserved ES_count'
    ∷ line 41 0 ReservedEsCount
    -- 'a reference, or a dependency to be prepended, that is no layer of the loop'
    ∷ line 42 0 UnknownReference
    -- W-211: 'not these two layers'
    ∷ line 44 0 NotStereoSet
    -- 'the descriptor missing, doubled or of another length than its layout'
    ∷ line 45 0 WrongMvcExtension
    -- 'a range whose least exceeds its greatest, or ranges that meet'
    ∷ line 46 0 RangesMeet
    ∷ []

-- the known types but 0x20
abbrev pub others : List ℕ
others = 0x1B ∷ 0x1F ∷ 0x24 ∷ 0x25 ∷ 0x28 ∷ 0x29 ∷ 0x2A ∷ 0x2B ∷ []

pub record WordsPinned : Type 0 where
  pub numbers : (p : ℕ) → map (λ (l : Line). number_of l.refusal) (refusal_table p) ≡ map (λ (l : Line). l.number) (refusal_table p)
  pub places : (p : ℕ) → map (λ (l : Line). place_of l.refusal) (refusal_table p) ≡ map (λ (l : Line). l.place) (refusal_table p)
  -- 'Streams read for layers', of all 256
  pub known_in_2009 : those (known Edition2009) 256 ≡ 0x1B ∷ 0x1F ∷ 0x20 ∷ []
  pub known_in_2015 : those (known Edition2015) 256 ≡ 0x1B ∷ 0x1F ∷ 0x20 ∷ 0x24 ∷ 0x25 ∷ 0x28 ∷ 0x29 ∷ 0x2A ∷ 0x2B ∷ []
  -- 'Hierarchy types by stream': of all 256 the streams that each type may stand on
  pub zero_on_none : those (may_stand_on 0) 256 ≡ []
  pub one_to_eight : map (λ (t : ℕ). those (may_stand_on t) 256) (1 ∷ 2 ∷ 3 ∷ 4 ∷ 5 ∷ 6 ∷ 7 ∷ 8 ∷ [])
      ≡ others ∷ others ∷ others ∷ others ∷ others ∷ others ∷ others ∷ others ∷ []
  pub nine : those (may_stand_on 9) 256 ≡ 0x20 ∷ []
  pub ten_to_fourteen : map (λ (t : ℕ). those (may_stand_on t) 256) (10 ∷ 11 ∷ 12 ∷ 13 ∷ 14 ∷ []) ≡ [] ∷ [] ∷ [] ∷ [] ∷ [] ∷ []
  pub fifteen : those (may_stand_on 15) 256 ≡ 0x1B ∷ 0x24 ∷ []

pub words_pinned : WordsPinned
words_pinned =
    record {
      numbers = λ p. refl;
      places = λ p. refl;
      known_in_2009 = refl;
      known_in_2015 = refl;
      zero_on_none = refl;
      one_to_eight = refl;
      nine = refl;
      ten_to_fourteen = refl;
      fifteen = refl;
    }
