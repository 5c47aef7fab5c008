-- What holds of the number of every refusal: it is one of those that the documents list. So 10, which W-206 withdrew, is none, and each fits a byte.
-- Assumes nothing.
use Prim.Native.Nat.{ℕ, ◌<◌}
use mathlib.Core.Bool.{true, false, true≢false}
use mathlib.Core.List.{List, [], ◌∷◌}
use mathlib.Core.Path.{◌≡◌, refl, sym, ◌∙◌, ap}
use native.Mathlib.Omega.{arith}
use native.Mathlib.Decide.{dec_lt}
use Rattle.combinators.specs.Members.{member, past_member}
use Rattle.vocabulary.specs.declared.refusal.Refusal.{Refusal}
use Rattle.vocabulary.specs.declared.refusal.Refusal.TheVariants.{LoopTooLong, DoesNotFit, RepeatedPid, WrongLength, SecondRecord, TypeNotAllowed, WrongFlags, RepeatedLayerIndex, WrongEmbeddedIndex, NoSuchLayer, EmbeddedLayerAbsent, OutOfRange, TimeOrderBroken, Unpaired, UsedTwice, NoRoom, SpanTooWide, NotVideoHeader, NoPts, FieldsDoNotFit, WrongMarker, PtsBeforeDts, TooWide, LostSync, CounterGap, OutsidePacket, Scrambled, PointsDoNotFit, ReservedEsCount, UnknownReference, NotStereoSet, WrongMvcExtension, RangesMeet}
use Rattle.vocabulary.specs.Refusals.{number_of}

-- the column 'No.' of document 01, and what document 02 adds
abbrev pub numbers_listed : List ℕ
numbers_listed =
    1 ∷ 2 ∷ 3 ∷ 4 ∷ 5 ∷ 6 ∷ 7 ∷ 8 ∷ 9 ∷ 11 ∷ 12 ∷ 13 ∷ 14 ∷ 15 ∷ 16 ∷ 17 ∷ 18 ∷ 20 ∷ 21 ∷ 22 ∷ 23 ∷ 24 ∷ 25 ∷ 30 ∷ 31 ∷ 32 ∷ 33 ∷ 40 ∷ 41 ∷ 42 ∷ 44 ∷ 45 ∷ 46 ∷ []

pub number_listed : (refusal : Refusal) → member (number_of refusal) numbers_listed ≡ true
number_listed LoopTooLong = refl
number_listed (DoesNotFit place) = refl
number_listed (RepeatedPid place) = refl
number_listed (WrongLength place) = refl
number_listed (SecondRecord place) = refl
number_listed (TypeNotAllowed place) = refl
number_listed (WrongFlags place) = refl
number_listed (RepeatedLayerIndex place) = refl
number_listed (WrongEmbeddedIndex place) = refl
number_listed NoSuchLayer = refl
number_listed (EmbeddedLayerAbsent index) = refl
number_listed (OutOfRange place) = refl
number_listed (TimeOrderBroken place) = refl
number_listed (Unpaired place) = refl
number_listed (UsedTwice place) = refl
number_listed NoRoom = refl
number_listed SpanTooWide = refl
number_listed NotVideoHeader = refl
number_listed NoPts = refl
number_listed FieldsDoNotFit = refl
number_listed WrongMarker = refl
number_listed PtsBeforeDts = refl
number_listed TooWide = refl
number_listed (LostSync place) = refl
number_listed (CounterGap place) = refl
number_listed (OutsidePacket place) = refl
number_listed (Scrambled place) = refl
number_listed PointsDoNotFit = refl
number_listed ReservedEsCount = refl
number_listed UnknownReference = refl
number_listed NotStereoSet = refl
number_listed WrongMvcExtension = refl
number_listed RangesMeet = refl

-- a number that is not listed is that of no refusal
pub not_listed : (number : ℕ) → member number numbers_listed ≡ false → (refusal : Refusal) → number_of refusal ≡ number → ⊥
not_listed number e refusal is =
    true≢false (sym (number_listed refusal) ∙ ap (λ (n : ℕ). member n numbers_listed) is ∙ e)

pub number_small : (refusal : Refusal) → number_of refusal < 256
number_small refusal = go (dec_lt (number_of refusal) 256)
  where
    go : Dec (number_of refusal < 256) → number_of refusal < 256
    go (yes h) = h
    go (no h) =
        absurd (true≢false (sym (number_listed refusal) ∙ past_member 256 numbers_listed refl (number_of refusal) (omega arith)))
