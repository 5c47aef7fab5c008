-- `vocabulary::number` meets its contract: which case was matched says which number it has.
-- Assumes nothing.
use mathlib.Core.Path.{ap, sym}
use Rattle.vocabulary.specs.Refusals.{number_of}
use Rattle.vocabulary.proofs.refusal.number.Goals as goal

pub returns-in-LoopTooLong : goal.returns-in-LoopTooLong
returns-in-LoopTooLong c = sym (ap number_of c.in-LoopTooLong.is)

pub returns-in-DoesNotFit : goal.returns-in-DoesNotFit
returns-in-DoesNotFit c = sym (ap number_of c.in-DoesNotFit.is)

pub returns-in-RepeatedPid : goal.returns-in-RepeatedPid
returns-in-RepeatedPid c = sym (ap number_of c.in-RepeatedPid.is)

pub returns-in-WrongLength : goal.returns-in-WrongLength
returns-in-WrongLength c = sym (ap number_of c.in-WrongLength.is)

pub returns-in-SecondRecord : goal.returns-in-SecondRecord
returns-in-SecondRecord c = sym (ap number_of c.in-SecondRecord.is)

pub returns-in-TypeNotAllowed : goal.returns-in-TypeNotAllowed
returns-in-TypeNotAllowed c = sym (ap number_of c.in-TypeNotAllowed.is)

pub returns-in-WrongFlags : goal.returns-in-WrongFlags
returns-in-WrongFlags c = sym (ap number_of c.in-WrongFlags.is)

pub returns-in-RepeatedLayerIndex : goal.returns-in-RepeatedLayerIndex
returns-in-RepeatedLayerIndex c = sym (ap number_of c.in-RepeatedLayerIndex.is)

pub returns-in-WrongEmbeddedIndex : goal.returns-in-WrongEmbeddedIndex
returns-in-WrongEmbeddedIndex c = sym (ap number_of c.in-WrongEmbeddedIndex.is)

pub returns-in-NoSuchLayer : goal.returns-in-NoSuchLayer
returns-in-NoSuchLayer c = sym (ap number_of c.in-NoSuchLayer.is)

pub returns-in-EmbeddedLayerAbsent : goal.returns-in-EmbeddedLayerAbsent
returns-in-EmbeddedLayerAbsent c = sym (ap number_of c.in-EmbeddedLayerAbsent.is)

pub returns-in-OutOfRange : goal.returns-in-OutOfRange
returns-in-OutOfRange c = sym (ap number_of c.in-OutOfRange.is)

pub returns-in-TimeOrderBroken : goal.returns-in-TimeOrderBroken
returns-in-TimeOrderBroken c = sym (ap number_of c.in-TimeOrderBroken.is)

pub returns-in-Unpaired : goal.returns-in-Unpaired
returns-in-Unpaired c = sym (ap number_of c.in-Unpaired.is)

pub returns-in-UsedTwice : goal.returns-in-UsedTwice
returns-in-UsedTwice c = sym (ap number_of c.in-UsedTwice.is)

pub returns-in-NoRoom : goal.returns-in-NoRoom
returns-in-NoRoom c = sym (ap number_of c.in-NoRoom.is)

pub returns-in-SpanTooWide : goal.returns-in-SpanTooWide
returns-in-SpanTooWide c = sym (ap number_of c.in-SpanTooWide.is)

pub returns-in-NotVideoHeader : goal.returns-in-NotVideoHeader
returns-in-NotVideoHeader c = sym (ap number_of c.in-NotVideoHeader.is)

pub returns-in-NoPts : goal.returns-in-NoPts
returns-in-NoPts c = sym (ap number_of c.in-NoPts.is)

pub returns-in-FieldsDoNotFit : goal.returns-in-FieldsDoNotFit
returns-in-FieldsDoNotFit c = sym (ap number_of c.in-FieldsDoNotFit.is)

pub returns-in-WrongMarker : goal.returns-in-WrongMarker
returns-in-WrongMarker c = sym (ap number_of c.in-WrongMarker.is)

pub returns-in-PtsBeforeDts : goal.returns-in-PtsBeforeDts
returns-in-PtsBeforeDts c = sym (ap number_of c.in-PtsBeforeDts.is)

pub returns-in-TooWide : goal.returns-in-TooWide
returns-in-TooWide c = sym (ap number_of c.in-TooWide.is)

pub returns-in-LostSync : goal.returns-in-LostSync
returns-in-LostSync c = sym (ap number_of c.in-LostSync.is)

pub returns-in-CounterGap : goal.returns-in-CounterGap
returns-in-CounterGap c = sym (ap number_of c.in-CounterGap.is)

pub returns-in-OutsidePacket : goal.returns-in-OutsidePacket
returns-in-OutsidePacket c = sym (ap number_of c.in-OutsidePacket.is)

pub returns-in-Scrambled : goal.returns-in-Scrambled
returns-in-Scrambled c = sym (ap number_of c.in-Scrambled.is)

pub returns-in-PointsDoNotFit : goal.returns-in-PointsDoNotFit
returns-in-PointsDoNotFit c = sym (ap number_of c.in-PointsDoNotFit.is)

pub returns-in-ReservedEsCount : goal.returns-in-ReservedEsCount
returns-in-ReservedEsCount c = sym (ap number_of c.in-ReservedEsCount.is)

pub returns-in-UnknownReference : goal.returns-in-UnknownReference
returns-in-UnknownReference c = sym (ap number_of c.in-UnknownReference.is)

pub returns-in-NotStereoSet : goal.returns-in-NotStereoSet
returns-in-NotStereoSet c = sym (ap number_of c.in-NotStereoSet.is)

pub returns-in-WrongMvcExtension : goal.returns-in-WrongMvcExtension
returns-in-WrongMvcExtension c = sym (ap number_of c.in-WrongMvcExtension.is)

pub returns-in-RangesMeet : goal.returns-in-RangesMeet
returns-in-RangesMeet c = sym (ap number_of c.in-RangesMeet.is)
