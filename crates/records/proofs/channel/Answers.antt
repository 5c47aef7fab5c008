-- `records::channel` meets its contract: which arm was taken says where the channel stands.
-- Assumes nothing.
use mathlib.Core.Logic.{inl, inr}
use mathlib.Core.Path.{ap, sym}
use Rattle.records.specs.Records.{channel_of}
use Rattle.records.proofs.channel.Goals as goal

pub returns-in-NoRecord : goal.returns-in-NoRecord
returns-in-NoRecord c = elim c.in-NoRecord.is [ inl e ↦ sym (ap channel_of e) | inr e ↦ sym (ap channel_of e) ]
