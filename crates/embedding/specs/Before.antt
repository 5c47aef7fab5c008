-- What the reading and the writing of a loop before W-206 had that those of now have not: refusal 10.
-- Assumes nothing.
use Rattle.std.specs.Prelude.{ℕ, ◌<◌}
use Rattle.extension.specs.declared.ExtensionRecord.{ExtensionRecord}
use Rattle.records.specs.declared.Record.{Record}
use Rattle.records.specs.declared.Record.TheVariants.{Extension}

-- 10: 'more than 8 embedded layers'
pub data MoreThan8 : Record → Type 0 where
  more_than_8 : {x : ExtensionRecord} → 8 < x.num_embedded_layers → MoreThan8 (Extension x)

-- An answer of before: a refusal by its number and its place, since 10 is the number of no refusal of now; or what was accepted.
pub data Told (A : Type 0) : Type 0 where
  refused : (number place : ℕ) → Told A
  accepted : A → Told A
