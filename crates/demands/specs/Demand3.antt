-- DEMAND 3. 'Take any loop that the 2015 reading accepts, with any target layer, row table and output room. If every stream the target rests on,
-- itself included, has a 2009 stream type, the 2009 reading gives the identical answer. Otherwise, or if the 2015 reading finds no complete set
-- of layers, the 2009 reading refuses with "no such layer" or "embedded layer absent", for every content of the row table and every output
-- room.'
--
-- The words are those of `agreement/specs/Meaning.antt`: the answer is the one of demand 2's import, in each reading, so that two importers
-- which merely agree with each other do not meet it.
-- Assumes nothing.
use Rattle.std.specs.Prelude.{ℕ, List, map, ◌⊎◌}
use Rattle.vocabulary.specs.declared.stream_types.Reading.TheVariants.{Edition2009, Edition2015}
use Rattle.loop_entries.specs.declared.Entry.{Entry}
use Rattle.closure.specs.declared.Layers.{Layers}
use Rattle.loop_layers.specs.Layers.{layers_of}
use Rattle.agreement.specs.Records.{entry_in2009}
use Rattle.agreement.specs.Meaning.{Accepts, Every2009, Otherwise, Agrees}
use Rattle.agreement.proofs.Agreement.{accepted_too, agreement, one_or_other}

-- Of every loop that the 2015 reading accepts, with its entries and their layers:
pub record Demand3 : Type 0 where
  -- the answer is identical, or the 2009 reading refuses with 11 or 12
  pub agrees : {bytes : List ℕ} {entries : List Entry} {layers : Layers} → Accepts Edition2015 bytes entries layers → (target : ℕ)
      → Agrees bytes entries layers target
  -- every target is of one of the two kinds
  pub one_or_the_other : {bytes : List ℕ} {entries : List Entry} {layers : Layers} → Accepts Edition2015 bytes entries layers → (target : ℕ)
      → Every2009 entries layers target ⊎ Otherwise entries layers target
  -- and the 2009 reading accepts the loop, with the entries that `entry_in2009` says
  pub accepted_in_2009 : {bytes : List ℕ} {entries : List Entry} {layers : Layers} → Accepts Edition2015 bytes entries layers
      → Accepts Edition2009 bytes (map entry_in2009 entries) (layers_of (map entry_in2009 entries))

pub demand_3 : Demand3
demand_3 = record { agrees = agreement; one_or_the_other = one_or_other; accepted_in_2009 = accepted_too }
