-- A layer whose stream has a 2009 stream type. That these are the layers in the 2009 reading of a loop that the 2015 reading accepts stands in
-- proofs/Layers.antt.
-- Assumes nothing.
use Rattle.std.specs.Prelude.{ℕ, List}
use Rattle.loop_entries.specs.declared.Entry.{Entry}
use Rattle.loop_layers.specs.Meaning.{LayerAt}
use Rattle.agreement.specs.Meaning.{StreamType2009}

-- The entries have a layer of index i, and its stream has a 2009 stream type.
pub record HasType2009 (entries : List Entry) (i : ℕ) : Type 0 where
  pub place : ℕ
  pub entry : Entry
  pub layer : LayerAt entries place i entry
  pub type : StreamType2009 entry.stream_type
