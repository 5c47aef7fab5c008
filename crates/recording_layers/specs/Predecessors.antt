-- 'ITS PREDECESSOR ON THAT PID', said of PIDs. The reading of a recording keeps the last packet of each layer (`recordings/specs/Meaning.antt`); for the layers of a
-- loop that is the last packet on the layer's PID.
-- Assumes nothing.
use Rattle.std.specs.Prelude.{ℕ, ◌<◌, ◌≡◌, List, [], map, ◌↔◌}
use Rattle.combinators.specs.Lists.{Nth}
use Rattle.framing.specs.Pieces.{Item, whole}
use Rattle.vocabulary.specs.declared.stream_types.Reading.TheVariants.{Edition2015}
use Rattle.loop_entries.specs.declared.Stream.{Stream}
use Rattle.loop_entries.specs.Entries.{entry_of}
use Rattle.es_loop.specs.Reading.{accepted}
use Rattle.es_loop.specs.Meaning as Loop
use Rattle.packets.specs.Reading.{in_header}
use Rattle.packets.specs.Meaning.{LostSync, Skipped}
use Rattle.recordings.specs.Meaning.{Predecessor}
use Rattle.recording_layers.specs.Meaning.{loop_pids, LayerOfPid}

module _ (packets : List Item) where
  -- A packet that counts on a PID: in sync, of this PID, and not skipped whole.
  pub record CountsOn (k pid : ℕ) (packet : List ℕ) : Type 0 where
    pub rest : List ℕ
    pub stands : Nth packets k (whole packet rest)
    pub in_sync : LostSync packet → ⊥
    pub its_pid : in_header "PID" packet ≡ pid
    pub read : Skipped packet → ⊥

  -- 'its predecessor on that PID', and 'the first packet on a PID has no predecessor'
  pub data PredecessorOn (k pid : ℕ) : List ℕ → Type 0 where
    none : ((j : ℕ) (q : List ℕ) → j < k → CountsOn j pid q → ⊥) → PredecessorOn k pid []
    last : {j : ℕ} {q : List ℕ} → j < k → CountsOn j pid q → ((i : ℕ) (p : List ℕ) → j < i → i < k → CountsOn i pid p → ⊥) → PredecessorOn k pid q

-- THE STATEMENT: of the layers of every loop that the 2015 reading accepts, in whatever recording.
abbrev pub ByPidOrByLayer : Type 0
ByPidOrByLayer =
    (bytes : List ℕ) (streams : List Stream) → Loop.Answers Edition2015 bytes (accepted streams)
    → (pid index : ℕ) → LayerOfPid (map entry_of streams) pid index
    → (packets : List Item) (k : ℕ) (before : List ℕ) → Predecessor (loop_pids bytes) packets k index before ↔ PredecessorOn packets k pid before
