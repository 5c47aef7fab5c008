-- W-209. 'For the joining of rows, take two tables with the same number of rows that agree on every row of the target's closure, where in both no row is out of
-- range and no row outside the closure in one is inside it in the other. Loop, target and output room are the same. Units, lags, refusal and place are the same.'
-- proofs/Leaks.antt has the proof.
-- Assumes nothing.
use Rattle.std.specs.Prelude.{ℕ, ◌<◌, List, map, ◌↔◌, ◌≡◌, length}
use Rattle.vocabulary.specs.declared.stream_types.Reading.{Reading}
use Rattle.loop_entries.specs.declared.Stream.{Stream}
use Rattle.loop_entries.specs.Entries.{entry_of}
use Rattle.es_loop.specs.Reading.{accepted}
use Rattle.es_loop.specs.Meaning as Loop
use Rattle.closure.specs.declared.Layers.{Layers}
use Rattle.loop_layers.specs.Meaning.{LayersOf}
use Rattle.rows.specs.Table.{Table, rows_in, layer_of, decoding_of, match_of}
use Rattle.rows.specs.Meaning.{NoRow, RowOutOfRange}
use Rattle.spans.specs.Meaning.{ClosureRow}
use Rattle.join_answers.specs.Answer.{Joined}
use Rattle.unit_lists.specs.Sequence.{Lists}
use Rattle.join_answers.specs.Meaning as Joining
use Rattle.importing.specs.Meaning as Import

-- 'the same number of rows', in each column
pub record SameNumber (t u : Table) : Type 0 where
  pub rows : rows_in t ≡ rows_in u
  pub decodings : length t.decodings ≡ length u.decodings
  pub matches : length t.matches ≡ length u.matches

-- Row k of one table is row k of the other: 'layer, decoding time, match time'.
pub record SameRow (t u : Table) (k : ℕ) : Type 0 where
  pub layer : layer_of t k ≡ layer_of u k
  pub decoding : decoding_of t k ≡ decoding_of u k
  pub matching : match_of t k ≡ match_of u k

-- 'no row outside the closure in one is inside it in the other'
abbrev pub StaysOutside : Layers → ℕ → Table → Table → Type 0
StaysOutside layers target t u = (k : ℕ) → k < rows_in t → (ClosureRow layers target t k → ⊥) → ClosureRow layers target u k → ⊥

-- Two tables that differ in rows of other layers alone.
pub record DifferOutside (layers : Layers) (target : ℕ) (t u : Table) : Type 0 where
  pub as_many : SameNumber t u
  pub agree : (k : ℕ) → ClosureRow layers target t k → SameRow t u k
  pub in_range : NoRow t (RowOutOfRange t)
  pub other_in_range : NoRow u (RowOutOfRange u)
  pub stays_outside : StaysOutside layers target t u
  pub other_stays_outside : StaysOutside layers target u t

-- THE STATEMENT of joining, for tables of any limit, and all that its answer comes with: what is right for one table is right for the other, the answer with its
-- units, or the refusal with its place, and the content of every list.
abbrev pub SameJoining : Type 0
SameJoining = (most : ℕ) (layers : Layers) (target : ℕ) (t u : Table) → DifferOutside layers target t u
    → (before : Lists) (answer : Joined) (after : Lists)
    → Joining.Answers most layers target t before answer after ↔ Joining.Answers most layers target u before answer after

-- The same of the whole import, from a loop's bytes, under either reading: of an accepted loop in its layers. (What a refused loop gives does not look at the table.)
abbrev pub SameImport : Type 0
SameImport = (reading : Reading) (bytes : List ℕ) (target : ℕ) (t u : Table)
    → ((streams : List Stream) (layers : Layers) → Loop.Answers reading bytes (accepted streams) → LayersOf (map entry_of streams) layers
    → DifferOutside layers target t u)
    → (before : Lists) (answer : Joined) (after : Lists)
    → Import.Answers reading bytes target t before answer after ↔ Import.Answers reading bytes target u before answer after
