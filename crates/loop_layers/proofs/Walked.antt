-- THE SECOND WALK through the bytes of a loop that was accepted: where it stands, what it finds there, and that what was laid out so far, continued
-- over the entries that are left, is the answer.
-- Assumes nothing.
use Rattle.es_loop.specs.Answer.{entries_judged}
use Prim.Native.Nat.{ℕ, ◌+◌, ◌-◌, ◌≤◌, ◌<◌}
use mathlib.Core.Path.{◌≡◌, refl, sym, ◌∙◌, ap}
use mathlib.Core.Bool.{Bool}
use mathlib.Core.List.{List, [], ◌∷◌, map}
use native.Mathlib.Decide.{dec_lt}
use native.Mathlib.Omega.{arith}
use borrow.Author.Tests.{lt-ltb, le-ltb}
use lib.ListN.{length, get_or, set, take, drop, replicate, length-replicate, drop_of_length-le}
use lib.Seq.{length-take-le, set_out}
use Rattle.combinators.specs.Lists.{part_to_end}
use Rattle.framing.specs.Pieces.{whole}
use Rattle.syntax.specs.Table.{AreBytes}
use Rattle.vocabulary.specs.declared.stream_types.Reading.{Reading}
use Rattle.sets.specs.Sets.{added}
use Rattle.records.specs.Records.{with_indices, channel_of}
use Rattle.loop_entries.specs.declared.Entry.{Entry}
use Rattle.loop_entries.specs.declared.Stream.{Stream}
use Rattle.loop_entries.specs.Entries.{size_of, stream_of, marked_stream, streams_of, entry_of}
use Rattle.es_loop.specs.Reading.{verdict_of}
use Rattle.es_loop.proofs.Verdicts.{Sound, sound}
use Rattle.loop_entries.proofs.Heads.{stream_bytes}
use Rattle.loop_entries.proofs.Front.{left_at, left_long}
use Rattle.es_loop.proofs.Walk.{rest_of, Cursor, cursor_start, size_5, size_fits, marked_front, next_here}
use Rattle.closure.specs.declared.Layers.{Layers}
use Rattle.loop_layers.specs.declared.table.LayerTable.{LayerTable}
use Rattle.loop_layers.specs.Layers.{place_of, column_with, column_of, embedded_in, layers_of, table_of, put_at, with_entry}
use Rattle.loop_layers.proofs.Columns.{column_length}

-- ---- what was laid out so far, continued over more entries

abbrev pub layers_with : Layers → List Entry → Layers
layers_with layers es =
    record { present = with_indices layers.present (map place_of es); embedded = column_with embedded_in layers.embedded es }

abbrev pub table_with : LayerTable → List Entry → LayerTable
table_with table es =
    record {
      layers = layers_with table.layers es;
      pids = column_with (λ e. e.pid) table.pids es;
      stream_types = column_with (λ e. e.stream_type) table.stream_types es;
      channels = column_with (λ e. channel_of e.«record») table.channels es;
    }

-- A column that comes to one of 64 places has as many, and what is put there, is.
pub column_put : {A : Type 0} (value : Entry → A) (column : List A) (e : Entry) (es all : List Entry) (blank : A)
    → column_with value column (e ∷ es) ≡ column_of blank value all → put_at column (place_of e) (value e) ≡ set column (place_of e) (value e)
column_put value column e es all blank inv = go (dec_lt (place_of e) 64)
  where
    long : length column ≡ 64
    long =
        sym (column_length value column (e ∷ es)) ∙ ap length inv ∙ column_length value (replicate 64 blank) all ∙ length-replicate 64 blank

    go : Dec (place_of e < 64) → put_at column (place_of e) (value e) ≡ set column (place_of e) (value e)
    go (yes h) = rw (lt-ltb (place_of e) 64 h)
    go (no h) = rw (le-ltb (place_of e) 64 (omega arith)) (sym (set_out column (place_of e) (value e) (omega (arith, long))))

-- One entry more, with the values that the code holds.
pub layers_next : (layers : Layers) (e : Entry) (es all : List Entry) → layers_with layers (e ∷ es) ≡ layers_of all → (names present : ℕ) (embedded : List ℕ)
    → names ≡ embedded_in e → present ≡ added layers.present (place_of e) → embedded ≡ put_at layers.embedded (place_of e) names
    → layers_with (record { present = present; embedded = embedded }) es ≡ layers_of all
layers_next layers e es all inv names present embedded is-names is-present is-embedded =
    rw (is-present, is-embedded, is-names, column_put embedded_in layers.embedded e es all 0 (ap (λ (l : Layers). l.embedded) inv)) inv

pub table_next : (table after : LayerTable) (e : Entry) (es all : List Entry) → table_with table (e ∷ es) ≡ table_of all → after ≡ with_entry table e
    → table_with after es ≡ table_of all
table_next table after e es all inv is_after =
    rw (
      is_after,
      column_put embedded_in table.layers.embedded e es all 0 (ap (λ (t : LayerTable). t.layers.embedded) inv),
      column_put (λ e. e.pid) table.pids e es all 0 (ap (λ (t : LayerTable). t.pids) inv),
      column_put (λ e. e.stream_type) table.stream_types e es all 0 (ap (λ (t : LayerTable). t.stream_types) inv),
      column_put (λ e. channel_of e.«record») table.channels e es all (record { 0 = 0 }) (ap (λ (t : LayerTable). t.channels) inv),
    )
    inv

-- ---- the walk through the bytes

module _ (reading : Reading) (bytes : List ℕ) where
  -- Where the walk stands: before the byte `at`, after some of the entries.
  pub record Standing (at : ℕ) : Type 0 where
    pub count : ℕ
    pub cursor : Cursor reading bytes count at

  pub standing_first : Standing 0
  standing_first = record { count = 0; cursor = cursor_start reading bytes }

  -- a loop that was accepted has all its entries
  pub counted_verdict : {total : ℕ} {pair : Bool} → verdict_of reading bytes ≡ entries_judged total pair
      → verdict_of reading bytes ≡ entries_judged (length (streams_of reading bytes)) pair
  counted_verdict {total} {pair} e = e ∙ ap (λ (n : ℕ). entries_judged n pair) (sound reading bytes total pair e).counted

  -- the entries that are left, with the marks of the whole loop
  abbrev pub left_from : ℕ → List Entry
  left_from at = map entry_of (rest_of reading bytes (drop at bytes))

  -- the bytes of the entry that stands there, and what is read of it
  abbrev pub bytes_at : ℕ → ℕ → List ℕ
  bytes_at at size = take size (left_at reading bytes at)

  abbrev pub stream_from : Bool → ℕ → ℕ → Stream
  stream_from pair at size = marked_stream pair (stream_of reading (whole (take 5 (bytes_at at size)) (drop 5 (bytes_at at size))))

  -- its type is the first of them
  pub type_there : (pair : Bool) (at size : ℕ) → AreBytes (bytes_at at size) → get_or (bytes_at at size) 0 0 ≡ (stream_from pair at size).stream_type
  type_there pair at size b = ap (λ (s : Stream). s.stream_type) (stream_bytes reading (bytes_at at size) b)

  -- What the walk finds: a whole entry, and the place after it.
  pub record Turn (pair : Bool) (at size : ℕ) : Type 0 where
    pub short : length bytes ≤ 1008
    pub large : 5 ≤ size
    pub long : length (left_at reading bytes at) ≡ length bytes - at
    pub room : size ≤ length (left_at reading bytes at)
    pub whole_long : length (bytes_at at size) ≡ size
    pub front : left_from at ≡ entry_of (stream_from pair at size) ∷ left_from (at + size)
    pub next : Standing (at + size)

  pub turn : {total : ℕ} {pair : Bool} → verdict_of reading bytes ≡ entries_judged total pair → (at : ℕ) → Standing at → at < length bytes → (size : ℕ)
      → size ≡ size_of (left_at reading bytes at) → Turn pair at size
  turn {total} {pair} accepted at standing more size is-size =
      let count : ℕ = standing.count in
      let cursor = standing.cursor in
      let is_sound : Sound reading bytes total pair = sound reading bytes total pair accepted in
      let long : length (left_at reading bytes at) ≡ length bytes - at = left_long reading bytes at in
      let room : size ≤ length (left_at reading bytes at) = size_fits reading bytes total pair is_sound count at cursor more size is-size in
      record {
        short = is_sound.short;
        large = size_5 reading bytes count at cursor more size is-size;
        long = long;
        room = room;
        whole_long = length-take-le size (left_at reading bytes at) room;
        front =
            ap (map entry_of)
            (sym cursor.rest ∙ marked_front reading bytes (left_at reading bytes at) at (part_to_end bytes at) (omega arith) count cursor.rest size is-size room pair is_sound.paired (stream_from pair at size) refl);
        next = record { count = count + 1; cursor = next_here reading bytes count at cursor more size is-size room pair is_sound.paired (stream_from pair at size) refl };
      }

  -- After the last entry none is left.
  pub none_left : (at : ℕ) → length bytes ≤ at → left_from at ≡ []
  none_left at done = ap (λ (l : List ℕ). map entry_of (rest_of reading bytes l)) (drop_of_length-le bytes done)
