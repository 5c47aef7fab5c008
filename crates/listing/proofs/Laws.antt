-- The cases of the lines, each given what its test says; and the room that the text needs.
-- Assumes nothing.
use Rattle.std.specs.Prelude.{Err, Ok}
use Prim.Native.Nat.{ℕ, ◌≤◌}
use mathlib.Core.Bool.{Bool, true, false, cond}
use mathlib.Core.List.{List, []}
use mathlib.Core.Path.{◌≡◌, sym, ap, ◌∙◌}
use native.Mathlib.Omega.{arith}
use lib.ListN.{get_or, length, take, length-append}
use Rattle.closure.specs.Answer.{Closure}
use Rattle.closure.specs.Closures.{closure_of}
use Rattle.sets.specs.Sets.{has, size}
use Rattle.text.specs.Text.{Laid, ascii, texts}
use Rattle.text.proofs.Laws.{decimal_length, texts_length, shown_whole}
use Rattle.vocabulary.specs.declared.HierarchyChannel.{HierarchyChannel}
use Rattle.vocabulary.specs.declared.LayerIndex.{LayerIndex}
use Rattle.vocabulary.specs.declared.refusal.Refusal.{Refusal}
use Rattle.vocabulary.specs.Refusals.{number_of, place_of}
use Rattle.es_loop.specs.Answer.{Outcome}
use Rattle.loop_layers.specs.declared.table.LayerTable.{LayerTable}
use Rattle.loop_layers.specs.Closures.{loop_table}
use Rattle.vocabulary.specs.declared.stream_types.Reading.{Reading}
use Rattle.listing.specs.Lines.{labelled, member, members, closure_text, layer_line, line_at, layers_text, accepted_text, refused_text, read_text, loop_text}

-- an index of a closure
pub member_there : (set i : ℕ) → has set i ≡ true → labelled (ascii " ") i ≡ member set i
member_there set i h = sym (ap (λ (b : Bool). cond b (labelled (ascii " ") i) []) h)

pub member_not_there : (set i : ℕ) → has set i ≡ false → [] ≡ member set i
member_not_there set i h = sym (ap (λ (b : Bool). cond b (labelled (ascii " ") i) []) h)

-- a layer of the table
module _ (table : LayerTable) (i : ℕ) where
  abbrev pub line : Closure → List ℕ
  line closure =
      layer_line (record { 0 = i }) (get_or table.pids i 0) (get_or table.stream_types i 0) (get_or table.channels i (record { 0 = 0 })) closure

  pub line_there : (closure : Closure) → has table.layers.present i ≡ true → closure ≡ closure_of table.layers i
      → layer_line (record { 0 = i }) (get_or table.pids i 0) (get_or table.stream_types i 0) (get_or table.channels i (record { 0 = 0 })) closure
      ≡ line_at table i
  unfolding line_at
  line_there closure h e = ap line e ∙ sym (ap (λ (b : Bool). cond b (line (closure_of table.layers i)) []) h)

  pub line_not_there : has table.layers.present i ≡ false → [] ≡ line_at table i
  unfolding line_at
  line_not_there h = sym (ap (λ (b : Bool). cond b (line (closure_of table.layers i)) []) h)

-- ---- the room that the text needs: 93,406 bytes are enough for every loop

member_length : (set i : ℕ) → length (member set i) ≤ 21
member_length set i = go (has set i)
  where
    go : (b : Bool) → length (cond b (labelled (ascii " ") i) []) ≤ 21
    go true = omega (arith, decimal_length i)
    go false = omega arith

closure_length : (closure : Closure) → length (closure_text closure) ≤ 1344
unfolding members
closure_length (Ok set) = texts_length (member set) 21 (member_length set) 64
closure_length (Err refusal) = omega arith

layer_line_length : (index : LayerIndex) (pid type : ℕ) (channel : HierarchyChannel) (closure : Closure)
    → length (layer_line index pid type channel closure) ≤ 1459
unfolding layer_line
layer_line_length index pid type channel closure =
    simp length-append
    (omega (arith, decimal_length index.0, decimal_length pid, decimal_length type, decimal_length channel.0, closure_length closure))

line_length : (table : LayerTable) (i : ℕ) → length (line_at table i) ≤ 1459
unfolding line_at
line_length table i = go (has table.layers.present i)
  where
    go : (b : Bool) → length (cond b (line table i (closure_of table.layers i)) []) ≤ 1459
    go true =
        layer_line_length (record { 0 = i }) (get_or table.pids i 0) (get_or table.stream_types i 0)
        (get_or table.channels i (record { 0 = 0 })) (closure_of table.layers i)
    go false = omega arith

pub accepted_length : (table : LayerTable) → length (accepted_text table) ≤ 93406
unfolding accepted_text layers_text
accepted_length table =
    let lines : length (texts (line_at table) 64) ≤ 93376 = texts_length (line_at table) 1459 (line_length table) 64 in
    simp length-append (omega (arith, decimal_length (size table.layers.present)))

pub refused_length : (refusal : Refusal) → length (refused_text refusal) ≤ 93406
unfolding refused_text
refused_length refusal = simp length-append (omega (arith, decimal_length (number_of refusal), decimal_length (place_of refusal)))

pub loop_length : (reading : Reading) (bytes : List ℕ) → length (loop_text reading bytes) ≤ 93406
unfolding loop_text
loop_length reading bytes = let read = loop_table reading bytes in go read.outcome read.table
  where
    go : (outcome : Outcome) (table : LayerTable) → length (read_text outcome table) ≤ 93406
    go (Ok tt) table = accepted_length table
    go (Err refusal) table = refused_length refusal

-- THE PROGRAM'S BUFFER: of 93,406 bytes, what was laid in from the front is the whole text, whatever the loop.
pub whole_text : (reading : Reading) (bytes old : List ℕ) (next : ℕ) (new : List ℕ)
    → 93406 ≤ length old → Laid old 0 (loop_text reading bytes) next new → take next new ≡ loop_text reading bytes
whole_text reading bytes old next new room laid = shown_whole old (loop_text reading bytes) next new laid (omega (arith, loop_length reading bytes))
