-- The lines that the program `layers` prints, as document 01 shows them.
-- Assumes nothing.
use Rattle.std.specs.Prelude.{ℕ, cond, List, [], ◌++◌, get_or, Err, Ok}
use Rattle.closure.specs.Answer.{Closure}
use Rattle.closure.specs.Closures.{closure_of}
use Rattle.sets.specs.Sets.{has, size}
use Rattle.vocabulary.specs.declared.HierarchyChannel.{HierarchyChannel}
use Rattle.vocabulary.specs.declared.LayerIndex.{LayerIndex}
use Rattle.vocabulary.specs.declared.refusal.Refusal.{Refusal}
use Rattle.vocabulary.specs.Refusals.{number_of, place_of}
use Rattle.vocabulary.specs.declared.stream_types.Reading.{Reading}
use Rattle.es_loop.specs.Answer.{Outcome}
use Rattle.loop_layers.specs.declared.table.LayerTable.{LayerTable}
use Rattle.loop_layers.specs.declared.table.TableRead.{TableRead}
use Rattle.loop_layers.specs.Closures.{loop_table}
use Rattle.records.specs.Records.{channel_of}
use Rattle.layer_set.specs.declared.«set».LayerSet.{LayerSet}
use Rattle.layer_set.specs.Sets.{entry_at, closure_in}
use Rattle.text.specs.Text.{ascii, decimal, texts}

-- a label, and after it a number
abbrev pub labelled : List ℕ → ℕ → List ℕ
labelled label n = label ++ decimal n

-- the members of a closure in rising order, each after a space
abbrev pub member : ℕ → ℕ → List ℕ
member set i = cond (has set i) (labelled (ascii " ") i) []

unfoldable pub members : ℕ → List ℕ
members set = texts (member set) 64

-- 'A closure with an absent layer prints `closure absent`.'
abbrev pub closure_text : Closure → List ℕ
closure_text (Ok set) = members set
closure_text (Err refusal) = ascii " absent"

-- 'index, PID, stream type, channel (decimal), closure indices'
unfoldable pub layer_line : LayerIndex → ℕ → ℕ → HierarchyChannel → Closure → List ℕ
layer_line index pid type channel closure =
    labelled (ascii "layer ") index.0
    ++ labelled (ascii " pid ") pid
    ++ labelled (ascii " type ") type
    ++ labelled (ascii " channel ") channel.0
    ++ ascii " closure"
    ++ closure_text closure
    ++ ascii "\n"

-- the line of the layer of index i, if the loop has that layer
unfoldable pub line_at : LayerTable → ℕ → List ℕ
line_at table i =
    cond (has table.layers.present i)
    (layer_line
    (record { 0 = i })
    (get_or table.pids i 0)
    (get_or table.stream_types i 0)
    (get_or table.channels i (record { 0 = 0 }))
    (closure_of table.layers i))
    []

-- 'Then, by index', the lines of all layers
unfoldable pub layers_text : LayerTable → List ℕ
layers_text table = texts (line_at table) 64

-- 'The first line counts layers.'
unfoldable pub accepted_text : LayerTable → List ℕ
accepted_text table = labelled (ascii "accepted ") (size table.layers.present) ++ ascii "\n" ++ layers_text table

-- THE SAME FROM A LAYER SET (document 02, W-207), whose closures are stored: proofs/FromSet.antt has the law that the set of a loop gives the text of its table.
unfoldable pub set_line : LayerSet → ℕ → List ℕ
set_line s i =
    cond (has s.layers.present i)
    (layer_line
    (record { 0 = i })
    (entry_at s.entries i).pid
    (entry_at s.entries i).stream_type
    (channel_of (entry_at s.entries i).«record»)
    (closure_in s i))
    []

unfoldable pub set_lines : LayerSet → List ℕ
set_lines s = texts (set_line s) 64

unfoldable pub set_text : LayerSet → List ℕ
set_text s = labelled (ascii "accepted ") (size s.layers.present) ++ ascii "\n" ++ set_lines s

-- 'A refusal prints only `refused N entry E`.'
unfoldable pub refused_text : Refusal → List ℕ
refused_text refusal = labelled (ascii "refused ") (number_of refusal) ++ labelled (ascii " entry ") (place_of refusal) ++ ascii "\n"

-- THE WHOLE TEXT for a loop under a reading; the program `layers` asks for 'the 2015 reading' where its caller names no other
abbrev pub read_text : Outcome → LayerTable → List ℕ
read_text (Ok tt) table = accepted_text table
read_text (Err refusal) table = refused_text refusal

abbrev pub answer_text : TableRead → List ℕ
answer_text read = read_text read.outcome read.table

unfoldable pub loop_text : Reading → List ℕ → List ℕ
loop_text reading bytes = answer_text (loop_table reading bytes)
