-- All that the program `points` prints: how many points there are, and 'each point: its number, target_ols, stream list, highest temporal id, rates, and whether the list is
-- closed'; or the refusal.
-- Assumes nothing.
use Rattle.std.specs.Prelude.{ℕ, suc, List, [], ◌∷◌, ◌++◌, length, Err, Ok}
use Rattle.closure.specs.declared.Layers.{Layers}
use Rattle.es_loop.specs.Answer.{Outcome}
use Rattle.operation_points.specs.Values.{PointValue}
use Rattle.program_points.specs.declared.PointsRead.{PointsRead}
use Rattle.program_points.specs.Told.{points_in, streams_of, closed_of, points_read}
use Rattle.text.specs.Text.{ascii}
use Rattle.listing.specs.Lines.{labelled, refused_text}
use Rattle.point_lines.specs.Lines.{point_line}

-- the line of a point, with the stream list that it has in these layers
abbrev pub line_of : Layers → ℕ → PointValue → List ℕ
line_of layers index value = point_line index value (closed_of layers value) (streams_of layers value)

-- the points of all descriptors are numbered in order, from 0 on
unfoldable pub lines_from : Layers → ℕ → List PointValue → List ℕ
lines_from layers index [] = []
lines_from layers index (value ∷ values) = line_of layers index value ++ lines_from layers (suc index) values

-- 'The first line counts' the points.
unfoldable pub told_text : Layers → List PointValue → List ℕ
told_text layers values = labelled (ascii "accepted ") (length values) ++ ascii "\n" ++ lines_from layers 0 values

-- 'A refusal prints only `refused N entry E`', as the program `layers` has it
abbrev pub read_text : Outcome → Layers → List ℕ → List ℕ
read_text (Ok tt) layers program = told_text layers (points_in program)
read_text (Err refusal) layers program = refused_text refusal

abbrev pub answer_text : PointsRead → List ℕ → List ℕ
answer_text read program = read_text read.outcome read.layers program

-- THE WHOLE TEXT for a program's descriptor loop and its elementary-stream loop
unfoldable pub points_text : List ℕ → List ℕ → List ℕ
points_text program bytes = answer_text (points_read program bytes) program
