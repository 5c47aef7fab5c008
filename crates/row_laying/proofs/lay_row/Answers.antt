-- `row_laying::lay_row` meets its contract: the head, and after it the rest of the row.
-- Assumes nothing.
use Prim.Native.Nat.{ℕ}
use mathlib.Core.Path.{◌≡◌, ◌∙◌, ap}
use mathlib.Core.List.{List, ◌++◌}
use lib.ListN.{length, take, drop}
use lib.Seq.{take_at}
use Rattle.entry_rows.specs.Rows.{tail_of}
use Rattle.entry_rows.proofs.Laws.{head_length}
use Rattle.row_laying.proofs.lay_row.Goals as goal

pub returns : goal.returns
returns c =
    let a = c.args in
    let e = a.entry in
    let head = c.head_of-head in
    let laid = c.lay_head in
    let long : length head.result ≡ 16 = ap length head.ensures ∙ head_length e.stream_type e.pid e.«record» in
    c.lay_tail.ensures
    ∙ ap (λ (l : List ℕ). l ++ tail_of e.«record» e.embedded)
    (ap (take 16) laid.ensures ∙ take_at head.result (drop (length head.result) a.row.now) 16 long ∙ head.ensures)
