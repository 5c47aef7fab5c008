-- `row_laying::lay_recordless` meets its contract: the head of the row, and 0 after it.
-- Assumes nothing.
use Prim.Native.Nat.{ℕ}
use mathlib.Core.Path.{◌≡◌, ◌∙◌, ap}
use mathlib.Core.List.{List, ◌++◌}
use lib.ListN.{length, take, drop, replicate}
use lib.Seq.{take_at}
use Rattle.records.specs.declared.Record.TheVariants.{NoRecord}
use Rattle.entry_rows.specs.Rows.{tail_of}
use Rattle.entry_rows.proofs.Laws.{head_length}
use Rattle.row_laying.proofs.lay_recordless.Goals as goal

pub returns : goal.returns
unfolding tail_of
returns c =
    let a = c.args in
    let head = c.head_of-head in
    let laid = c.lay_head in
    let long : length head.result ≡ 16 = ap length head.ensures ∙ head_length a.stream_type a.pid NoRecord in
    let front = ap (take 16) laid.ensures ∙ take_at head.result (drop (length head.result) a.row.now) 16 long ∙ head.ensures in
    c.clear_tail.ensures ∙ ap (λ (l : List ℕ). l ++ replicate 64 0) front
