-- `row_laying::lay_known` meets its contract: the head of the row, and after it the list where it stands in the bytes.
-- Assumes nothing.
use Prim.Native.Nat.{ℕ}
use mathlib.Core.Path.{◌≡◌, ◌∙◌, ap, ap₂}
use mathlib.Core.List.{List, ◌++◌}
use lib.ListN.{length, take, drop}
use lib.Seq.{take_at}
use Rattle.combinators.specs.Padding.{pad_to}
use Rattle.vocabulary.specs.declared.LayerIndex.{LayerIndex}
use Rattle.extension.specs.Extension.{no_layer}
use Rattle.records.specs.declared.Record.{Record}
use Rattle.descriptors.specs.Finding.{list_before}
use Rattle.entry_rows.specs.Rows.{head_of}
use Rattle.entry_rows.proofs.Laws.{head_length}
use Rattle.row_laying.proofs.Tails.{marked_tail, row_with}
use borrow.Author.Rules.{rules}
use Rattle.row_laying.proofs.lay_known.Goals as goal

pub lay_found-requires : goal.lay_found-requires
lay_found-requires c = (search rules, c.find_records-found.ensures.1)

pub returns : goal.returns
returns c =
    let a = c.args in
    let t : ℕ = a.stream_type in
    let found = c.find_records-found in
    let mark = c.mark in
    let head = c.head_of-head in
    let laid = c.lay_head in
    let kept : Record = found.result.«record» in
    let layers : List LayerIndex = pad_to 63 no_layer (list_before a.info.now kept found.result.end) in
    let long : length head.result ≡ 16 = ap length head.ensures ∙ head_length t a.pid mark.result in
    let front = ap (take 16) laid.ensures ∙ take_at head.result (drop (length head.result) a.row.now) 16 long ∙ head.ensures ∙ ap (head_of t a.pid) mark.ensures in
    c.lay_found.ensures
    ∙ ap₂ (λ (h l : List ℕ). h ++ l) front (marked_tail a.pair t kept layers)
    ∙ ap (row_with a.pair t a.pid) found.ensures.0
