-- `row_weighing::implied_outline` meets its contract: of an implied layer 9 never holds.
-- Assumes nothing.
use Prim.Native.Nat.{ℕ}
use mathlib.Core.Path.{sym, ◌∙◌, ap}
use mathlib.Core.Bool.{Bool, true, false}
use mathlib.Core.List.{List, []}
use lib.ListN.{get_or}
use Rattle.combinators.specs.Padding.{pad_to}
use Rattle.extension.specs.Extension.{no_layer}
use Rattle.records.specs.declared.Record.TheVariants.{Implied}
use Rattle.judging.proofs.Meant.{implied_sound}
use Rattle.loop_entries.specs.declared.Entry.{Entry}
use Rattle.loop_outlines.specs.Outlines.{outline_of}
use Rattle.loop_writer.specs.Verdict.{stream_for}
use Rattle.entry_rows.proofs.Laws.{implied_entry}
use Rattle.entry_rows.proofs.Judged.{type_bound}
use Rattle.row_weighing.proofs.implied_outline.Goals as goal

pub overflow_cast-result : goal.overflow_cast-result
overflow_cast-result c = record { fits = type_bound _ c.requires.1 }

pub returns : goal.returns
returns c =
    let row : List ℕ = c.args.row.now in
    ap (λ (w : Bool). record { fits = true; stream_type = get_or row 0 0; pid = get_or row 1 0; wrong_length = false; second_record = false; «record» = Implied; wrong_embedded = w })
    (sym (implied_sound (get_or row 0 0) (pad_to 63 no_layer [])))
    ∙ ap (λ (e : Entry). outline_of (stream_for e)) (implied_entry row c.requires.2)
