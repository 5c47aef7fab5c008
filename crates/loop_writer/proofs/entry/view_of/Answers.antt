-- `loop_writer::view_of` meets its contract: what the rule looks at of an entry are its type and its record.
-- Assumes nothing.
use mathlib.Core.Path.{◌∙◌, ap}
use mathlib.Core.Bool.{Bool}
use Rattle.implied.specs.Walking.{view_next}
use Rattle.loop_writer.proofs.entry.view_of.Goals as goal

pub returns : goal.returns
returns c =
    let a = c.args in
    c.view_next.ensures ∙ ap (λ (b : Bool). view_next a.views (record { type = a.entry.stream_type; described = b })) c.is_described.ensures
