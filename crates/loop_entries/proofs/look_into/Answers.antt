-- `loop_entries::look_into` meets its contract: the branch says whether the reading knows the stream type.
-- Assumes nothing.
use mathlib.Core.Path.{◌∙◌, ap, sym}
use mathlib.Core.Bool.{Bool, cond}
use Rattle.descriptors.specs.Looking.{seen_of, nothing_seen}
use Rattle.loop_entries.proofs.look_into.Goals as goal

pub returns-then-knows : goal.returns-then-knows
returns-then-knows c =
    let a = c.args in
    c.look_through.ensures
    ∙ sym (ap (λ (b : Bool). cond b (seen_of a.reading a.info.now) nothing_seen) (sym c.knows.ensures ∙ c.if-knows.true))

pub returns : goal.returns
returns c =
    let a = c.args in
    c.nothing_seen.ensures
    ∙ sym (ap (λ (b : Bool). cond b (seen_of a.reading a.info.now) nothing_seen) (sym c.knows.ensures ∙ c.if-knows.false))
