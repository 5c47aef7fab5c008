-- `loop_entries::name_in` meets its contract: the branch says whether the reading knows the stream type.
-- Assumes nothing.
use mathlib.Core.Path.{◌∙◌, ap, sym}
use mathlib.Core.Bool.{Bool, cond}
use Rattle.descriptors.specs.Looking.{seen_of, nothing_seen}
use Rattle.descriptors.specs.Finding.{named_by}
use Rattle.loop_entries.proofs.name_in.Goals as goal

pub returns-then-not-knows : goal.returns-then-not-knows
returns-then-not-knows c =
    let a = c.args in
    let knows = c.knows in
    c.nothing_named.ensures a.stream_type
    ∙ sym (ap (λ (b : Bool). named_by a.stream_type (cond b (seen_of a.reading a.info.now) nothing_seen)) (sym knows.ensures ∙ c.if-not-knows.true))

pub returns : goal.returns
returns c =
    let a = c.args in
    let knows = c.knows in
    c.name_layers.ensures a.stream_type
    ∙ sym (ap (λ (b : Bool). named_by a.stream_type (cond b (seen_of a.reading a.info.now) nothing_seen)) (sym knows.ensures ∙ c.if-not-knows.false))
