-- `add` meets its contract: judged first, and changed only where nothing refuses it.
-- Assumes nothing.
use mathlib.Core.Path.{sym, ◌∙◌}
use native.Mathlib.Omega.{arith}
use Rattle.layer_set.proofs.Parts.{wide_case, fault_case, no_fault_case}
use Rattle.layer_set.proofs.Judged.{place_small}
use Rattle.layer_set.proofs.changing.add.Goals as goal

pub returns-then-too_wide : goal.returns-then-too_wide
returns-then-too_wide c =
    let a = c.args in
    wide_case a.«set» a.entry (sym c.too_wide.ensures ∙ c.if-too_wide.true)

pub returns-then-fault-lt-NO_FAULT : goal.returns-then-fault-lt-NO_FAULT
returns-then-fault-lt-NO_FAULT c =
    let a = c.args in
    let fault = c.fault_of-fault in
    fault_case a.«set» a.entry (sym c.too_wide.ensures ∙ c.if-too_wide.false) fault.result fault.ensures
    c.refusal_of.result c.refusal_of.ensures c.if-fault-lt-NO_FAULT.true

pub with_layer-after-requires : goal.with_layer-after-requires
with_layer-after-requires c =
    let a = c.args in
    let fault = c.fault_of-fault in
    let is_number = fault.ensures in
    let past = c.if-fault-lt-NO_FAULT.false in
    place_small a.«set».layers.present a.«set».entries a.entry (omega arith)
    (sym c.too_wide.ensures ∙ c.if-too_wide.false)

pub returns : goal.returns
returns c =
    let a = c.args in
    let fault = c.fault_of-fault in
    no_fault_case a.«set» a.entry (sym c.too_wide.ensures ∙ c.if-too_wide.false) fault.result fault.ensures
    c.with_layer-after.result c.with_layer-after.ensures c.if-fault-lt-NO_FAULT.false
