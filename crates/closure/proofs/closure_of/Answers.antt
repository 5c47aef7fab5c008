-- `closure::closure_of` meets its contract: each way of the code is a case of the definition (Scan), given what its calls answer.
-- Assumes nothing.
use mathlib.Core.Bool.{true}
use mathlib.Core.Path.{◌≡◌, sym, ◌∙◌}
use Rattle.closure.specs.Closures.{is_layer}
use Rattle.closure.proofs.Scan.{is_layer_lem, above_63, no_layer_lem, none_missing, one_missing, empty_none_missing, some_missing, lowest_missing}
use Rattle.closure.proofs.closure_of.Goals as goal
use Rattle.closure.proofs.closure_of.Goals.{Else-not-member}

pub returns-then-target-ge64 : goal.returns-then-target-ge64
returns-then-target-ge64 c =
    let a = c.args in
    no_layer_lem a.layers a.target (above_63 a.layers a.target c.if-target-ge64.true)

pub returns-then-not-member : goal.returns-then-not-member
returns-then-not-member c =
    let a = c.args in
    no_layer_lem a.layers a.target
    (is_layer_lem a.layers a.target c.if-target-ge64.false ∙ sym c.member.ensures ∙ c.if-not-member.true)

-- past the second test the target is a layer
target-is-layer : (c : Else-not-member) → is_layer c.args.layers c.args.target ≡ true
target-is-layer c =
    let a = c.args in
    is_layer_lem a.layers a.target c.if-target-ge64.false ∙ sym c.member.ensures ∙ c.if-not-member.false

pub returns-then-missing-eq0 : goal.returns-then-missing-eq0
returns-then-missing-eq0 c =
    let a = c.args in
    let set = c.rested_on-set in
    none_missing a.layers a.target set.result (target-is-layer (goal.at.returns-then-missing-eq0 c).Else-not-member) set.ensures
    (empty_none_missing a.layers set.result _ c.without-missing.ensures c.if-missing-eq0.true)

pub returns : goal.returns
returns c =
    let a = c.args in
    let set = c.rested_on-set in
    let missing = c.without-missing in
    one_missing a.layers a.target set.result (target-is-layer (goal.at.returns c).Else-not-member) set.ensures _
    (some_missing a.layers set.result _ missing.ensures set.type_inv c.if-missing-eq0.false)
    (c.lowest.ensures ∙ lowest_missing a.layers set.result _ missing.ensures)
