-- `stream_lists::stream_list` meets its contract (Building has the turns). Assumes nothing.
use Prim.Native.Nat.{ℕ}
use mathlib.Core.Bool.{true}
use mathlib.Core.Path.{◌≡◌, sym, ap, ◌∙◌}
use native.Mathlib.Omega.{arith}
use Rattle.sets.specs.Sets.{without}
use Rattle.stream_lists.specs.declared.StreamList.{StreamList}
use Rattle.stream_lists.proofs.Building.{building_start, building_ready, building_refused, building_more, building_end}
use Rattle.stream_lists.proofs.stream_list.Goals as goal

-- what is not present yet, by the answers of the two calls
fresh : (new asked given present : ℕ) → new ≡ without asked present → asked ≡ given → new ≡ without given present
fresh new asked given present e f = e ∙ ap (λ (n : ℕ). without n present) f

pub loop-reference-init : goal.loop-reference-init
loop-reference-init c = building_start c.args.layers c.args.references.now

pub returns-then-no_layer : goal.returns-then-no_layer
returns-then-no_layer c =
    let a = c.args in
    let at = c.loop-reference in
    ap (λ (l : StreamList). record { absent = true; list = l }) c.empty_list.ensures
    ∙ building_refused a.layers a.references.now at.members at.count at.present at.reference-index at.invariant (omega arith) (sym c.no_layer.ensures ∙ c.if-no_layer.true)

pub place_before-count-requires : goal.place_before-count-requires
place_before-count-requires c =
    let a = c.args in
    let at = c.loop-reference in
    building_ready a.layers a.references.now at.members at.count at.present at.reference-index at.invariant _ _ (fresh _ _ _ at.present c.without-new.ensures c.asked.ensures)

pub loop-reference-preserved : goal.loop-reference-preserved
loop-reference-preserved c =
    let a = c.args in
    let at = c.loop-reference in
    building_more a.layers a.references.now at.members at.count at.present at.reference-index at.invariant (omega arith) _ _ _ _ (sym c.no_layer.ensures ∙ c.if-no_layer.false)
    (fresh _ _ _ at.present c.without-new.ensures c.asked.ensures)
    c.place_before-count.ensures.0 c.place_before-count.ensures.1 c.with-present.ensures

pub returns : goal.returns
returns c =
    let a = c.args in
    let at = c.loop-reference in
    building_end a.layers a.references.now at.members at.count at.present at.reference-index at.invariant c.loop-reference-test.false
