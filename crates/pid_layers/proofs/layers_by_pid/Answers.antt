-- `pid_layers::layers_by_pid` meets its contract. The invariant: the layers so far stand at their PIDs. The measure is the number of indices left. Assumes nothing.
use native.Mathlib.Numerals.{add-one}
use native.Mathlib.Omega.{arith}
use Prim.Native.Nat.{ℕ}
use mathlib.Core.Path.{◌≡◌, refl, sym, ap, ◌∙◌}
use mathlib.Core.Bool.{cond}
use mathlib.Core.List.{List}
use lib.ListN.{length, get_or, set, replicate}
use Rattle.sets.specs.Sets.{has}
use Rattle.pid_layers.specs.PidLayers.{pids, tabled}
use Rattle.pid_layers.proofs.Meant.{tabled_long, blank_long}
use Rattle.pid_layers.proofs.layers_by_pid.Goals as goal

pub loop-index-init : goal.loop-index-init
loop-index-init c = (omega arith, refl)

pub put_layer-requires : goal.put_layer-requires
put_layer-requires c =
    let a = c.args in
    (ap length c.loop-index.invariant.1 ∙ tabled_long (replicate pids 255) a.present a.pids.now c.loop-index.index ∙ blank_long, omega arith)

pub loop-index-preserved : goal.loop-index-preserved
loop-index-preserved c =
    let a = c.args in
    let i = c.loop-index.index in (
      omega arith,
      c.put_layer.ensures
          ∙ ap (λ (t : List ℕ). cond (has a.present i) (set t (get_or a.pids.now i 0) i) t) c.loop-index.invariant.1
          ∙ ap (tabled (replicate pids 255) a.present a.pids.now) (sym (add-one i)),
    )

pub returns : goal.returns
returns c =
    let a = c.args in
    let all : c.loop-index.index ≡ 64 = omega arith in
    c.loop-index.invariant.1 ∙ ap (tabled (replicate pids 255) a.present a.pids.now) all
