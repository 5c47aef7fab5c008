-- `pid_layers::put_layer` meets its contract: a PID that there is not is passed over. Assumes nothing.
use native.Mathlib.Omega.{arith}
use Prim.Native.Nat.{ℕ}
use mathlib.Core.Path.{sym, ap, ◌∙◌}
use mathlib.Core.Bool.{Bool, cond}
use lib.ListN.{set}
use lib.Seq.{set_out}
use Rattle.sets.specs.Sets.{has}
use Rattle.pid_layers.proofs.Meant.{either_same}
use Rattle.pid_layers.proofs.put_layer.Goals as goal

pub returns-then-not-member : goal.returns-then-not-member
returns-then-not-member c =
    let a = c.args in
    sym (ap (λ (t : Bool). cond t (set a.table.now a.pid a.index) a.table.now) (sym c.member.ensures ∙ c.if-not-member.true))

pub returns-then-place-ge-PIDS : goal.returns-then-place-ge-PIDS
returns-then-place-ge-PIDS c =
    let a = c.args in sym (either_same (has a.present a.index) (set_out a.table.now a.pid a.index (omega (arith, c.requires.0, c.if-place-ge-PIDS.true))))

pub returns : goal.returns
returns c =
    let a = c.args in
    ap (λ (n : ℕ). set a.table.now n a.index) c.from-place.ensures
    ∙ sym (ap (λ (t : Bool). cond t (set a.table.now a.pid a.index) a.table.now) (sym c.member.ensures ∙ c.if-not-member.false))
