-- `row_laying::lay_layers` meets its contract. The invariant: the layers passed stand after the head, and 0 after them.
-- Assumes nothing.
use Prim.Native.Nat.{ℕ, min}
use mathlib.Core.List.{List, ◌++◌, map}
use mathlib.Core.Path.{◌≡◌, sym, ap, ◌∙◌}
use native.Mathlib.Omega.{arith}
use lib.ListN.{take, replicate, length-set}
use lib.Seq.{length-take-le}
use Rattle.combinators.specs.Padding.{pad_to}
use Rattle.combinators.proofs.Padding.{store_map}
use Rattle.buffers.proofs.Laws.{set_after, front_kept}
use Rattle.entry_rows.specs.Rows.{layer_number}
use Rattle.row_laying.proofs.lay_layers.Goals as goal

pub loop-i-init : goal.loop-i-init
loop-i-init c =
    let row = c.args.row.now in
    let cleared = c.clear_tail in
    let kept = front_kept row (replicate 64 0) cleared.new.row 16 (omega arith) cleared.ensures in
    (omega arith, omega arith, cleared.ensures ∙ ap (λ (l : List ℕ). l ++ replicate 64 0) (sym kept))

pub loop-i-preserved : goal.loop-i-preserved
loop-i-preserved c =
    let layers = c.args.embedded in
    let row = c.clear_tail.new.row in
    let loop = c.loop-i in (
      omega arith,
      simp length-set (omega arith),
      rw (loop.invariant.2, c.from.ensures)
          (set_after (take 16 row) (pad_to 64 0 (map layer_number (take loop.i layers))) 16 loop.i _ (length-take-le 16 row (omega arith))
          ∙ ap (λ (l : List ℕ). take 16 row ++ l) (store_map 64 0 layer_number layers loop.i _ (omega arith) (omega arith))),
    )

pub returns : goal.returns
returns c =
    let a = c.args in
    let cleared = c.clear_tail in
    let kept = front_kept a.row.now (replicate 64 0) cleared.new.row 16 (omega arith) cleared.ensures in
    let all : c.loop-i.i ≡ min a.count 63 = omega arith in
    c.loop-i.invariant.2
    ∙ ap (λ (l : List ℕ). l ++ pad_to 64 0 (map layer_number (take c.loop-i.i a.embedded))) kept
    ∙ ap (λ (n : ℕ). take 16 a.row.now ++ pad_to 64 0 (map layer_number (take n a.embedded))) all
