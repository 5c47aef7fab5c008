-- `claims::mark_claimed` meets its contract. The invariant: the rows that a row so far claims are marked (Marking).
-- In the goals the layers are `t1`. Assumes nothing.
use Prim.Native.Nat.{ℕ, ◌<◌}
use mathlib.Core.Path.{sym, ap, ◌∙◌}
use native.Mathlib.Omega.{arith}
use lib.ListN.{get_or}
use Rattle.sets.specs.Sets.{has}
use Rattle.rows.specs.Table.{table}
use Rattle.claims.proofs.Marking.{claims_start, claims_more, claims_end}
use Rattle.claims.proofs.mark_claimed.Goals as goal
use Rattle.claims.proofs.mark_claimed.Goals.{After-from-layer}

-- the row's layer is one of the 64
layer_below : (c : After-from-layer) → c.from-layer.result < 64
layer_below c = omega (arith, c.requires.0.within c.loop-row.row c.loop-row-test.true, c.from-layer.ensures)

pub clear-requires : goal.clear-requires
clear-requires c = c.requires.1

pub loop-row-init : goal.loop-row-init
loop-row-init c =
    (omega arith, claims_start c.args.layers c.args.closure (table c.args.indices.now c.args.decodings.now c.args.matches.now) _ _ c.clear.ensures)

pub offset_bounds-layers-layer : goal.offset_bounds-layers-layer
offset_bounds-layers-layer c = omega (arith, layer_below (goal.at.offset_bounds-layers-layer c).After-from-layer)

pub bounds-layers-layer : goal.bounds-layers-layer
bounds-layers-layer c = omega (arith, layer_below (goal.at.bounds-layers-layer c).After-from-layer)

pub offset_bounds-matches-row : goal.offset_bounds-matches-row
offset_bounds-matches-row c = omega (arith, c.loop-row-test.true)

pub bounds-matches-row : goal.bounds-matches-row
bounds-matches-row c = omega (arith, c.loop-row-test.true, c.requires.0.matched)

pub mark_timed-requires : goal.mark_timed-requires
mark_timed-requires c =
    let named = rw c.from-layer.ensures at c.named.ensures in (
      record {
        sorted = c.requires.0.sorted;
        rising = λ lower m.
            c.requires.0.rising (get_or c.args.indices.now c.loop-row.row 0) lower (sym (ap (λ (set : ℕ). has set lower) named) ∙ m);
      },
      omega (arith, c.loop-row.invariant.1.as_long, c.clear.ensures.as_long, c.requires.1),
    )

pub loop-row-preserved : goal.loop-row-preserved
loop-row-preserved c = (
  omega (arith, c.loop-row-test.true),
  claims_more c.args.layers c.args.closure (table c.args.indices.now c.args.decodings.now c.args.matches.now) _ c.loop-row.row _ c.loop-row.claimed _ c.loop-row.invariant.1 (rw c.from-layer.ensures at c.named.ensures) c.mark_timed.ensures,
)

pub shape_of-claimed : goal.shape_of-claimed
shape_of-claimed c = c.loop-row.invariant.1.as_long ∙ c.clear.ensures.as_long

pub returns : goal.returns
returns c =
    claims_end c.args.layers c.args.closure (table c.args.indices.now c.args.decodings.now c.args.matches.now) _ _ c.clear.ensures c.loop-row.row c.loop-row.claimed c.loop-row.invariant.1
    (omega (arith, c.loop-row.invariant.0, c.loop-row-test.false))
