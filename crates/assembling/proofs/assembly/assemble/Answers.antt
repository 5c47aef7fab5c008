-- `assembling::assembly::assemble` meets its contract. The invariant: what is left of the edges, from the rows as they are, gives the assembly.
-- Each turn is a step of the definition (Assembling). Assumes nothing.
use Prim.Native.Nat.{ℕ}
use mathlib.Core.List.{List}
use mathlib.Core.Path.{◌≡◌, ◌∙◌, ap}
use native.Mathlib.Omega.{arith}
use lib.ListN.{set}
use Rattle.rows.specs.Table.{table}
use Rattle.assembling.specs.Assemblies.{Assembly, assembled_from}
use Rattle.assembling.proofs.Assembling.{no_upper_row, no_lower_row, lower_row, all_met}
use Rattle.assembling.proofs.assembly.assemble.Goals as goal
use Rattle.assembling.proofs.assembly.assemble.Goals.{then-upper-none+else-none-row, else-upper-none}

-- both halves of an assembly
parts : (a b : Assembly) → a ≡ b → (a.complete ≡ b.complete) × (a.rows ≡ b.rows)
parts a b e = (ap (λ (x : Assembly). x.complete) e, ap (λ (x : Assembly). x.rows) e)

pub offset_bounds-rows-top : goal.offset_bounds-rows-top
offset_bounds-rows-top c = omega (arith, c.requires.1)

pub bounds-rows-top : goal.bounds-rows-top
bounds-rows-top c = omega (arith, c.requires.1)

pub loop-pair-init : goal.loop-pair-init
loop-pair-init c =
    let t = table c.args.indices.now c.args.decodings.now c.args.matches.now in
    (omega arith, ap (λ (rows : List ℕ). assembled_from t c.args.edges.now (set rows c.args.top c.args.head)) c.requires.2)

pub bounds-matches-upper : goal.bounds-matches-upper
bounds-matches-upper c =
    omega (arith, c.requires.0.matched, c.if-upper-none.true)

pub paired_row-row-requires : goal.paired_row-row-requires
paired_row-row-requires c =
    let loop = c.loop-pair in
    (c.requires.0.sorted, omega arith, rw c.from-edge.ensures (c.requires.0.rising loop.pair-index c.loop-pair-test.true))

pub returns-then-none-row : goal.returns-then-none-row
returns-then-none-row c =
    let loop = c.loop-pair in
    let all_of_it = parts _ _
    (no_lower_row (table c.args.indices.now c.args.decodings.now c.args.matches.now) c.args.edges.now loop.pair-index loop.rows
    c.loop-pair-test.true _ (rw c.from-edge.ensures at c.if-upper-none.true) (rw c.from-edge.ensures at c.paired_row-row.ensures) c.if-none-row.true
    ∙ loop.invariant.1) in record {
      complete = all_of_it.0;
      content = all_of_it.1;
    }

pub loop-pair-preserved : goal.loop-pair-preserved
loop-pair-preserved c =
    let loop = c.loop-pair in
    let t = table c.args.indices.now c.args.decodings.now c.args.matches.now in
    let more = c.loop-pair-test.true in
    let e = c.from-edge.ensures in
    elim c.if-upper-none.branch [
      | then-upper-none+else-none-row w ↦ (
        omega arith,
        rw (w.rows-is, e) (lower_row t c.args.edges.now loop.pair-index loop.rows
            more _ (rw e at w.if-upper-none.true) (rw e at w.paired_row-row.ensures) w.if-none-row.false)
            ∙ loop.invariant.1,
      )
      | else-upper-none w ↦ (
        omega arith,
        rw w.rows-is (no_upper_row t c.args.edges.now loop.pair-index loop.rows more (rw e at w.if-upper-none.false))
            ∙ loop.invariant.1,
      )
    ]

pub returns : goal.returns
returns c =
    let loop = c.loop-pair in
    let all_of_it = parts _ _
    (all_met (table c.args.indices.now c.args.decodings.now c.args.matches.now) c.args.edges.now loop.pair-index loop.rows
    c.loop-pair-test.false
    ∙ loop.invariant.1) in record {
      complete = all_of_it.0;
      content = all_of_it.1;
    }
