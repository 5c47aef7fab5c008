-- `entry_rows::some_too_wide` meets its contract. The invariant: none of the rows passed has a value that is too wide.
-- Assumes nothing.
use mathlib.Core.Path.{◌≡◌, refl, sym, ◌∙◌, ap, ap₂}
use native.Mathlib.Numerals.{add-one}
use lib.ListN.{length-take, length-drop}
use mathlib.Core.Bool.{◌||◌}
use Rattle.combinators.specs.Below.{some_at}
use Rattle.entry_rows.specs.Rows.{row_at, row_count, row_too_wide}
use Rattle.entry_rows.proofs.Judged.{row_part}
use native.Mathlib.Omega.{arith}
use Rattle.entry_rows.proofs.some_too_wide.Goals as goal

pub loop-i-init : goal.loop-i-init
loop-i-init c = (omega arith, refl)

pub row_too_wide-requires : goal.row_too_wide-requires
row_too_wide-requires c = simp (length-take, length-drop) (omega arith)

pub returns-then-row_too_wide : goal.returns-then-row_too_wide
returns-then-row_too_wide c =
    let numbers = c.args.numbers.now in
    let i = c.loop-i.i in
    sym (some_at (λ k. row_too_wide (row_at numbers k)) (row_count numbers) i (omega arith)
    (sym (ap row_too_wide (row_part numbers i)) ∙ sym c.row_too_wide.ensures ∙ c.if-row_too_wide.true))

pub loop-i-preserved : goal.loop-i-preserved
loop-i-preserved c =
    let numbers = c.args.numbers.now in
    let loop = c.loop-i in (
      omega arith,
      rw (add-one loop.i)
          (ap₂ ◌||◌ loop.invariant.1 (sym (ap row_too_wide (row_part numbers loop.i)) ∙ sym c.row_too_wide.ensures ∙ c.if-row_too_wide.false)),
    )

pub returns : goal.returns
returns c =
    let numbers = c.args.numbers.now in
    let loop = c.loop-i in
    let all : loop.i ≡ row_count numbers = omega arith in
    sym (rw (← all) loop.invariant.1)
