-- `text::put_decimal` meets its contract: the digits that `io::decimal` makes are the number's decimal text, and `put` lays them in.
-- Assumes nothing.
use Prim.Native.Nat.{ℕ}
use mathlib.Core.List.{List}
use mathlib.Core.Path.{ap, ◌∙◌, subst}
use Rattle.buffers.specs.Buffers.{Laid}
use Rattle.io.specs.Digits.{last_digits}
use Rattle.text.specs.Text.{decimal}
use Rattle.text.proofs.Laws.{fewest_width}
use Rattle.text.proofs.put_decimal.Goals as goal

pub returns : goal.returns
unfolding decimal
returns c =
    let made = c.decimal-count in
    subst (λ (text : List ℕ). Laid c.args.out.now c.args.at text c.put.result c.put.new.out)
    (made.ensures.digits
    ∙ ap (λ (k : ℕ). last_digits 10 k c.args.n) (fewest_width c.args.n made.result c.ranges.n.fits made.ensures.len))
    c.put.ensures
