-- `found_first` meets its contract: the test says whether the length is 8.
-- Assumes nothing.
use mathlib.Core.Path.{ap}
use borrow.Author.Tests.{eq-eqb, ne_eqb}
use lib.ListN.{length}
use Rattle.mvc_extension.specs.declared.MvcExtension.{MvcExtension}
use Rattle.mvc_descriptors.specs.declared.Found.TheVariants.{One}
use Rattle.mvc_descriptors.proofs.found_first.Goals as goal

pub returns-then-payload-ne8 : goal.returns-then-payload-ne8
returns-then-payload-ne8 c = rw (ne_eqb (length c.args.payload.now) 8 c.if-payload-ne8.true)

pub returns : goal.returns
returns c =
    rw (eq-eqb (length c.args.payload.now) 8 c.if-payload-ne8.false)
    (ap (λ (x : MvcExtension). One x) c.read_mvc_extension.ensures)
