-- `found_by` meets its contract: the test says whether the tag is 49.
-- Assumes nothing.
use borrow.Author.Tests.{ne_eqb}
use Rattle.mvc_descriptors.proofs.found_by.Goals as goal

pub returns-then-tag-eq-MVC_EXTENSION_TAG : goal.returns-then-tag-eq-MVC_EXTENSION_TAG
returns-then-tag-eq-MVC_EXTENSION_TAG c = rw c.if-tag-eq-MVC_EXTENSION_TAG.true c.found_next.ensures

pub returns : goal.returns
returns c = rw (ne_eqb c.args.tag 49 c.if-tag-eq-MVC_EXTENSION_TAG.false)
