-- `judging::extension_on` meets its contract: the stream type lies in a range of the types, or in none.
-- Assumes nothing.
use mathlib.Core.Path.{refl, sym}
use native.Mathlib.Omega.{arith}
use Rattle.combinators.specs.Members.{no_member, range_member}
use Rattle.judging.specs.Judging.{extension_on}
use Rattle.judging.proofs.extension_on.Goals as goal

pub returns-in-36 : goal.returns-in-36
returns-in-36 c = sym (range_member 36 38 extension_on refl c.args.stream_type (omega arith) (omega arith))

pub returns-in-36-2 : goal.returns-in-36-2
returns-in-36-2 c = sym (range_member 40 44 extension_on refl c.args.stream_type (omega arith) (omega arith))

pub returns-in_default : goal.returns-in_default
returns-in_default c = sym (no_member c.args.stream_type extension_on (omega arith))

pub returns-in_default-2 : goal.returns-in_default-2
returns-in_default-2 c = sym (no_member c.args.stream_type extension_on (omega arith))

pub returns-in_default-3 : goal.returns-in_default-3
returns-in_default-3 c = sym (no_member c.args.stream_type extension_on (omega arith))
