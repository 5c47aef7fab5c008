-- `vocabulary::knows` meets its contract: which arm was taken says which reading it is, and that the stream type is one of the
-- reading's known types, lies in a range of them, or is none of them.
-- Assumes nothing.
use native.Mathlib.Omega.{arith}
use mathlib.Core.Path.{◌∙◌, ap, sym, refl}
use Rattle.combinators.specs.Members.{no_member, range_member}
use Rattle.vocabulary.specs.declared.stream_types.Reading.{Reading}
use Rattle.vocabulary.specs.declared.stream_types.Reading.TheVariants.{Edition2009, Edition2015}
use Rattle.vocabulary.specs.StreamTypes.{known, known_types}
use Rattle.vocabulary.proofs.stream_types.knows.Goals as goal

pub returns-in_default : goal.returns-in_default
returns-in_default c =
    sym (ap (λ (r : Reading). known r c.args.stream_type) c.in-Edition2009.is ∙ (no_member c.args.stream_type (known_types Edition2009) (omega arith)))

pub returns-in_default-2 : goal.returns-in_default-2
returns-in_default-2 c =
    sym (ap (λ (r : Reading). known r c.args.stream_type) c.in-Edition2009.is ∙ (no_member c.args.stream_type (known_types Edition2009) (omega arith)))

pub returns-in-27 : goal.returns-in-27
returns-in-27 c =
    sym (ap (λ (r : Reading). known r c.args.stream_type) c.in-Edition2009.is ∙ (rw c.in-27.is))

pub returns-in-27-2 : goal.returns-in-27-2
returns-in-27-2 c =
    sym (ap (λ (r : Reading). known r c.args.stream_type) c.in-Edition2009.is ∙ (range_member 31 33 (known_types Edition2009) refl c.args.stream_type (omega arith) (omega arith)))

pub returns-in-40-to-43 : goal.returns-in-40-to-43
returns-in-40-to-43 c =
    sym (ap (λ (r : Reading). known r c.args.stream_type) c.in-Edition2015.is ∙ (range_member 40 44 (known_types Edition2015) refl c.args.stream_type (omega arith) (omega arith)))

pub returns-in_default-stream_type : goal.returns-in_default-stream_type
returns-in_default-stream_type c =
    sym (ap (λ (r : Reading). known r c.args.stream_type) c.in-Edition2015.is ∙ (no_member c.args.stream_type (known_types Edition2015) (omega arith)))

pub returns-in_default-stream_type-2 : goal.returns-in_default-stream_type-2
returns-in_default-stream_type-2 c =
    sym (ap (λ (r : Reading). known r c.args.stream_type) c.in-Edition2015.is ∙ (no_member c.args.stream_type (known_types Edition2015) (omega arith)))

pub returns-in_default-stream_type-3 : goal.returns-in_default-stream_type-3
returns-in_default-stream_type-3 c =
    sym (ap (λ (r : Reading). known r c.args.stream_type) c.in-Edition2015.is ∙ (no_member c.args.stream_type (known_types Edition2015) (omega arith)))

pub returns-in_default-stream_type-4 : goal.returns-in_default-stream_type-4
returns-in_default-stream_type-4 c =
    sym (ap (λ (r : Reading). known r c.args.stream_type) c.in-Edition2015.is ∙ (no_member c.args.stream_type (known_types Edition2015) (omega arith)))

pub returns-in-27-stream_type : goal.returns-in-27-stream_type
returns-in-27-stream_type c =
    sym (ap (λ (r : Reading). known r c.args.stream_type) c.in-Edition2015.is ∙ (rw c.in-27-stream_type.is))

pub returns-in-27-stream_type-2 : goal.returns-in-27-stream_type-2
returns-in-27-stream_type-2 c =
    sym (ap (λ (r : Reading). known r c.args.stream_type) c.in-Edition2015.is ∙ (range_member 31 33 (known_types Edition2015) refl c.args.stream_type (omega arith) (omega arith)))

pub returns-in-27-stream_type-3 : goal.returns-in-27-stream_type-3
returns-in-27-stream_type-3 c =
    sym (ap (λ (r : Reading). known r c.args.stream_type) c.in-Edition2015.is ∙ (range_member 36 38 (known_types Edition2015) refl c.args.stream_type (omega arith) (omega arith)))
