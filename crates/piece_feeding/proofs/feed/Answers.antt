-- `piece_feeding::feed` meets its contract: one half of the piece after the other. Assumes nothing.
use native.Mathlib.Omega.{arith}
use mathlib.Core.Path.{refl, sym, ◌∙◌}
use lib.ListN.{length}
use lib.Seq.{length-take-le}
use Rattle.piece_feeding.proofs.Both.{halves_fed, count_long, all_used, number_next, fits_front, same_room, used_up, rest_bound}
use Rattle.piece_feeding.proofs.feed.Goals as goal

pub overflow_sub-progress : goal.overflow_sub-progress
overflow_sub-progress c = omega (arith, c.requires.1.short)

pub slice_bounds-feed_front-end : goal.slice_bounds-feed_front-end
slice_bounds-feed_front-end c =
    let a = c.args in
    sym (length-take-le c.min-count.result a.bytes.now (count_long a.progress.part c.min-count.result (length a.bytes.now) c.min-count.ensures))

pub feed_front-first-requires : goal.feed_front-first-requires
feed_front-first-requires c =
    let a = c.args in (
      fits_front a.progress.part c.min-count.result (length a.bytes.now) a.bytes.now refl c.min-count.ensures c.requires.1.short,
      omega (arith, c.requires.0),
      c.requires.1,
      c.requires.2,
    )

pub returns-then-first-ne0 : goal.returns-then-first-ne0
returns-then-first-ne0 c =
    used_up (all_used c.args.bytes.now c.min-count.ensures c.requires.1 c.feed_front-first.ensures c.if-first-ne0.true) c.feed_front-first.ensures

pub feed_rest-requires : goal.feed_rest-requires
feed_rest-requires c =
    let a = c.args in
    let next = number_next a.bytes.now c.min-count.ensures c.requires.1 c.feed_front-first.ensures in (
      c.if-first-ne0.false,
      rest_bound a.progress.number a.bytes.now c.min-count.result next c.requires.0,
      c.feed_front-first.ensures.ready,
      same_room a.room a.indices.now a.decodings.now a.matches.now a.trefs.now a.numbers.now c.feed_front-first.new.indices c.feed_front-first.new.decodings c.feed_front-first.new.matches c.feed_front-first.new.trefs c.feed_front-first.new.numbers
          c.indices-1.given c.decodings-1.given c.matches-1.given c.trefs-1.given c.numbers-1.given c.requires.2,
    )

pub shape_of-part : goal.shape_of-part
shape_of-part c = c.part-2-1.given ∙ c.part-1.given

pub shape_of-kept : goal.shape_of-kept
shape_of-kept c = c.kept-2-1.given ∙ c.kept-1.given

pub shape_of-indices : goal.shape_of-indices
shape_of-indices c = c.indices-2-1.given ∙ c.indices-1.given

pub shape_of-decodings : goal.shape_of-decodings
shape_of-decodings c = c.decodings-2-1.given ∙ c.decodings-1.given

pub shape_of-matches : goal.shape_of-matches
shape_of-matches c = c.matches-2-1.given ∙ c.matches-1.given

pub shape_of-trefs : goal.shape_of-trefs
shape_of-trefs c = c.trefs-2-1.given ∙ c.trefs-1.given

pub shape_of-numbers : goal.shape_of-numbers
shape_of-numbers c = c.numbers-2-1.given ∙ c.numbers-1.given

pub returns : goal.returns
returns c = halves_fed c.min-count.result c.feed_front-first.ensures c.feed_rest.ensures
