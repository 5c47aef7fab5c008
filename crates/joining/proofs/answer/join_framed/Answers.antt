-- `joining::answer::join_framed` meets its contract: each return is a case of the definition (Answering), given what its calls answer; and each list that was lent is
-- as long as it was. Assumes nothing.
-- ---- what it is about
use Prim.Native.Nat.{◌≤◌}
use mathlib.Core.Bool.{false}
use mathlib.Core.Path.{◌≡◌, refl, sym, ◌∙◌, ap}
use native.Mathlib.Omega.{arith}
use lib.ListN.{length}
use Rattle.rows.specs.Table.{Table, table}
use Rattle.spans.specs.Spans.{wide_span}
use Rattle.heads.specs.Units.{Frame, frame}
use Rattle.unit_lists.specs.Sequence.{unit_rows, unit_sizes, Lists, lists}
use Rattle.unit_lists.proofs.Written.{writable, written}
use Rattle.join_answers.specs.Joining.{closure_rows, too_small, room_of}
use Rattle.join_answers.proofs.Rooms.{rows_fit, sizes_fit}
use Rattle.joining.proofs.Answering.{index_ready, whole_frame, unpaired_answer, shared_answer, wide_answer, room_answer, units_answer, paired_first, apart_first, held, Enough, enough}
use Rattle.joining.proofs.answer.join_framed.Goals as goal
use Rattle.joining.proofs.answer.join_framed.Goals.{After-judge-judged, Else-measure, Else-too_small}

-- ---- the needs

abbrev table_in : After-judge-judged → Table
table_in c = table c.args.indices.now c.args.decodings.now c.args.matches.now

abbrev frameIn : After-judge-judged → Frame
frameIn c = frame c.args.closure c.args.claimed.now c.args.own.now c.args.edges.now

abbrev before : After-judge-judged → Lists
before c = lists c.args.numbers.now c.args.lags.now c.args.sizes.now

-- what is known where no head lacks an assembly and none shares a row, of closure rows that do not lie too far apart
narrow : (c : Else-measure) → wide_span (table c.args.indices.now c.args.decodings.now c.args.matches.now) c.args.closure ≡ false
narrow c = sym c.measure.ensures.wide ∙ c.if-measure.false

room_there : (c : Else-too_small) → Enough (room_of (lists c.args.numbers.now c.args.lags.now c.args.sizes.now)) (closure_rows (table c.args.indices.now c.args.decodings.now c.args.matches.now) c.args.closure)
room_there c = enough (room_of (lists c.args.numbers.now c.args.lags.now c.args.sizes.now)) _ (sym (c.too_small.ensures ∙ ap (too_small (room_of (lists c.args.numbers.now c.args.lags.now c.args.sizes.now))) c.closure_rows-rows.ensures) ∙ c.if-too_small.false)

pub judge-judged-requires : goal.judge-judged-requires
judge-judged-requires c = (
  index_ready _ _ _ c.requires.0 _ _ c.requires.1 c.requires.2,
  whole_frame _ _ _ c.requires.0,
  c.requires.3.for_claimed,
  c.requires.3.for_used,
  c.requires.3.for_kept,
  c.requires.3.for_places,
)

pub shape_of-order-then-judged-none : goal.shape_of-order-then-judged-none
shape_of-order-then-judged-none c = refl

pub shape_of-kept-then-judged-none : goal.shape_of-kept-then-judged-none
shape_of-kept-then-judged-none c = c.kept-1.given

pub shape_of-places-then-judged-none : goal.shape_of-places-then-judged-none
shape_of-places-then-judged-none c = c.places-1.given

pub shape_of-used-then-judged-none : goal.shape_of-used-then-judged-none
shape_of-used-then-judged-none c = c.used-1.given

pub returns-then-judged-none : goal.returns-then-judged-none
returns-then-judged-none c = record {
  answer = unpaired_answer (table_in (goal.at.returns-then-judged-none c).After-judge-judged) (frameIn (goal.at.returns-then-judged-none c).After-judge-judged) (room_of (before (goal.at.returns-then-judged-none c).After-judge-judged)) _ _ _ c.judge-judged.ensures c.if-judged-none.true;
  content = refl;
}

pub shape_of-order-then-judged-none-2 : goal.shape_of-order-then-judged-none-2
shape_of-order-then-judged-none-2 c = refl

pub shape_of-kept-then-judged-none-2 : goal.shape_of-kept-then-judged-none-2
shape_of-kept-then-judged-none-2 c = c.kept-1.given

pub shape_of-places-then-judged-none-2 : goal.shape_of-places-then-judged-none-2
shape_of-places-then-judged-none-2 c = c.places-1.given

pub shape_of-used-then-judged-none-2 : goal.shape_of-used-then-judged-none-2
shape_of-used-then-judged-none-2 c = c.used-1.given

pub returns-then-judged-none-2 : goal.returns-then-judged-none-2
returns-then-judged-none-2 c = record {
  answer = shared_answer (table_in (goal.at.returns-then-judged-none-2 c).After-judge-judged) (frameIn (goal.at.returns-then-judged-none-2 c).After-judge-judged) (room_of (before (goal.at.returns-then-judged-none-2 c).After-judge-judged)) _ _ _ c.judge-judged.ensures c.if-judged-none.false c.if-judged-none-2.true;
  content = refl;
}

pub measure-requires : goal.measure-requires
measure-requires c = (c.requires.0.orderly.decoded, c.requires.3.for_keys)

pub shape_of-order-then-measure : goal.shape_of-order-then-measure
shape_of-order-then-measure c = refl

pub shape_of-keys-then-measure : goal.shape_of-keys-then-measure
shape_of-keys-then-measure c = c.keys-1.given

pub shape_of-kept-then-measure : goal.shape_of-kept-then-measure
shape_of-kept-then-measure c = c.kept-1.given

pub shape_of-places-then-measure : goal.shape_of-places-then-measure
shape_of-places-then-measure c = c.places-1.given

pub shape_of-used-then-measure : goal.shape_of-used-then-measure
shape_of-used-then-measure c = c.used-1.given

pub returns-then-measure : goal.returns-then-measure
returns-then-measure c = record {
  answer = wide_answer (table_in (goal.at.returns-then-measure c).After-judge-judged) (frameIn (goal.at.returns-then-measure c).After-judge-judged) (room_of (before (goal.at.returns-then-measure c).After-judge-judged)) _ _ _ c.judge-judged.ensures c.if-judged-none.false c.if-judged-none-2.false _ c.measure.ensures.wide c.if-measure.true;
  content = refl;
}

pub closure_rows-rows-requires : goal.closure_rows-rows-requires
closure_rows-rows-requires c = c.requires.1

pub shape_of-order-then-too_small : goal.shape_of-order-then-too_small
shape_of-order-then-too_small c = refl

pub shape_of-keys-then-too_small : goal.shape_of-keys-then-too_small
shape_of-keys-then-too_small c = c.keys-1.given

pub shape_of-kept-then-too_small : goal.shape_of-kept-then-too_small
shape_of-kept-then-too_small c = c.kept-1.given

pub shape_of-places-then-too_small : goal.shape_of-places-then-too_small
shape_of-places-then-too_small c = c.places-1.given

pub shape_of-used-then-too_small : goal.shape_of-used-then-too_small
shape_of-used-then-too_small c = c.used-1.given

pub returns-then-too_small : goal.returns-then-too_small
returns-then-too_small c = record {
  answer = room_answer (table_in (goal.at.returns-then-too_small c).After-judge-judged) (frameIn (goal.at.returns-then-too_small c).After-judge-judged) (room_of (before (goal.at.returns-then-too_small c).After-judge-judged)) _ _ _ c.judge-judged.ensures c.if-judged-none.false c.if-judged-none-2.false (narrow (goal.at.returns-then-too_small c).Else-measure) _ c.closure_rows-rows.ensures _
      c.too_small.ensures c.if-too_small.true;
  content = refl;
}

pub write_units-requires : goal.write_units-requires
write_units-requires c =
    let t = table_in (goal.at.write_units-requires c).After-judge-judged in
    let f = frameIn (goal.at.write_units-requires c).After-judge-judged in
    let room = room_of (before (goal.at.write_units-requires c).After-judge-judged) in
    let found = c.judge-judged.ensures in
    let known = c.requires.0 in
    let paired = paired_first t f room _ _ _ found c.if-judged-none.false in
    let apart = apart_first t f room _ _ _ found c.if-judged-none.false c.if-judged-none-2.false in
    let places = room_there (goal.at.write_units-requires c).Else-too_small in
    let few : length (unit_rows t f) ≤ closure_rows t c.args.closure =
    rows_fit known.layers known.target c.args.closure t known.orderly f known.framed paired apart in
    let few-sizes : length (unit_sizes t f) ≤ closure_rows t c.args.closure =
    sizes_fit known.layers known.target c.args.closure t known.orderly f known.framed in
    writable t f _ _ (held t f room _ _ _ found c.if-judged-none.false c.if-judged-none-2.false) known.layers known.target known.orderly (narrow (goal.at.write_units-requires c).Else-measure) _ _ c.requires.1 c.requires.2 _ _
    c.requires.3.for_keys c.measure.ensures.keyed c.requires.3.for_claimed _ _ _ _ c.requires.3.for_heads (omega (arith, few, places.for_numbers)) (omega (arith, few, places.for_lags))
    (omega (arith, few-sizes, places.for_sizes))

pub shape_of-order : goal.shape_of-order
shape_of-order c = c.order-1.given

pub shape_of-keys : goal.shape_of-keys
shape_of-keys c = c.keys-1.given

pub shape_of-kept : goal.shape_of-kept
shape_of-kept c = c.kept-1.given

pub shape_of-places : goal.shape_of-places
shape_of-places c = c.places-1.given

pub shape_of-heads : goal.shape_of-heads
shape_of-heads c = c.heads-1.given

pub shape_of-used : goal.shape_of-used
shape_of-used c = c.used-1.given

pub shape_of-numbers : goal.shape_of-numbers
shape_of-numbers c = c.numbers-1.given

pub shape_of-lags : goal.shape_of-lags
shape_of-lags c = c.lags-1.given

pub shape_of-sizes : goal.shape_of-sizes
shape_of-sizes c = c.sizes-1.given

pub returns : goal.returns
returns c =
    let t = table_in (goal.at.returns c).After-judge-judged in
    let f = frameIn (goal.at.returns c).After-judge-judged in
    let room = room_of (before (goal.at.returns c).After-judge-judged) in
    let found = c.judge-judged.ensures in record {
      answer = units_answer t f room _ _ _ found c.if-judged-none.false c.if-judged-none-2.false (narrow (goal.at.returns c).Else-measure) _ c.closure_rows-rows.ensures _ c.too_small.ensures c.if-too_small.false;
      content = c.write_units.ensures ∙ written t f _ _ (held t f room _ _ _ found c.if-judged-none.false c.if-judged-none-2.false) (before (goal.at.returns c).After-judge-judged);
    }
