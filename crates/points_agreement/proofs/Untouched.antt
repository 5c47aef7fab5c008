-- Demand 3 is untouched: `untouched`, of every two loops; and so the layers are the same beside any two programs' loops, `same_beside`.
-- Assumes nothing.
use Rattle.std.specs.Prelude.{Err, Ok}
use Prim.Native.Nat.{ℕ, ◌≤◌}
use mathlib.Core.Bool.{Bool, true, false, cond}
use mathlib.Core.List.{List, map}
use mathlib.Core.Path.{◌≡◌, refl, sym, ◌∙◌, ap, subst}
use native.Mathlib.Omega.{arith}
use lib.ListN.{length}
use Rattle.vocabulary.specs.declared.refusal.Refusal.{Refusal}
use Rattle.vocabulary.specs.declared.refusal.Refusal.TheVariants.{UnknownReference}
use Rattle.vocabulary.specs.declared.stream_types.Reading.TheVariants.{Edition2015}
use Rattle.vocabulary.specs.Refusals.{number_of}
use Rattle.closure.specs.declared.Layers.{Layers}
use Rattle.closure.specs.Answer.{Closure}
use Rattle.closure.specs.Meaning as Target
use Rattle.loop_entries.specs.declared.Entry.{Entry}
use Rattle.loop_entries.specs.declared.Stream.{Stream}
use Rattle.es_loop.specs.Answer.{Outcome}
use Rattle.es_loop.specs.declared.reader.LoopRead.{LoopRead}
use Rattle.loop_entries.specs.Entries.{entry_of}
use Rattle.es_loop.specs.Reading.{refused_with, accepted}
use Rattle.es_loop.specs.Meaning as Loop
use Rattle.es_loop.proofs.Meant.{answer_only}
use Rattle.loop_layers.specs.Closures.{loop_layers}
use Rattle.loop_layers.specs.Meaning.{LayersOf}
use Rattle.loop_layers.specs.Meaning as LoopClosure
use Rattle.rows.specs.Table.{Table, most_rows}
use Rattle.unit_lists.specs.Sequence.{Lists}
use Rattle.join_answers.specs.Answer.{Joined}
use Rattle.join_answers.specs.Meaning as Joining
use Rattle.importing.specs.Meaning as Import
use Rattle.agreement.specs.Meaning.{Accepts, Agrees}
use Rattle.agreement.proofs.Agreement.{agreement}
use Rattle.operation_points.specs.Answer.{Filling}
use Rattle.operation_points.specs.declared.PointFault.TheVariants.{DoesNotFit, ReservedCount}
use Rattle.point_descriptors.specs.Descriptors.{program_filling, found_in}
use Rattle.program_points.specs.Told.{points_in, profiles_in, is_absent, tally_of, refused_points, by_filling, by_outcome, points_read}
use Rattle.combinators.specs.Lists.{any}
use Rattle.points_meaning.specs.Telling.{ProgramTold, refused, told}
use Rattle.points_meaning.specs.Meaning.{InOrder, Listed, points_of, answers_40, answers_41, answers_42, tells, InLayers, Answers, loop_refused, loop_accepted}
use Rattle.points_meaning.proofs.Meant.{layers_read}
use Rattle.points_agreement.specs.Untouched.{Untouched}

-- ---- the layers that are given back

filling_layers : (f : Filling) (layers : Layers) (program : List ℕ) → (by_filling f layers program).layers ≡ layers
filling_layers (Err DoesNotFit) layers program = refl
filling_layers (Err ReservedCount) layers program = refl
filling_layers (Ok _) layers program = go (any (is_absent layers) (points_in program))
  where
    go : (b : Bool)
        → (cond b (refused_points UnknownReference layers (found_in program))
        (record { outcome = Ok tt; layers = layers; found = found_in program; profile_bytes = length (profiles_in program); tally = tally_of layers (points_in program) })).layers
        ≡ layers
    go true = refl
    go false = refl

outcome_layers : (o : Outcome) (layers : Layers) (program : List ℕ) → (by_outcome o layers program).layers ≡ layers
outcome_layers (Err refusal) layers program = refl
outcome_layers (Ok _) layers program = filling_layers (program_filling program) layers program

pub layers_back : (program bytes : List ℕ) → (points_read program bytes).layers ≡ (loop_layers Edition2015 bytes).layers
layers_back program bytes = outcome_layers (loop_layers Edition2015 bytes).outcome (loop_layers Edition2015 bytes).layers program

pub same_beside : (program other bytes : List ℕ) → (points_read program bytes).layers ≡ (points_read other bytes).layers
same_beside program other bytes = layers_back program bytes ∙ sym (layers_back other bytes)

-- ---- a loop that is accepted, in the words of demand 3 and in those of the points

pub accepted_layers : {bytes : List ℕ} {entries : List Entry} {layers : Layers} → Accepts Edition2015 bytes entries layers → InLayers bytes layers
accepted_layers {layers = layers} a =
    record { streams = a.streams; accepts = a.answer; layers_are = subst (λ (es : List Entry). LayersOf es layers) (sym a.entries_are) a.layers_are }

never_refused : {bytes : List ℕ} {layers : Layers} {refusal : Refusal} → InLayers bytes layers → Loop.Answers Edition2015 bytes (refused_with refusal) → ⊥
never_refused {bytes} {refusal = refusal} l r =
    let same : refused_with refusal ≡ accepted l.streams = answer_only Edition2015 bytes r ∙ sym (answer_only Edition2015 bytes l.accepts) in
    let other : ◌≡◌ {A = Outcome} (Err refusal) (Ok tt) = ap (λ (x : LoopRead). x.outcome) same in
    let z : ◌≡◌ {A = ℕ} 0 1 = cc in omega arith

module _ (program bytes : List ℕ) where
  abbrev given : Layers
  given = (points_read program bytes).layers

  module _ {entries : List Entry} {layers : Layers} (a : Accepts Edition2015 bytes entries layers) where
    same_layers : layers ≡ given
    same_layers = layers_read (accepted_layers a) ∙ sym (layers_back program bytes)

    in_given : InLayers bytes given
    in_given = subst (InLayers bytes) same_layers (accepted_layers a)

    -- any layers of the loop are those
    one_layers : (streams : List Stream) {other : Layers} → Loop.Answers Edition2015 bytes (accepted streams) → LayersOf (map entry_of streams) other → other ≡ given
    one_layers streams answer m = layers_read (record { streams = streams; accepts = answer; layers_are = m }) ∙ sym (layers_back program bytes)

    closure_back : (target : ℕ) {answer : Closure} → LoopClosure.Answers Edition2015 bytes target answer → Target.Answers given target answer
    closure_back target (LoopClosure.loop_refused r) = absurd (never_refused in_given r)
    closure_back target {answer} (LoopClosure.loop_accepted streams l m t) = subst (λ (x : Layers). Target.Answers x target answer) (one_layers streams l m) t

    join_back : (target : ℕ) (t : Table) (before : Lists) {answer : Joined} {after : Lists} → Import.Answers Edition2015 bytes target t before answer after
        → Joining.Answers most_rows given target t before answer after
    join_back target t before (Import.loop_refused r) = absurd (never_refused in_given r)
    join_back target t before {answer} {after} (Import.loop_accepted streams l m j) =
        subst (λ (x : Layers). Joining.Answers most_rows x target t before answer after) (one_layers streams l m) j

  own : {refusal : Refusal} → Answers program bytes (refused refusal) → (40 ≤ number_of refusal → ⊥) → Loop.Answers Edition2015 bytes (refused_with refusal)
  own (loop_refused l) below = l
  own (loop_accepted l c (answers_40 m)) below = absurd (below (omega arith))
  own (loop_accepted l c (answers_41 f r)) below = absurd (below (omega arith))
  own (loop_accepted l c (answers_42 f g v x)) below = absurd (below (omega arith))

  lists_in_lem : {layers : Layers} {t : ProgramTold} → InLayers bytes layers → Answers program bytes (told t) → InOrder (Listed layers) (points_of t.descriptors) t.points
  lists_in_lem {t = t} l (loop_accepted m c (tells f g v x listed)) =
      subst (λ (y : Layers). InOrder (Listed y) (points_of t.descriptors) t.points) (layers_read m ∙ sym (layers_read l)) listed

  -- THE LAW
  pub untouched : Untouched program bytes
  untouched =
      record {
        loop_first = loop_refused;
        own_numbers = λ a h. own a (λ k. omega arith);
        loop_layers = layers_back program bytes;
        closures = λ a target answer. (
          λ t. LoopClosure.loop_accepted (in_given a).streams (in_given a).accepts (in_given a).layers_are t,
          closure_back a target,
        );
        joins = λ a target t before answer after. (
          λ j. Import.loop_accepted (in_given a).streams (in_given a).accepts (in_given a).layers_are j,
          join_back a target t before,
        );
        demand_3 = λ {entries} a target. subst (λ (x : Layers). Agrees bytes entries x target) (same_layers a) (agreement a target);
        lists = λ a t. lists_in_lem (accepted_layers a) t;
      }
