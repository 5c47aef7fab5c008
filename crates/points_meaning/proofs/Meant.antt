-- The laws that join the meaning of a program's points to what is computed: the computed answer has it, `points_meant`, and nothing else has, `points_only`; so
-- that two answers which have it are equal, `one_answer`.
-- Assumes nothing.
use Rattle.std.specs.Prelude.{Ok}
use Prim.Native.Nat.{ℕ}
use mathlib.Core.Bool.{Bool, true, false, cond}
use mathlib.Core.List.{List, map}
use mathlib.Core.Path.{◌≡◌, refl, sym, ap, ap₂, ◌∙◌, subst}
use native.Mathlib.Omega.{arith}
use lib.ListN.{length}
use Rattle.combinators.specs.Bools.{both_ways}
use Rattle.combinators.specs.Lists.{any, gather}
use Rattle.framing.specs.Pieces.{Item}
use Rattle.framing.proofs.Pieces.{cut_cuts, cuts_unique}
use Rattle.vocabulary.specs.declared.refusal.Refusal.TheVariants.{UnknownReference}
use Rattle.vocabulary.specs.declared.stream_types.Reading.TheVariants.{Edition2015}
use Rattle.descriptor_heads.specs.Head.{descriptor_length}
use Rattle.descriptor_heads.proofs.Heads.{by_tag}
use Rattle.closure.specs.declared.Layers.{Layers}
use Rattle.loop_entries.specs.declared.Entry.{Entry}
use Rattle.loop_entries.specs.declared.Stream.{Stream}
use Rattle.es_loop.specs.Answer.{Outcome}
use Rattle.es_loop.specs.declared.reader.LoopRead.{LoopRead}
use Rattle.loop_entries.specs.Entries.{stream_of, marked_streams, entry_of}
use Rattle.es_loop.specs.Meaning as Loop
use Rattle.es_loop.proofs.Meant.{answer_meant, answer_only}
use Rattle.loop_layers.specs.Layers.{layers_of}
use Rattle.loop_layers.specs.Closures.{entries_read, layers_in, loop_layers}
use Rattle.loop_layers.proofs.Meant.{layers_meant, layers_only, entries_read_lem}
use Rattle.operation_points.specs.Answer.{Filling}
use Rattle.operation_points.specs.Values.{DescriptorValue}
use Rattle.point_descriptors.specs.Descriptors.{descriptors_of, payloads_in, program_filling, found_in}
use Rattle.program_points.specs.declared.PointsRead.{PointsRead}
use Rattle.program_points.specs.Told.{values_in, points_in, profiles_in, is_absent, tally_of, refused_points, by_filling, by_outcome, read_with, points_read}
use Rattle.points_meaning.specs.Fields.{PayloadHas}
use Rattle.points_meaning.specs.Telling.{PointTold, Answer, told, telling}
use Rattle.points_meaning.specs.Meaning.{InOrder, NotInLoop, Listed, ValuesOf, points_of, AnswersIn, answers_40, answers_41, answers_42, tells, InLayers, Answers, loop_refused, loop_accepted}
use Rattle.points_meaning.proofs.Loop.{payloads_one, Judged, judged_40, judged_41, judged_fine, judged, values_meant, values_one, loop_payloads}
use Rattle.points_meaning.proofs.Points.{absent_meant, absent_only, all_listed, listed_all_one}

-- ---- in the layers of a loop

module _ (layers : Layers) (program : List ℕ) where
  in_meant : AnswersIn layers program (descriptors_of program) (telling program (by_filling (program_filling program) layers program))
  in_meant = go (judged program)
    where
      go : {f : Filling} → Judged program (descriptors_of program) f → AnswersIn layers program (descriptors_of program) (telling program (by_filling f layers program))
      go (judged_40 m) = answers_40 m
      go (judged_41 fits r) = answers_41 fits r
      go (judged_fine fits allowed exact) = by (any (is_absent layers) (points_in program)) refl
        where
          values : ValuesOf (descriptors_of program) (values_in program)
          values = record { payloads = payloads_in program; in_loop = loop_payloads program; have = values_meant (loop_payloads program) exact }

          by_absent : Bool → PointsRead
          by_absent b =
              cond b (refused_points UnknownReference layers (found_in program))
              (record {
                outcome = Ok tt;
                layers = layers;
                found = found_in program;
                profile_bytes = length (profiles_in program);
                tally = tally_of layers (points_in program);
              })

          by : (b : Bool) → any (is_absent layers) (points_in program) ≡ b → AnswersIn layers program (descriptors_of program) (telling program (by_absent b))
          by true e = answers_42 fits allowed values (absent_meant layers (points_in program) e)
          by false e = tells fits allowed values (λ n. both_ways (absent_only layers (points_in program) n) e) (all_listed layers (points_in program) e)

  -- the values of a loop's descriptors are one list
  values_same : {items : List Item} {a b : List DescriptorValue} → ValuesOf items a → ValuesOf items b → a ≡ b
  values_same {b = b} p q =
      values_one p.have (subst (λ (l : List (List ℕ)). InOrder PayloadHas l b) (payloads_one q.in_loop p.in_loop) q.have)

  in_one : {items : List Item} {a b : Answer} → AnswersIn layers program items a → AnswersIn layers program items b → a ≡ b
  in_one (answers_40 m) (answers_40 n) = refl
  in_one (answers_40 m) (answers_41 f r) = absurd (f m)
  in_one (answers_40 m) (answers_42 f g v x) = absurd (f m)
  in_one (answers_40 m) (tells f g v x l) = absurd (f m)
  in_one (answers_41 f r) (answers_40 m) = absurd (f m)
  in_one (answers_41 f r) (answers_41 g s) = refl
  in_one (answers_41 f r) (answers_42 g h v x) = absurd (h r)
  in_one (answers_41 f r) (tells g h v x l) = absurd (h r)
  in_one (answers_42 f g v x) (answers_40 m) = absurd (f m)
  in_one (answers_42 f g v x) (answers_41 h r) = absurd (g r)
  in_one (answers_42 f g v x) (answers_42 h i w y) = refl
  in_one (answers_42 f g v x) (tells h i w y l) =
      absurd (y (subst (λ (values : List DescriptorValue). NotInLoop layers (points_of values)) (values_same v w) x))
  in_one (tells f g v x l) (answers_40 m) = absurd (f m)
  in_one (tells f g v x l) (answers_41 h r) = absurd (g r)
  in_one (tells f g v x l) (answers_42 h i w y) =
      absurd (x (subst (λ (values : List DescriptorValue). NotInLoop layers (points_of values)) (values_same w v) y))
  in_one (tells {values} {points} f g v x l) (tells {values = others} {points = rest} h i w y m) =
      let same = values_same v w in
      ap₂ (λ (ds : List DescriptorValue) (ts : List PointTold). told (record { descriptors = ds; profiles = gather (λ d. d.profiles) ds; points = ts })) same
      (listed_all_one layers l (subst (λ (ds : List DescriptorValue). InOrder (Listed layers) (points_of ds) rest) (sym same) m))

-- ---- the layers of a loop that is accepted are one, and those that are computed

pub layers_read : {bytes : List ℕ} {layers : Layers} → InLayers bytes layers → layers ≡ (loop_layers Edition2015 bytes).layers
layers_read {bytes} {layers} l =
    layers_only (map entry_of l.streams) l.layers_are
    ∙ ap layers_of (sym (entries_read_lem l.streams))
    ∙ ap (λ (r : LoopRead). layers_of (entries_read r)) (answer_only Edition2015 bytes l.accepts)

pub is_accepted : {bytes : List ℕ} {layers : Layers} → InLayers bytes layers → (loop_layers Edition2015 bytes).outcome ≡ Ok tt
is_accepted {bytes} l = sym (ap (λ (r : LoopRead). r.outcome) (answer_only Edition2015 bytes l.accepts))

-- THE ANSWER: what is computed is right,
module _ (program bytes : List ℕ) where
  pub points_meant : Answers program bytes (telling program (points_read program bytes))
  points_meant = go (answer_meant Edition2015 bytes)
    where
      go : {read : LoopRead} → Loop.Answers Edition2015 bytes read → Answers program bytes (telling program (read_with (layers_in read) program))
      go (Loop.too_long_lem h) = loop_refused (Loop.too_long_lem h)
      go (Loop.refuses short c at-k lower earlier) = loop_refused (Loop.refuses short c at-k lower earlier)
      go (Loop.accepts {entries} short c sound) =
          let streams : List Stream = marked_streams (map (stream_of Edition2015) entries) in
          subst (λ (l : List Entry). Answers program bytes (telling program (by_filling (program_filling program) (layers_of l) program))) (sym (entries_read_lem streams))
          (loop_accepted
          (record { streams = streams; accepts = Loop.accepts short c sound; layers_are = layers_meant (map entry_of streams) })
          (cut_cuts 2 descriptor_length (omega arith) by_tag program) (in_meant (layers_of (map entry_of streams)) program))

  -- and nothing else is.
  pub points_only : {answer : Answer} → Answers program bytes answer → answer ≡ telling program (points_read program bytes)
  points_only (loop_refused l) = ap (λ (r : LoopRead). telling program (read_with (layers_in r) program)) (answer_only Edition2015 bytes l)
  points_only {answer} (loop_accepted {layers} {items} l c a) =
      in_one layers program (subst (λ (i : List Item). AnswersIn layers program i answer) (cuts_unique 2 descriptor_length (omega arith) by_tag c) a)
      (in_meant layers program)
      ∙ ap (λ (x : Layers). telling program (by_filling (program_filling program) x program)) (layers_read l)
      ∙ ap (λ (o : Outcome). telling program (by_outcome o (loop_layers Edition2015 bytes).layers program)) (sym (is_accepted l))

  -- One answer only.
  pub one_answer : {a b : Answer} → Answers program bytes a → Answers program bytes b → a ≡ b
  one_answer p q = points_only p ∙ sym (points_only q)
