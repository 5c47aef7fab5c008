-- The promise of the function for C that reads a program's operation points.
-- Assumes nothing.
use Rattle.std.specs.Prelude.{ℕ, zero, suc, ◌+◌, ◌*◌, ◌/◌, ◌^◌, ◌≤◌, ◌<◌, Bool, List, [], ◌∷◌, ◌++◌, map, length, take, drop, Err, None, Ok, Some}
use Rattle.std.proofs.Math.Bool.{true, false, cond}
use Rattle.std.proofs.Math.Option.{some}
use mathlib.Core.Path.{◌≡◌, refl, sym, ◌∙◌, ap, subst}
use Rattle.std.proofs.Common.{arith, ltb-false, length-append}
use lib.Dec.{ltb}
use Rattle.std.proofs.lemmas.List.{length-map}
use Rattle.combinators.specs.Bools.{either_way}
use Rattle.combinators.specs.Lists.{gather, gather_map}
use Rattle.framing.specs.Pieces.{Item, whole, broken, cut_within}
use Rattle.vocabulary.specs.declared.refusal.Refusal.{Refusal}
use Rattle.vocabulary.specs.declared.refusal.Refusal.TheVariants.{NoRoom}
use Rattle.vocabulary.specs.declared.stream_types.Reading.TheVariants.{Edition2015}
use Rattle.vocabulary.specs.Refusals.{number_of, place_of}
use Rattle.descriptor_heads.specs.Head.{descriptor_tag, descriptor_length}
use Rattle.closure.specs.declared.Layers.{Layers}
use Rattle.es_loop.specs.Answer.{Outcome}
use Rattle.es_loop.specs.declared.reader.LoopRead.{LoopRead}
use Rattle.es_loop.specs.Reading.{loop_read}
use Rattle.es_loop.proofs.Meant as loop
use Rattle.operation_points.specs.Parts.{walked}
use Rattle.operation_points.specs.Tables.{head_syntax}
use Rattle.operation_points.specs.declared.Head.{Head}
use Rattle.operation_points.specs.Answer.{HeadRead, FirstPoint}
use Rattle.operation_points.specs.declared.PointFault.TheVariants.{DoesNotFit, ReservedCount}
use Rattle.operation_points.specs.Points.{head_from, head_of, first_point}
use Rattle.operation_points.specs.Values.{PointValue, DescriptorValue, point_value, points_by, each_point, value_after, value_of, counts_of, reference_bytes, layer_bytes, row_of}
use Rattle.point_descriptors.specs.Descriptors.{descriptors_of, each, is_points, payload_if, too_long, program_filling, payloads_in}
use Rattle.program_points.specs.declared.PointsRead.{PointsRead}
use Rattle.program_points.specs.Told.{values_in, points_in, profiles_in, streams_of, closed_of, row_in, points_read}
use Rattle.program_points.proofs.Tallying.{streams_many}
use Rattle.program_points.proofs.Filled.{filling_is, accepted_read}
use Rattle.point_rows.specs.Rows.{descriptor_numbers, point_numbers, reference_list, layer_list, stream_list, summary_of}
use Rattle.points_meaning.specs.Telling.{PointTold, ProgramTold, Answer, refused, told, point_told, program_told, by_outcome, telling}
use Rattle.points_meaning.specs.Meaning.{Answers, loop_refused, loop_accepted, answers_40, answers_41, answers_42, tells}
use Rattle.points_meaning.proofs.Meant.{points_meant, points_only}
use Rattle.thoquenry.specs.Bounds.{SmallOutcome, small_loop}
use Rattle.thoquenry_points.specs.Reading.{Lists, lists, PointsReply, points_reply, room_for, laid_over, told_points, reply_by, read_points}
use Rattle.c_answers.specs.Answers.{accepted}
use Rattle.promised.specs.Calls.{is_listed, Promised}
use Rattle.promised.specs.Shown.{listed_first}
use Rattle.promised.specs.Readers.{read_loop, read_listed}
use Rattle.demands.specs.Told.{Told, counts, refuses, Says, for_c}
use Rattle.demands.proofs.ToldShown.{code, leaves, number_told, Fits, told_promised}
use Rattle.demands.specs.PointsRead.{ReadPointsGiven, row_told, lists_told, enough, over_all, points_told, TellsPoints, thq_read_points}

-- ---- the lists that the contract names are those of what is told

gather_same : (f g : PointValue → List ℕ) → ((v : PointValue) → f v ≡ g v) → (l : List PointValue) → gather f l ≡ gather g l
gather_same f g e [] = refl
gather_same f g e (v ∷ l) = mathlib.Core.Path.ap₂ (λ (a b : List ℕ). a ++ b) (e v) (gather_same f g e l)

module _ (layers : Layers) (program : List ℕ) where
  rows : gather row_told (map (point_told layers) (points_in program)) ≡ point_numbers layers program
  rows =
      gather_map row_told (point_told layers) (points_in program)
      ∙ gather_same (λ v. row_told (point_told layers v)) (row_in layers) (λ v. ap (λ (n : ℕ). row_of n (closed_of layers v) v) (streams_many layers v)) (points_in program)

  references : gather (λ point. reference_bytes point.fields) (map (point_told layers) (points_in program)) ≡ reference_list program
  references = gather_map (λ point. reference_bytes point.fields) (point_told layers) (points_in program)

  flags : gather (λ point. layer_bytes point.fields) (map (point_told layers) (points_in program)) ≡ layer_list program
  flags = gather_map (λ point. layer_bytes point.fields) (point_told layers) (points_in program)

  streams : gather (λ point. point.streams) (map (point_told layers) (points_in program)) ≡ stream_list layers program
  streams = gather_map (λ point. point.streams) (point_told layers) (points_in program)

  many : length (map (point_told layers) (points_in program)) ≡ length (points_in program)
  many = length-map (points_in program) (point_told layers)

  abbrev named : Lists
  named =
      lists (descriptor_numbers program) (profiles_in program) (point_numbers layers program) (reference_list program) (layer_list program) (stream_list layers program)
      (summary_of layers program)

  same_lists : lists_told (program_told layers program) ≡ named
  same_lists =
      λ i. lists (descriptor_numbers program) (profiles_in program) (rows i) (references i) (flags i) (streams i)
      (length (values_in program) ∷ length (profiles_in program) / 12 ∷ many i ∷ length (references i) ∷ length (flags i) ∷ length (streams i) ∷ [])

  -- what the contract names, and what is told
  tells_accepted : (old : Lists) → told_points layers program old
      ≡ points_reply (code (points_told (told (program_told layers program)) old)) (leaves (points_told (told (program_told layers program)) old) old)
  unfolding room_for laid_over
  tells_accepted old =
      by (enough named old)
      ∙ ap (λ (n : ℕ). points_reply (code (cond (enough named old) (counts n (over_all named old)) (refuses NoRoom))) (leaves (cond (enough named old) (counts n (over_all named old)) (refuses NoRoom)) old))
      (sym many)
      ∙ ap (λ (l : Lists). points_reply (code (cond (enough l old) (counts (length (map (point_told layers) (points_in program))) (over_all l old)) (refuses NoRoom)))
      (leaves (cond (enough l old) (counts (length (map (point_told layers) (points_in program))) (over_all l old)) (refuses NoRoom)) old)) (sym same_lists)
    where
      by : (b : Bool)
          → cond b (points_reply (accepted (length (points_in program))) (over_all named old)) (points_reply (Rattle.c_answers.specs.Answers.refused NoRoom) old)
          ≡ points_reply (code (cond b (counts (length (points_in program)) (over_all named old)) (refuses NoRoom))) (leaves (cond b (counts (length (points_in program)) (over_all named old)) (refuses NoRoom)) old)
      by true = refl
      by false = refl

tells_by : (outcome : Outcome) (layers : Layers) (program : List ℕ) (old : Lists)
    → reply_by outcome layers program old ≡ points_reply (code (points_told (by_outcome outcome layers program) old)) (leaves (points_told (by_outcome outcome layers program) old) old)
tells_by (Err refusal) layers program old = refl
tells_by (Ok _) layers program old = tells_accepted layers program old

replied : (program bytes : List ℕ) (old : Lists)
    → read_points program bytes old ≡ points_reply (code (points_told (telling program (points_read program bytes)) old)) (leaves (points_told (telling program (points_read program bytes)) old) old)
unfolding read_points
replied program bytes old = tells_by (points_read program bytes).outcome (points_read program bytes).layers program old

-- ---- no more points than a caller gets back whole

-- operation_points_count has eight bits
eight_bits : (payload : List ℕ) → (head_from (walked head_syntax [] 0 payload)).operation_points_count < 256
eight_bits payload = omega arith

head_small : (payload : List ℕ) (head : Head) → head_of payload ≡ Some head → head.operation_points_count < 256
unfolding head_of
head_small payload head = go (lib.Dec.leb (walked head_syntax [] 0 payload).end (length payload))
  where
    go : (f : Bool) → cond f (Some (head_from (walked head_syntax [] 0 payload))) None ≡ Some head → head.operation_points_count < 256
    go false e = let z : ◌≡◌ {A = ℕ} 0 1 = cc in absurd (omega arith)
    go true e =
        let same : head_from (walked head_syntax [] 0 payload) ≡ head = cc in
        subst (λ (h : Head). h.operation_points_count < 256) same (eight_bits payload)

at_most : (count : ℕ) (left : List ℕ) → length (each_point point_value count left) ≤ count
at_most zero left = omega arith
at_most (suc count) left = go (first_point left) (λ size. at_most count (drop size left))
  where
    go : (a : FirstPoint) → ((size : ℕ) → length (each_point point_value count (drop size left)) ≤ count)
        → length (points_by a (λ point. point_value point left) (λ size. each_point point_value count (drop size left))) ≤ suc count
    go (Ok point) later = omega (arith, later point.size)
    go (Err DoesNotFit) later = omega arith
    go (Err ReservedCount) later = omega arith

payload_few : (payload : List ℕ) → length (value_of payload).points ≤ 255
payload_few payload = go (head_of payload) refl
  where
    go : (a : HeadRead) → head_of payload ≡ a → length (value_after a payload).points ≤ 255
    go None e = omega arith
    go (Some head) e =
        omega (arith, at_most head.operation_points_count (drop head.points_at payload), head_small payload head e)

points_few : (payloads : List (List ℕ)) → length (gather (λ value. value.points) (map value_of payloads)) ≤ 255 * length payloads
points_few [] = omega arith
points_few (payload ∷ payloads) =
    let split : 255 * suc (length payloads) ≡ 255 + 255 * length payloads = omega arith in
    omega (arith, payload_few payload, points_few payloads, split, length-append (value_of payload).points (gather (λ value. value.points) (map value_of payloads)))

items_few : (n : ℕ) (l : List ℕ) → length (cut_within 2 descriptor_length n l) ≤ n
items_few zero l = omega arith
items_few (suc n) [] = omega arith
items_few (suc n) (b ∷ l) =
    go (lib.Dec.leb (2 + descriptor_length (b ∷ l)) (length (b ∷ l))) (whole (take 2 (b ∷ l)) (take (descriptor_length (b ∷ l)) (drop 2 (b ∷ l))))
    (cut_within 2 descriptor_length n (drop (2 + descriptor_length (b ∷ l)) (b ∷ l))) (items_few n (drop (2 + descriptor_length (b ∷ l)) (b ∷ l)))
  where
    go : (c : Bool) (first : Item) (later : List Item) → length later ≤ n → length (cond c (first ∷ later) (broken ∷ [])) ≤ suc n
    go true first later h = omega arith
    go false first later h = omega arith

payloads_few : (items : List Item) (at : ℕ) → length (each payload_if at items) ≤ length items
payloads_few [] at = omega arith
payloads_few (broken ∷ items) at = omega arith
payloads_few (whole head body ∷ items) at =
    omega (
      arith,
      payloads_few items (at + (2 + length body)),
      one (is_points (descriptor_tag head) body),
      length-append (payload_if at (descriptor_tag head) body) (each payload_if (at + (2 + length body)) items),
    )
  where
    one : (b : Bool) → length (cond b (drop 1 body ∷ []) []) ≤ 1
    one true = omega arith
    one false = omega arith

few_points : (program : List ℕ) → program_filling program ≡ Ok tt → length (points_in program) ≤ 257040
few_points program e =
    omega (arith, points_few (payloads_in program), payloads_few (descriptors_of program) 0, items_few (length program) program, short (too_long program) refl e)
  where
    short : (t : Bool) → too_long program ≡ t → cond t (Err DoesNotFit) (Rattle.point_descriptors.specs.Descriptors.worst (Ok tt) (map Rattle.point_descriptors.specs.Descriptors.filling_in (descriptors_of program))) ≡ Ok tt
        → length program ≤ 1008
    short true p f = let z : ◌≡◌ {A = ℕ} 0 1 = cc in absurd (omega arith)
    short false p f = ltb-false 1008 (length program) p

-- ---- the refusals are listed: those of the loop, three at place 0, and 17

abbrev Good : Lists → Answer → Type 0
Good room answer = (is_listed thq_read_points.numbers (number_told (points_told answer room)) ≡ true) × Fits (points_told answer room)

refused_good : {program bytes : List ℕ} {refusal : Refusal} (room : Lists) → Answers program bytes (refused refusal) → Good room (refused refusal)
refused_good {program} {bytes} {refusal} room (loop_refused l) =
    let same : ◌≡◌ {A = Outcome} (Err refusal) ((loop_read Edition2015 bytes).outcome) = ap (λ (r : LoopRead). r.outcome) (loop.answer_only Edition2015 bytes l) in
    let few : place_of refusal ≤ 1008 = subst SmallOutcome (sym same) (small_loop Edition2015 bytes).0 in
    (listed_first read_loop.numbers (17 ∷ 40 ∷ 41 ∷ 42 ∷ []) (some (number_of refusal)) (read_listed l), omega arith)
refused_good room (loop_accepted l c (answers_40 m)) = (refl, omega arith)
refused_good room (loop_accepted l c (answers_41 f r)) = (refl, omega arith)
refused_good room (loop_accepted l c (answers_42 f g v x)) = (refl, omega arith)

told_good : (layers : Layers) (program : List ℕ) → program_filling program ≡ Ok tt → (room : Lists) → Good room (told (program_told layers program))
told_good layers program e room =
    either_way (λ (t : Told Lists). (is_listed thq_read_points.numbers (number_told t) ≡ true) × Fits t) (enough (lists_told (program_told layers program)) room)
    (counts (length (map (point_told layers) (points_in program))) (over_all (lists_told (program_told layers program)) room)) (refuses NoRoom)
    (refl, omega (arith, few_points program e, many layers program)) (refl, omega arith)

good : (program bytes : List ℕ) (room : Lists) → Good room (telling program (points_read program bytes))
good program bytes room = go (points_read program bytes).outcome refl (points_meant program bytes)
  where
    go : (o : Outcome) → (points_read program bytes).outcome ≡ o → Answers program bytes (by_outcome o (points_read program bytes).layers program)
        → Good room (by_outcome o (points_read program bytes).layers program)
    go (Err refusal) e a = refused_good room a
    go (Ok _) e a =
        let w = accepted_read program bytes (points_read program bytes) refl e in
        told_good (points_read program bytes).layers program (sym (filling_is program (points_read program bytes).found w.filled.is_found) ∙ w.filled.exact) room

abbrev told_read_points : ReadPointsGiven → Told Lists
told_read_points given = points_told (telling given.program (points_read given.program given.bytes)) given.lent

pub thq_points_read : Promised (for_c thq_read_points)
thq_points_read =
    told_promised thq_read_points told_read_points (record {
      asks_nothing = λ run. tt;
      ensured = λ run e. (let given = thq_read_points.given run in let r = e ∙ replied given.program given.bytes given.lent in
          (ap (λ (x : PointsReply). x.answer) r, ap (λ (x : PointsReply). x.lent) r));
      exactly = λ given answer after. (
        λ s. record { found = telling given.program (points_read given.program given.bytes); right = points_meant given.program given.bytes; said = s },
        λ t. subst (λ (x : Answer). Says (points_told x given.lent) given.lent answer after) (points_only given.program given.bytes t.right) t.said,
      );
      fits = λ given. (good given.program given.bytes given.lent).1;
      listed = λ given. (good given.program given.bytes given.lent).0;
      without_0 = refl;
    })
