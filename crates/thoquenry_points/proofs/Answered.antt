-- What was read, as it is laid into the lists: how long each has to be, that there is room, and what they hold afterwards.
-- Assumes nothing.
use Rattle.std.specs.Prelude.{Err, Ok}
use Prim.Native.Nat.{ℕ, suc, ◌+◌, ◌*◌, ◌/◌, ◌≤◌, ◌<◌}
use mathlib.Core.Bool.{Bool, true, false, cond, ◌&&◌}
use mathlib.Core.List.{List, [], ◌∷◌}
use mathlib.Core.Path.{◌≡◌, refl, sym, ap, ap₂, ◌∙◌, subst}
use native.Mathlib.Omega.{arith}
use borrow.Author.Tests.{leb-true}
use lib.Dec.{leb}
use lib.ListN.{length, get_or, take, length-append}
use Rattle.combinators.specs.Bools.{both_left, both_right}
use Rattle.combinators.specs.Lists.{gather, gather_map}
use Rattle.syntax.specs.Table.{AreBytes}
use Rattle.buffers.specs.Buffers.{over, Laid}
use Rattle.buffers.proofs.Laws.{laid_over_lem}
use Rattle.vocabulary.specs.declared.refusal.Refusal.{Refusal}
use Rattle.vocabulary.specs.declared.refusal.Refusal.TheVariants.{NoRoom}
use Rattle.es_loop.specs.Answer.{Outcome}
use Rattle.operation_points.specs.Values.{PointValue, counts_of, reference_bytes, layer_bytes}
use Rattle.program_points.specs.declared.PointsRead.{PointsRead}
use Rattle.program_points.specs.declared.Tally.{Tally}
use Rattle.program_points.specs.Places.{value_at, profiles_at, counts_at}
use Rattle.program_points.specs.Told.{values_in, points_in, profiles_in, streams_of, row_in, points_read}
use Rattle.program_points.proofs.Tallying.{parts_of, references_many, flags_many, streams_many, count_small, head_parts, profiles_many}
use Rattle.program_points.proofs.Filled.{points_room, payloads_room, all_points, all_payloads, values_taken, profiles_taken, counts_taken, counted, points_counted, not_long, points_short, payloads_short, accepted_read}
use Rattle.point_rows.specs.Rows.{descriptor_numbers, point_numbers, reference_list, layer_list, stream_list, summary_of}
use Rattle.c_answers.specs.Answers.{accepted, refused}
use Rattle.thoquenry_points.specs.Reading.{Lists, lists, PointsReply, points_reply, room_for, laid_over, told_points, reply_by, reply_to, read_points, Ready}

-- ---- lengths of what is gathered

gather_each : {A : Type 0} (f : A → List ℕ) (k : ℕ) → ((x : A) → length (f x) ≡ k) → (l : List A) → k * length l ≡ length (gather f l)
gather_each f k h [] = omega arith
gather_each f k h (x ∷ l) =
    let later = gather_each f k h l in
    let split : k * suc (length l) ≡ k + k * length l = omega arith in
    split ∙ ap₂ (λ (m n : ℕ). m + n) (sym (h x)) later ∙ sym (length-append (f x) (gather f l))

gather_most : (f : ℕ → List ℕ) (m : ℕ) (l : List ℕ) → ((k : ℕ) → k < length l → length (f (get_or l k 0)) ≤ m) → length (gather f l) ≤ m * length l
gather_most f m [] h = omega arith
gather_most f m (x ∷ l) h =
    let later = gather_most f m l (λ k g. h (suc k) (omega arith)) in
    let split : m * suc (length l) ≡ m + m * length l = omega arith in
    omega (arith, later, h 0 (omega arith), split, length-append (f x) (gather f l))

-- at most 1,008 of each of at most 336
few : (n k : ℕ) → n ≤ 1008 * k → k ≤ 336 → n ≤ 1000000
few n k h s = omega arith

-- seven tests that all hold
all_true : (a b c d e f g : Bool) → a && (b && (c && (d && (e && (f && g))))) ≡ true
    → (a ≡ true) × (b ≡ true) × (c ≡ true) × (d ≡ true) × (e ≡ true) × (f ≡ true) × (g ≡ true)
all_true a b c d e f g h =
    let h₁ = both_right a (b && (c && (d && (e && (f && g))))) h in
    let h₂ = both_right b (c && (d && (e && (f && g)))) h₁ in
    let h₃ = both_right c (d && (e && (f && g))) h₂ in
    let h₄ = both_right d (e && (f && g)) h₃ in
    let h₅ = both_right e (f && g) h₄ in (
      both_left a (b && (c && (d && (e && (f && g))))) h,
      both_left b (c && (d && (e && (f && g)))) h₁,
      both_left c (d && (e && (f && g))) h₂,
      both_left d (e && (f && g)) h₃,
      both_left e (f && g) h₄,
      both_left f g h₅,
      both_right f g h₅,
    )

module _ (program : List ℕ) (b : AreBytes program) (read : PointsRead) (ready : Ready program read) where
  -- ---- by places, and by values

  pub at_values : (f : PointValue → List ℕ)
      → gather (λ at. f (value_at program at)) (take read.found.count read.found.points) ≡ gather f (points_in program)
  at_values f =
      sym (gather_map f (value_at program) (take read.found.count read.found.points))
      ∙ ap (gather f) (values_taken program b read.found ready.filled)

  -- ---- how long the lists have to be

  pub two_each : 2 * read.found.descriptors ≡ length (descriptor_numbers program)
  two_each =
      ap (λ (n : ℕ). 2 * n) (counted program b read.found ready.filled) ∙ gather_each counts_of 2 (λ v. refl) (values_in program)

  pub twelve_each : 12 * read.found.count ≡ length (point_numbers read.layers program)
  twelve_each =
      ap (λ (n : ℕ). 12 * n) (points_counted program b read.found ready.filled) ∙ gather_each (row_in read.layers) 12 (λ v. refl) (points_in program)

  pub references_told : read.tally.references ≡ length (reference_list program)
  references_told = ap (λ (t : Tally). t.references) ready.tally_is

  pub flags_told : read.tally.flags ≡ length (layer_list program)
  flags_told = ap (λ (t : Tally). t.flags) ready.tally_is

  pub streams_told : read.tally.streams ≡ length (stream_list read.layers program)
  streams_told = ap (λ (t : Tally). t.streams) ready.tally_is

  -- ---- none of it is large

  many_points : (f : PointValue → List ℕ) → ((k : ℕ) → k < length (take read.found.count read.found.points) → length (f (value_at program (get_or (take read.found.count read.found.points) k 0))) ≤ 1008)
      → length (gather f (points_in program)) ≤ 1000000
  many_points f h =
      let places : List ℕ = take read.found.count read.found.points in
      subst (λ (l : List ℕ). length l ≤ 1000000) (at_values f)
      (few (length (gather (λ at. f (value_at program at)) places)) (length places) (gather_most (λ at. f (value_at program at)) 1008 places h) (points_short program b read.found ready.filled))

  pub record Small : Type 0 where
    pub descriptors : read.found.descriptors ≤ 1000000
    pub profiles : read.profile_bytes ≤ 1000000
    pub points : read.found.count ≤ 1000000
    pub references : read.tally.references ≤ 1000000
    pub flags : read.tally.flags ≤ 1000000
    pub streams : read.tally.streams ≤ 1000000

  pub all_small : Small
  all_small =
      let short = not_long program b read.found ready.filled in
      let stand = all_points program b read.found ready.filled in
      let payloads : List ℕ = take read.found.descriptors read.found.payloads in
      let places : List ℕ = take read.found.count read.found.points in
      record {
        descriptors = omega (arith, payloads_room program b read.found ready.filled);
        profiles = subst (λ (n : ℕ). n ≤ 1000000) (ap length (profiles_taken program b read.found ready.filled) ∙ sym ready.bytes)
            (few (length (gather (profiles_at program) payloads)) (length payloads)
            (gather_most (profiles_at program) 1008 payloads (λ k h.
            let p = all_payloads program b read.found ready.filled k h in
            omega (arith, profiles_many program b (get_or payloads k 0) p, (head_parts program b (get_or payloads k 0) p).profiles, short)))
            (payloads_short program b read.found ready.filled));
        points = omega (arith, points_room program b read.found ready.filled);
        references = subst (λ (n : ℕ). n ≤ 1000000) (sym references_told) (many_points reference_bytes (λ k h.
            omega (arith, references_many program b (get_or places k 0) (stand k h), (parts_of program b (get_or places k 0) (stand k h)).references, short)));
        flags = subst (λ (n : ℕ). n ≤ 1000000) (sym flags_told) (many_points layer_bytes (λ k h.
            omega (arith, flags_many program b (get_or places k 0) (stand k h), (parts_of program b (get_or places k 0) (stand k h)).flags, short)));
        streams = subst (λ (n : ℕ). n ≤ 1000000) (sym streams_told) (many_points (streams_of read.layers) (λ k h.
            omega (arith, streams_many read.layers (value_at program (get_or places k 0)), count_small read.layers (value_at program (get_or places k 0)))));
      }

  -- ---- room

  module _ (old : Lists) where
    pub room_is : (r : Bool)
        → r ≡ leb (2 * read.found.descriptors) (length old.descriptors) && (leb read.profile_bytes (length old.profiles)
        && (leb (12 * read.found.count) (length old.points) && (leb read.tally.references (length old.references)
        && (leb read.tally.flags (length old.layers) && (leb read.tally.streams (length old.streams) && leb 6 (length old.summary))))))
        → r ≡ room_for read.layers program old
    unfolding room_for
    room_is r e =
        e ∙ (λ i.
        leb (two_each i) (length old.descriptors) && (leb (ready.bytes i) (length old.profiles)
        && (leb (twelve_each i) (length old.points) && (leb (references_told i) (length old.references)
        && (leb (flags_told i) (length old.layers) && (leb (streams_told i) (length old.streams) && leb 6 (length old.summary)))))))

    pub record Room : Type 0 where
      pub descriptors : length (descriptor_numbers program) ≤ length old.descriptors
      pub profiles : length (profiles_in program) ≤ length old.profiles
      pub points : length (point_numbers read.layers program) ≤ length old.points
      pub references : length (reference_list program) ≤ length old.references
      pub layers : length (layer_list program) ≤ length old.layers
      pub streams : length (stream_list read.layers program) ≤ length old.streams
      pub summary : 6 ≤ length old.summary

    pub there_is_room : room_for read.layers program old ≡ true → Room
    unfolding room_for
    there_is_room e =
        let w = all_true (leb (length (descriptor_numbers program)) (length old.descriptors)) (leb (length (profiles_in program)) (length old.profiles))
        (leb (length (point_numbers read.layers program)) (length old.points)) (leb (length (reference_list program)) (length old.references))
        (leb (length (layer_list program)) (length old.layers)) (leb (length (stream_list read.layers program)) (length old.streams))
        (leb 6 (length old.summary)) e in
        record {
          descriptors = leb-true (length (descriptor_numbers program)) (length old.descriptors) w.0;
          profiles = leb-true (length (profiles_in program)) (length old.profiles) w.1;
          points = leb-true (length (point_numbers read.layers program)) (length old.points) w.2;
          references = leb-true (length (reference_list program)) (length old.references) w.3;
          layers = leb-true (length (layer_list program)) (length old.layers) w.4;
          streams = leb-true (length (stream_list read.layers program)) (length old.streams) w.5;
          summary = leb-true 6 (length old.summary) w.6;
        }

    pub no_room : {answer : ℕ} → answer ≡ refused NoRoom → room_for read.layers program old ≡ false → points_reply answer old ≡ told_points read.layers program old
    no_room a e =
        ap (λ (n : ℕ). points_reply n old) a
        ∙ sym (ap (λ (c : Bool). cond c (points_reply (accepted (length (points_in program))) (laid_over read.layers program old)) (points_reply (refused NoRoom) old)) e)

    -- ---- the summary

    pub summary_is : {numbers : List ℕ}
        → numbers ≡ read.found.descriptors ∷ (read.profile_bytes / 12) ∷ read.found.count ∷ read.tally.references ∷ read.tally.flags ∷ read.tally.streams ∷ []
        → numbers ≡ summary_of read.layers program
    summary_is e =
        e ∙ (λ i.
        counted program b read.found ready.filled i
        ∷ (ready.bytes i / 12)
        ∷ points_counted program b read.found ready.filled i
        ∷ references_told i
        ∷ flags_told i
        ∷ streams_told i
        ∷ [])

    -- ---- all lists afterwards

    module _ (answer : ℕ) (d p n f l s t numbers : List ℕ) (next : ℕ) where
      pub all_laid : answer ≡ accepted read.found.count → room_for read.layers program old ≡ true
          → d ≡ over (gather (counts_at program) (take read.found.descriptors read.found.payloads)) old.descriptors
          → p ≡ over (gather (profiles_at program) (take read.found.descriptors read.found.payloads)) old.profiles
          → n ≡ over (gather (λ at. row_in read.layers (value_at program at)) (take read.found.count read.found.points)) old.points
          → f ≡ over (gather (λ at. reference_bytes (value_at program at)) (take read.found.count read.found.points)) old.references
          → l ≡ over (gather (λ at. layer_bytes (value_at program at)) (take read.found.count read.found.points)) old.layers
          → s ≡ over (gather (λ at. streams_of read.layers (value_at program at)) (take read.found.count read.found.points)) old.streams
          → numbers ≡ summary_of read.layers program → Laid old.summary 0 numbers next t
          → points_reply answer (lists d p n f l s t) ≡ told_points read.layers program old
      unfolding laid_over
      all_laid a room d' p' n' f' l' s' numbers' laid =
          let told : answer ≡ accepted (length (points_in program)) = a ∙ ap accepted (points_counted program b read.found ready.filled) in
          let six : length numbers ≤ length old.summary = omega (arith, ap length numbers', (there_is_room room).summary) in
          let d'' : d ≡ over (descriptor_numbers program) old.descriptors = d' ∙ ap (λ (x : List ℕ). over x old.descriptors) (counts_taken program b read.found ready.filled) in
          let p'' : p ≡ over (profiles_in program) old.profiles = p' ∙ ap (λ (x : List ℕ). over x old.profiles) (profiles_taken program b read.found ready.filled) in
          let n'' : n ≡ over (point_numbers read.layers program) old.points = n' ∙ ap (λ (x : List ℕ). over x old.points) (at_values (row_in read.layers)) in
          let f'' : f ≡ over (reference_list program) old.references = f' ∙ ap (λ (x : List ℕ). over x old.references) (at_values reference_bytes) in
          let l'' : l ≡ over (layer_list program) old.layers = l' ∙ ap (λ (x : List ℕ). over x old.layers) (at_values layer_bytes) in
          let s'' : s ≡ over (stream_list read.layers program) old.streams = s' ∙ ap (λ (x : List ℕ). over x old.streams) (at_values (streams_of read.layers)) in
          let t'' : t ≡ over (summary_of read.layers program) old.summary = laid_over_lem laid six ∙ ap (λ (x : List ℕ). over x old.summary) numbers' in
          (λ i. points_reply (told i) (lists (d'' i) (p'' i) (n'' i) (f'' i) (l'' i) (s'' i) (t'' i)))
          ∙ sym (ap (λ (c : Bool). cond c (points_reply (accepted (length (points_in program))) (laid_over read.layers program old)) (points_reply (refused NoRoom) old)) room)

-- ---- what was read, accepted or not

pub ready_of : (program bytes : List ℕ) (read : PointsRead) → read ≡ points_read program bytes → read.outcome ≡ Ok tt → Ready program read
ready_of program bytes read e o =
    let w = accepted_read program bytes read e o in
    record { filled = w.filled; bytes = w.bytes; tally_is = w.tally_is }

module _ (program bytes : List ℕ) (read : PointsRead) (e : read ≡ points_read program bytes) (old : Lists) where
  pub reply_accepted : {r : PointsReply} → read.outcome ≡ Ok tt → r ≡ told_points read.layers program old → r ≡ read_points program bytes old
  unfolding read_points
  reply_accepted o answer =
      answer ∙ ap (λ (x : Outcome). reply_by x read.layers program old) (sym o) ∙ ap (λ (x : PointsRead). reply_to x program old) e

  pub reply_refused : {answer : ℕ} (refusal : Refusal) → read.outcome ≡ Err refusal → answer ≡ refused refusal → points_reply answer old ≡ read_points program bytes old
  unfolding read_points
  reply_refused refusal o a =
      ap (λ (n : ℕ). points_reply n old) a ∙ ap (λ (x : Outcome). reply_by x read.layers program old) (sym o) ∙ ap (λ (x : PointsRead). reply_to x program old) e
