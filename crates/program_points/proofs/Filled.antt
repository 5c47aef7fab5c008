-- What was found of a loop in which neither 40 nor 41 applies: its places are those of the definitions, there is room for them, and what stands at them is
-- what the payloads have.
-- Assumes nothing.
use Rattle.std.specs.Prelude.{Err, Ok}
use Prim.Native.Nat.{ℕ, ◌+◌, ◌-◌, ◌*◌, ◌≤◌, ◌<◌}
use mathlib.Core.Bool.{Bool, true, false, cond}
use mathlib.Core.List.{List, [], ◌∷◌, ◌++◌, map}
use mathlib.Core.Path.{◌≡◌, refl, sym, ap, ap₂, ◌∙◌, subst}
use native.Mathlib.Omega.{arith}
use borrow.Author.Tests.{ltb-false}
use lib.ListN.{length, take, drop, replicate, length-append, length-map}
use lib.Seq.{take_at, drop_at, get_or-drop}
use Rattle.combinators.specs.Lists.{gather}
use Rattle.framing.specs.Pieces.{Item, whole, broken, Cuts, nothing_left, does_not_fit, piece}
use Rattle.framing.proofs.Pieces.{cut_cuts}
use Rattle.syntax.specs.Table.{AreBytes}
use Rattle.descriptor_heads.specs.Head.{descriptor_tag, descriptor_length}
use Rattle.descriptor_heads.proofs.Heads.{by_tag}
use Rattle.vocabulary.specs.declared.refusal.Refusal.TheVariants.{UnknownReference}
use Rattle.closure.specs.declared.Layers.{Layers}
use Rattle.es_loop.specs.Answer.{Outcome}
use Rattle.vocabulary.specs.declared.stream_types.Reading.TheVariants.{Edition2015}
use Rattle.vocabulary.specs.declared.refusal.Refusal.{Refusal}
use Rattle.loop_layers.specs.declared.layer_sets.LayersRead.{LayersRead}
use Rattle.loop_layers.specs.Closures.{loop_layers}
use Rattle.operation_points.specs.Answer.{Filling}
use Rattle.operation_points.specs.declared.PointFault.TheVariants.{DoesNotFit, ReservedCount}
use Rattle.operation_points.specs.Values.{value_of, counts_of}
use Rattle.point_descriptors.specs.declared.Found.{Found}
use Rattle.point_descriptors.specs.Descriptors.{descriptors_of, each, is_points, payload_if, filling_in, worst, too_long, payload_place, point_places_if, payloads_in, payloads_at, points_at, program_filling, found_with, found_in}
use Rattle.point_descriptors.proofs.Walking.{points_take, payload_takes}
use Rattle.program_points.specs.declared.Tally.{Tally}
use Rattle.program_points.specs.Places.{value_at, profiles_at, counts_at, AllPoints, AllPayloads, IsPoint, IsPayload}
use Rattle.program_points.specs.declared.PointsRead.{PointsRead}
use Rattle.program_points.specs.Told.{values_in, points_in, profiles_in, tally_of, Filled, refused_points, by_tally, by_filling, by_outcome, read_with, points_read}
use Rattle.program_points.proofs.Standing.{AllStand, all_stand, every_at}

-- ---- as many places as there is room for

each_short : (found : ℕ → ℕ → List ℕ → List ℕ) → ((at tag : ℕ) (body : List ℕ) → AreBytes body → 3 * length (found at tag body) ≤ 2 + length body)
    → {l : List ℕ} {items : List Item} → Cuts 2 descriptor_length l items → (at : ℕ) → AreBytes l → 3 * length (each found at items) ≤ length l
each_short found takes nothing_left at b = omega arith
each_short found takes (does_not_fit h f) at b = omega arith
each_short found takes (piece {head} {body} {rest} {items} eh eb c) at b =
    let bytes_body : AreBytes (body ++ rest) = subst AreBytes (drop_at head (body ++ rest) 2 eh) (λ i. subst (λ (n : ℕ). n < 256) (sym (get_or-drop 2 (head ++ (body ++ rest)) i 0)) (b (2 + i))) in
    let bytes_rest : AreBytes rest = subst AreBytes (drop_at body rest (length body) refl) (λ i. subst (λ (n : ℕ). n < 256) (sym (get_or-drop (length body) (body ++ rest) i 0)) (bytes_body (length body + i))) in
    omega (
      arith,
      takes at (descriptor_tag head) body (bytes_front body rest bytes_body),
      each_short found takes c (at + (2 + length body)) bytes_rest,
      length-append (found at (descriptor_tag head) body) (each found (at + (2 + length body)) items),
      length-append head (body ++ rest),
      length-append body rest,
      eh,
    )
  where
    bytes_front : (a d : List ℕ) → AreBytes (a ++ d) → AreBytes a
    bytes_front [] d h i = omega arith
    bytes_front (x ∷ a) d h Prim.Native.Nat.zero = h Prim.Native.Nat.zero
    bytes_front (x ∷ a) d h (Prim.Native.Nat.suc i) = bytes_front a d (λ j. h (Prim.Native.Nat.suc j)) i

module _ (program : List ℕ) (b : AreBytes program) (found : Found) (filled : Filled program found) where
  -- not too long, and every descriptor exact
  record Sound : Type 0 where
    pub short : too_long program ≡ false
    pub exact : worst (Ok tt) (map filling_in (descriptors_of program)) ≡ Ok tt

  accepted : Sound
  accepted = go (too_long program) refl (sym (ap (λ (f : Found). f.filling) filled.is_found) ∙ filled.exact)
    where
      go : (t : Bool) → too_long program ≡ t
          → (cond t (found_with (Err DoesNotFit) [] []) (found_with (worst (Ok tt) (map filling_in (descriptors_of program))) (payloads_at program) (points_at program))).filling ≡ Ok tt
          → Sound
      go true p e = let z : ◌≡◌ {A = ℕ} 0 1 = cc in absurd (omega arith)
      go false p e = record { short = p; exact = e }

  pub found_is : found ≡ found_with (worst (Ok tt) (map filling_in (descriptors_of program))) (payloads_at program) (points_at program)
  found_is =
      filled.is_found
      ∙ ap (λ (t : Bool). cond t (found_with (Err DoesNotFit) [] []) (found_with (worst (Ok tt) (map filling_in (descriptors_of program))) (payloads_at program) (points_at program)))
      accepted.short

  within : length program ≤ 1008
  within = ltb-false 1008 (length program) accepted.short

  pub points_room : found.count ≤ 336
  points_room =
      subst (λ (f : Found). f.count ≤ 336) (sym found_is)
      (omega (arith, within, each_short point_places_if points_take (cut_cuts 2 descriptor_length (omega arith) by_tag program) 0 b))

  pub payloads_room : found.descriptors ≤ 336
  payloads_room =
      subst (λ (f : Found). f.descriptors ≤ 336) (sym found_is)
      (omega (arith, within, each_short payload_place (λ at tag body c. payload_takes at tag body) (cut_cuts 2 descriptor_length (omega arith) by_tag program) 0 b))

  pub points_taken : take found.count found.points ≡ points_at program
  points_taken =
      ap (λ (f : Found). take f.count f.points) found_is
      ∙ take_at (points_at program) (replicate (336 - length (points_at program)) 0) (length (points_at program)) refl

  pub payloads_taken : take found.descriptors found.payloads ≡ payloads_at program
  payloads_taken =
      ap (λ (f : Found). take f.descriptors f.payloads) found_is
      ∙ take_at (payloads_at program) (replicate (336 - length (payloads_at program)) 0) (length (payloads_at program)) refl

  stand : AllStand program (payloads_at program) (payloads_in program) (points_at program)
  stand = all_stand program b accepted.exact

  pub all_points : AllPoints program (take found.count found.points)
  all_points = subst (AllPoints program) (sym points_taken) (every_at (IsPoint program) (points_at program) stand.points_stand_there)

  pub all_payloads : AllPayloads program (take found.descriptors found.payloads)
  all_payloads = subst (AllPayloads program) (sym payloads_taken) (every_at (IsPayload program) (payloads_at program) stand.payloads_stand)

  pub values_taken : map (value_at program) (take found.count found.points) ≡ points_in program
  values_taken = ap (map (value_at program)) points_taken ∙ stand.values_same

  pub profiles_taken : gather (profiles_at program) (take found.descriptors found.payloads) ≡ profiles_in program
  profiles_taken = ap (gather (profiles_at program)) payloads_taken ∙ stand.profiles_same

  pub counts_taken : gather (counts_at program) (take found.descriptors found.payloads) ≡ gather counts_of (values_in program)
  counts_taken = ap (gather (counts_at program)) payloads_taken ∙ stand.counts_same

  pub counted : found.descriptors ≡ length (values_in program)
  counted =
      ap (λ (f : Found). f.descriptors) found_is
      ∙ as_many (descriptors_of program) 0
      ∙ sym (length-map (payloads_in program) value_of)
    where
      as_many : (items : List Item) (at : ℕ) → length (each payload_place at items) ≡ length (each payload_if at items)
      as_many [] at = refl
      as_many (broken ∷ items) at = refl
      as_many (whole head body ∷ items) at =
          length-append (payload_place at (descriptor_tag head) body) (each payload_place (at + (2 + length body)) items)
          ∙ ap₂ (λ (m n : ℕ). m + n) (one (is_points (descriptor_tag head) body)) (as_many items (at + (2 + length body)))
          ∙ sym (length-append (payload_if at (descriptor_tag head) body) (each payload_if (at + (2 + length body)) items))
        where
          one : (b : Bool) → length (cond b ((at + 3) ∷ []) []) ≡ length (cond b (drop 1 body ∷ []) [])
          one true = refl
          one false = refl

  pub points_counted : found.count ≡ length (points_in program)
  points_counted =
      ap (λ (f : Found). f.count) found_is ∙ sym (length-map (points_at program) (value_at program)) ∙ ap length stand.values_same

  pub not_long : length program ≤ 1008
  not_long = within

  pub points_short : length (take found.count found.points) ≤ 336
  points_short =
      subst (λ (l : List ℕ). length l ≤ 336) (sym points_taken)
      (omega (arith, within, each_short point_places_if points_take (cut_cuts 2 descriptor_length (omega arith) by_tag program) 0 b))

  pub payloads_short : length (take found.descriptors found.payloads) ≤ 336
  payloads_short =
      subst (λ (l : List ℕ). length l ≤ 336) (sym payloads_taken)
      (omega (arith, within, each_short payload_place (λ at tag body c. payload_takes at tag body) (cut_cuts 2 descriptor_length (omega arith) by_tag program) 0 b))

  pub points_in_lem : found.count ≤ length found.points
  points_in_lem =
      subst (λ (f : Found). f.count ≤ length f.points) (sym found_is)
      (omega (arith, length-append (points_at program) (replicate (336 - length (points_at program)) 0)))

  pub payloads_held : found.descriptors ≤ length found.payloads
  payloads_held =
      subst (λ (f : Found). f.descriptors ≤ length f.payloads) (sym found_is)
      (omega (arith, length-append (payloads_at program) (replicate (336 - length (payloads_at program)) 0)))

  pub points_many : found.count ≡ length (take found.count found.points)
  points_many = ap (λ (f : Found). f.count) found_is ∙ sym (ap length points_taken)

  pub payloads_many : found.descriptors ≡ length (take found.descriptors found.payloads)
  payloads_many = ap (λ (f : Found). f.descriptors) found_is ∙ sym (ap length payloads_taken)

  -- ---- 42, or what is told

  module _ (layers : Layers) (tally : Tally) (e : tally ≡ tally_of layers (map (value_at program) (take found.count found.points))) where
    tally_is : tally ≡ tally_of layers (points_in program)
    tally_is = e ∙ ap (tally_of layers) values_taken

    by : {c : Bool} → tally.absent ≡ c
        → by_tally layers program (tally_of layers (points_in program))
        ≡ cond c (refused_points UnknownReference layers (found_in program))
        (record { outcome = Ok tt; layers = layers; found = found_in program; profile_bytes = length (profiles_in program); tally = tally_of layers (points_in program) })
    by p =
        ap (λ (c : Bool). cond c (refused_points UnknownReference layers (found_in program))
        (record { outcome = Ok tt; layers = layers; found = found_in program; profile_bytes = length (profiles_in program); tally = tally_of layers (points_in program) }))
        (sym (ap (λ (t : Tally). t.absent) tally_is) ∙ p)

    pub tell_absent : {r : PointsRead} → r ≡ refused_points UnknownReference layers found → tally.absent ≡ true
        → r ≡ by_tally layers program (tally_of layers (points_in program))
    tell_absent is p = is ∙ ap (refused_points UnknownReference layers) filled.is_found ∙ sym (by p)

    pub tell_told : {bytes : ℕ} → bytes ≡ length (gather (profiles_at program) (take found.descriptors found.payloads)) → tally.absent ≡ false
        → record { outcome = Ok tt; layers = layers; found = found; profile_bytes = bytes; tally = tally } ≡ by_tally layers program (tally_of layers (points_in program))
    tell_told {bytes} f p =
        let many : bytes ≡ length (profiles_in program) = f ∙ ap length profiles_taken in
        (λ i. record { outcome = Ok tt; layers = layers; found = filled.is_found i; profile_bytes = many i; tally = tally_is i }) ∙ sym (by p)

-- ---- by the verdict

pub filling_is : (program : List ℕ) (found : Found) → found ≡ found_in program → found.filling ≡ program_filling program
filling_is program found e = ap (λ (f : Found). f.filling) e ∙ go (too_long program)
  where
    go : (t : Bool)
        → (cond t (found_with (Err DoesNotFit) [] []) (found_with (worst (Ok tt) (map filling_in (descriptors_of program))) (payloads_at program) (points_at program))).filling
        ≡ cond t (Err DoesNotFit) (worst (Ok tt) (map filling_in (descriptors_of program)))
    go true = refl
    go false = refl

module _ (program : List ℕ) (layers : Layers) (found : Found) (e : found ≡ found_in program) (filling : Filling) (f : filling ≡ found.filling) where
  pub by_verdict : {r : PointsRead} {verdict : Filling} → filling ≡ verdict → r ≡ by_filling verdict layers program → r ≡ by_filling (program_filling program) layers program
  by_verdict is answer = answer ∙ ap (λ (v : Filling). by_filling v layers program) (sym is ∙ f ∙ filling_is program found e)

-- ---- by the elementary-stream loop

module _ (program bytes : List ℕ) (read : LayersRead) (e : read ≡ loop_layers Edition2015 bytes) where
  pub loop_accepted : {r : PointsRead} → read.outcome ≡ Ok tt → r ≡ by_filling (program_filling program) read.layers program → r ≡ points_read program bytes
  loop_accepted o answer =
      answer ∙ ap (λ (x : Outcome). by_outcome x read.layers program) (sym o) ∙ ap (λ (x : LayersRead). read_with x program) e

  pub loop_refused : {r : PointsRead} (refusal : Refusal) (found : Found) → read.outcome ≡ Err refusal → found ≡ found_in program
      → r ≡ refused_points refusal read.layers found → r ≡ points_read program bytes
  loop_refused refusal found o f answer =
      answer ∙ ap (refused_points refusal read.layers) f ∙ ap (λ (x : Outcome). by_outcome x read.layers program) (sym o)
      ∙ ap (λ (x : LayersRead). read_with x program) e

-- ---- what was read where it is accepted

pub record Read (program : List ℕ) (read : PointsRead) : Type 0 where
  pub filled : Filled program read.found
  pub bytes : read.profile_bytes ≡ length (profiles_in program)
  pub tally_is : read.tally ≡ tally_of read.layers (points_in program)
  pub known : (tally_of read.layers (points_in program)).absent ≡ false

pub accepted_read : (program bytes : List ℕ) (read : PointsRead) → read ≡ points_read program bytes → read.outcome ≡ Ok tt → Read program read
accepted_read program bytes read e o =
    subst (Read program) (sym e) (go (loop_layers Edition2015 bytes).outcome (program_filling program) refl (tally_of layers (points_in program)).absent refl (sym (ap (λ (r : PointsRead). r.outcome) e) ∙ o))
  where
    layers : Layers
    layers = (loop_layers Edition2015 bytes).layers

    told : (c : Bool) → (tally_of layers (points_in program)).absent ≡ c → program_filling program ≡ Ok tt
        → (cond c (refused_points UnknownReference layers (found_in program))
        (record { outcome = Ok tt; layers = layers; found = found_in program; profile_bytes = length (profiles_in program); tally = tally_of layers (points_in program) })).outcome ≡ Ok tt
        → Read program (cond c (refused_points UnknownReference layers (found_in program))
        (record { outcome = Ok tt; layers = layers; found = found_in program; profile_bytes = length (profiles_in program); tally = tally_of layers (points_in program) }))
    told true p f o = let z : ◌≡◌ {A = ℕ} 0 1 = cc in absurd (omega arith)
    told false p f o =
        record { filled = record { is_found = refl; exact = filling_is program (found_in program) refl ∙ f }; bytes = refl; tally_is = refl; known = p }

    go : (x : Outcome) (v : Filling) → program_filling program ≡ v → (c : Bool) → (tally_of layers (points_in program)).absent ≡ c
        → (by_outcome x layers program).outcome ≡ Ok tt → Read program (by_outcome x layers program)
    go (Err r) v f c p o = let z : ◌≡◌ {A = ℕ} 0 1 = cc in absurd (omega arith)
    go (Ok _) (Err DoesNotFit) f c p o = let q = ap (λ (w : Filling). (by_filling w layers program).outcome) f in let z : ◌≡◌ {A = ℕ} 0 1 = cc in absurd (omega arith)
    go (Ok _) (Err ReservedCount) f c p o = let q = ap (λ (w : Filling). (by_filling w layers program).outcome) f in let z : ◌≡◌ {A = ℕ} 0 1 = cc in absurd (omega arith)
    go (Ok _) (Ok _) f c p o =
        subst (λ (w : Filling). Read program (by_filling w layers program)) (sym f)
        (told (tally_of layers (points_in program)).absent refl f (sym (ap (λ (w : Filling). (by_filling w layers program).outcome) f) ∙ o))
