-- The lines of points laid in one after another, and what was told of an accepted loop.
-- Assumes nothing.
use Rattle.std.specs.Prelude.{Err, Ok}
use Prim.Native.Nat.{ℕ, suc, ◌+◌, ◌≤◌, ◌<◌, min}
use mathlib.Core.Bool.{Bool, true, false, cond}
use mathlib.Core.List.{List, [], ◌∷◌, ◌++◌, map, map-append, append-nil, append_assoc}
use mathlib.Core.Path.{◌≡◌, refl, sym, ap, ap₂, ◌∙◌, subst}
use native.Mathlib.Omega.{arith}
use native.Mathlib.Numerals.{add-one}
use lib.ListN.{length, get_or, take, drop, length-take}
use lib.Seq.{take-suc, take_all, length-take-le}
use Rattle.closure.specs.declared.Layers.{Layers}
use Rattle.es_loop.specs.Answer.{Outcome}
use Rattle.vocabulary.specs.declared.stream_types.Reading.TheVariants.{Edition2015}
use Rattle.vocabulary.specs.declared.refusal.Refusal.TheVariants.{UnknownReference}
use Rattle.loop_layers.specs.Closures.{loop_layers}
use Rattle.operation_points.specs.Answer.{Filling}
use Rattle.operation_points.specs.declared.PointFault.TheVariants.{DoesNotFit, ReservedCount}
use Rattle.operation_points.specs.declared.Point.{Point}
use Rattle.operation_points.specs.Values.{PointValue, point_value}
use Rattle.stream_lists.specs.declared.ListBuilt.{ListBuilt}
use Rattle.stream_lists.specs.Lists.{is_closed}
use Rattle.syntax.specs.Table.{AreBytes}
use Rattle.point_descriptors.specs.declared.Found.{Found}
use Rattle.point_descriptors.specs.Descriptors.{program_filling, found_in}
use Rattle.program_points.specs.declared.Tally.{Tally}
use Rattle.program_points.specs.declared.PointsRead.{PointsRead}
use Rattle.program_points.specs.Places.{point_at, value_at}
use Rattle.program_points.specs.Told.{list_of, points_in, profiles_in, tally_of, Filled, refused_points, by_tally, by_filling, by_outcome, points_read}
use Rattle.program_points.proofs.Filled.{filling_is, points_many, values_taken}
use Rattle.program_points.proofs.Tallying.{streams_many}
use Rattle.text.specs.Text.{Laid, ascii}
use Rattle.text.proofs.Laws.{laid_then, laid_as, laid_nothing}
use Rattle.listing.specs.Lines.{labelled}
use Rattle.point_lines.specs.Lines.{rates_text, point_line}
use Rattle.point_listing.specs.Listing.{line_of, lines_from, told_text}

-- ---- one line

-- no line tells the references and the layer flags
same_line : (index : ℕ) (point : Point) (left : List ℕ) (closed : Bool) (streams : List ℕ)
    → point_line index (point_value point []) closed streams ≡ point_line index (point_value point left) closed streams
unfolding point_line rates_text
same_line index point left closed streams = refl

module _ (layers : Layers) (program : List ℕ) (place : ℕ) (built : ListBuilt) (e : built ≡ list_of layers (value_at program place)) where
  pub streams_there : length (take built.list.count built.list.members) ≡ built.list.count
  streams_there = subst (λ (b : ListBuilt). length (take b.list.count b.list.members) ≡ b.list.count) (sym e) (streams_many layers (value_at program place))

  pub streams_within : built.list.count ≤ length built.list.members
  streams_within = omega (arith, streams_there, length-take built.list.count built.list.members)

  pub its_line : (index : ℕ) (point : Point) → point ≡ point_at program place → (told : Bool) → told ≡ is_closed layers built.list.present
      → point_line index (point_value point []) told (take built.list.count built.list.members) ≡ line_of layers index (value_at program place)
  its_line index point is told is-told =
      same_line index point (drop place program) told (take built.list.count built.list.members)
      ∙ ap₂ (λ (p : Point) (b : Bool). point_line index (point_value p (drop place program)) b (take built.list.count built.list.members)) is is-told
      ∙ ap (λ (b : ListBuilt). point_line index (value_at program place) (is_closed layers b.list.present) (take b.list.count b.list.members)) e

-- ---- one line more

length_values : (program l : List ℕ) → length (map (value_at program) l) ≡ length l
length_values program [] = refl
length_values program (x ∷ l) = ap suc (length_values program l)

module _ (layers : Layers) where
  lines_more : (index : ℕ) (values : List PointValue) (value : PointValue)
      → lines_from layers index (values ++ (value ∷ [])) ≡ lines_from layers index values ++ line_of layers (index + length values) value
  unfolding lines_from
  lines_more index [] value = let here : index ≡ index + 0 = omega arith in append-nil (line_of layers index value) ∙ ap (λ (k : ℕ). line_of layers k value) here
  lines_more index (first ∷ values) value =
      let there : suc index + length values ≡ index + suc (length values) = omega arith in
      ap (◌++◌ (line_of layers index first)) (lines_more (suc index) values value ∙ ap (λ (k : ℕ). lines_from layers (suc index) values ++ line_of layers k value) there)
      ∙ sym (append_assoc (line_of layers index first) (lines_from layers (suc index) values) (line_of layers (index + suc (length values)) value))

  module _ (program places : List ℕ) where
    -- the lines of the first points
    abbrev pub lines_to : ℕ → List ℕ
    lines_to i = lines_from layers 0 (map (value_at program) (take i places))

    next_line : (i : ℕ) → i < length places → lines_to (i + 1) ≡ lines_to i ++ line_of layers i (value_at program (get_or places i 0))
    next_line i inside =
        let many : 0 + length (map (value_at program) (take i places)) ≡ i =
        omega (arith, length_values program (take i places), length-take-le i places (omega arith)) in
        ap (λ (l : List ℕ). lines_from layers 0 (map (value_at program) l)) (ap (λ (n : ℕ). take n places) (add-one i) ∙ take-suc places i 0 inside)
        ∙ ap (lines_from layers 0) (map-append (value_at program) (take i places) (get_or places i 0 ∷ []))
        ∙ lines_more 0 (map (value_at program) (take i places)) (value_at program (get_or places i 0))
        ∙ ap (λ (k : ℕ). lines_to i ++ line_of layers k (value_at program (get_or places i 0)))
        many

    pub no_line : (old : List ℕ) (at : ℕ) → at ≡ min (length old) at → Laid old at (lines_to 0) at old
    unfolding lines_from
    no_line old at within = laid_nothing old at at within

    pub line_laid : (i : ℕ) → i < length places → {old : List ℕ} {at between : ℕ} {mid : List ℕ} {next : ℕ} {new : List ℕ} → Laid old at (lines_to i) between mid
        → Laid mid between (line_of layers i (value_at program (get_or places i 0))) next new → Laid old at (lines_to (i + 1)) next new
    line_laid i inside before line = laid_as (sym (next_line i inside)) (laid_then before line)

    pub every_line : (i : ℕ) → length places ≤ i → lines_to i ≡ lines_from layers 0 (map (value_at program) places)
    every_line i h = ap (λ (l : List ℕ). lines_from layers 0 (map (value_at program) l)) (take_all i places h)

-- ---- the whole text of what was told

module _ (layers : Layers) (program : List ℕ) (b : AreBytes program) (found : Found) (filled : Filled program found) where
  pub told_many : found.count ≡ length (points_in program)
  told_many =
      points_many program b found filled ∙ sym (length_values program (take found.count found.points)) ∙ ap length (values_taken program b found filled)

  pub told_text_lem : labelled (ascii "accepted ") found.count ++ ascii "\n" ++ lines_from layers 0 (map (value_at program) (take found.count found.points))
      ≡ told_text layers (points_in program)
  unfolding told_text
  told_text_lem =
      ap₂ (λ (n : ℕ) (values : List PointValue). labelled (ascii "accepted ") n ++ ascii "\n" ++ lines_from layers 0 values) told_many (values_taken program b found filled)

-- ---- an accepted loop: neither 40 nor 41 applies

abbrev refusals : Outcome → ℕ
refusals (Ok _) = 0
refusals (Err refusal) = 1

module _ (program : List ℕ) (layers : Layers) where
  found_by_tally : (tally : Tally) → (by_tally layers program tally).found ≡ found_in program
  found_by_tally tally = go tally.absent
    where
      go : (c : Bool)
          → (cond c (refused_points UnknownReference layers (found_in program))
          (record { outcome = Ok tt; layers = layers; found = found_in program; profile_bytes = length (profiles_in program); tally = tally })).found
          ≡ found_in program
      go true = refl
      go false = refl

  filled_by : (read : PointsRead) (filling : Filling) → program_filling program ≡ filling → read ≡ by_filling filling layers program → read.outcome ≡ Ok tt
      → Filled program read.found
  filled_by read (Err DoesNotFit) is e accepted =
      let two : ◌≡◌ {A = ℕ} 0 1 = ap refusals (sym accepted ∙ ap (λ (r : PointsRead). r.outcome) e) in absurd (omega arith)
  filled_by read (Err ReservedCount) is e accepted =
      let two : ◌≡◌ {A = ℕ} 0 1 = ap refusals (sym accepted ∙ ap (λ (r : PointsRead). r.outcome) e) in absurd (omega arith)
  filled_by read (Ok _) is e accepted =
      let same : read.found ≡ found_in program = ap (λ (r : PointsRead). r.found) e ∙ found_by_tally (tally_of layers (points_in program)) in
      record { is_found = same; exact = filling_is program read.found same ∙ is }

  filled_after : (read : PointsRead) (outcome : Outcome) → read ≡ by_outcome outcome layers program → read.outcome ≡ Ok tt → Filled program read.found
  filled_after read (Ok _) e accepted = filled_by read (program_filling program) refl e accepted
  filled_after read (Err refusal) e accepted =
      let two : ◌≡◌ {A = ℕ} 0 1 = ap refusals (sym accepted ∙ ap (λ (r : PointsRead). r.outcome) e) in absurd (omega arith)

pub told_filled : (program bytes : List ℕ) (read : PointsRead) → read ≡ points_read program bytes → read.outcome ≡ Ok tt → Filled program read.found
told_filled program bytes read e accepted =
    let loop = loop_layers Edition2015 bytes in filled_after program loop.layers read loop.outcome e accepted
