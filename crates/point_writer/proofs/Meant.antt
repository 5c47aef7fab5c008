-- The laws that join the meaning of writing a descriptor to what is computed, both ways: `answer_meant`, `answer_only`.
-- Assumes nothing.
use Rattle.std.specs.Prelude.{Err, Ok}
use Prim.Native.Nat.{ℕ, ◌+◌, ◌*◌, ◌/◌, ◌%◌, ◌≤◌, ◌<◌}
use mathlib.Core.Path.{◌≡◌, refl, sym, ap, ap₂, ◌∙◌, subst}
use mathlib.Core.Bool.{Bool, true, false, cond, not, ◌||◌}
use mathlib.Core.List.{List, [], ◌∷◌, ◌++◌, map}
use native.Mathlib.Omega.{arith}
use borrow.Author.Tests.{lt-ltb, le-ltb, ltb-true, ltb-false, eq-eqb, eqb-true}
use lib.Dec.{eqb, ltb}
use lib.ListN.{length, drop}
use Rattle.combinators.specs.Bools.{both_ways, false_unless}
use Rattle.combinators.specs.Lists.{any, any_true, any_which}
use Rattle.syntax.specs.Table.{Written, write_table, Fit, none, at_value, at_reserved, at_fixed}
use Rattle.syntax.specs.Named.{read_by}
use Rattle.syntax.specs.Filled.{bytes_in}
use Rattle.syntax.proofs.Laws.{read_fits, written, written_unique}
use Rattle.syntax.proofs.NamedLaws.{written_by_meant, written_by_only}
use Rattle.syntax.proofs.Equations.{bounds}
use Rattle.descriptor_heads.specs.Head.{descriptor_head, head_table}
use Rattle.operation_points.specs.Tables.{profile, head_syntax, point_syntax}
use Rattle.operation_points.specs.Values.{PointValue, DescriptorValue}
use Rattle.vocabulary.specs.declared.refusal.Refusal.TheVariants.{TooWide, ReservedEsCount, NoRoom}
use Rattle.point_fields.specs.WrittenParts.{parts_bytes, EachFits, FitParts}
use Rattle.point_fields.specs.Fields.{references_counted, layers_counted}
use Rattle.point_weights.specs.Answer.{Written as Answer}
use Rattle.point_weights.specs.Rows.{twelves, rows_in, total, counts_wrong, points_wrong, is_reserved, length_for, judged}
use Rattle.point_writer.specs.Layout.{extension_tag, head_given, head_lists, head_bytes, points_bytes, payload_bytes, descriptor_bytes}
use Rattle.point_writer.specs.Writing.{in_room, answer, content_after, content}
use Rattle.point_writer.specs.Meaning.{value_given, value_lists, Gives, ValueFits, SomeReserved, reserved_at, WritesPoints, WritesPayload, head_then, WritesDescriptor, descriptor, Answers, no_value, reserves, too_long_lem, no_room, accepts}
use Rattle.point_writer.specs.Meaning as Meaning
use Rattle.point_writer.proofs.PartLaws.{Sounds, parts_written, parts_only}
use Rattle.point_writer.proofs.Values.{values_bytes, is_reserved_value, rows_known, values_in, values_known}
use Rattle.point_writer.proofs.Judged.{Sound, sound, counted, descriptor_long}

-- ---- the tables can be written

pub point_sounds : Sounds point_syntax
point_sounds = (
  record { whole = refl; fixed_fit = refl },
  (
    record { whole = refl; fixed_fit = refl },
    (
      record { whole = refl; fixed_fit = refl },
      (
        record { whole = refl; fixed_fit = refl },
        (record { whole = refl; fixed_fit = refl }, (record { whole = refl; fixed_fit = refl }, (record { whole = refl; fixed_fit = refl }, (record { whole = refl; fixed_fit = refl }, tt)))),
      ),
    ),
  ),
)

pub head_sounds : Sounds head_syntax
head_sounds = (record { whole = refl; fixed_fit = refl }, (record { whole = refl; fixed_fit = refl }, (record { whole = refl; fixed_fit = refl }, tt)))

points_written : {vs : List PointValue} → Meaning.EachFits vs → WritesPoints vs (values_bytes vs)
points_written Meaning.EachFits.none = WritesPoints.nothing
points_written (Meaning.EachFits.point_then {v} fits others) =
    WritesPoints.point_then (parts_written (value_given v) (value_lists v) point_sounds fits.fits) (points_written others)

pub points_only : {vs : List PointValue} {l : List ℕ} → WritesPoints vs l → l ≡ values_bytes vs
points_only WritesPoints.nothing = refl
points_only (WritesPoints.point_then {v} w ws) = ap₂ (λ (a b : List ℕ). a ++ b) (parts_only (value_given v) (value_lists v) point_sounds w) (points_only ws)

-- ---- 41

pub reserved_some : (vs : List PointValue) → any is_reserved_value vs ≡ true → SomeReserved vs
reserved_some vs e = let w = any_which is_reserved_value vs e in reserved_at w.2 (eqb-true (length w.1.references) 255 w.3)

pub some_reserved : {vs : List PointValue} → SomeReserved vs → any is_reserved_value vs ≡ true
some_reserved (reserved_at {v = v} n e) = any_true is_reserved_value n (eq-eqb (length v.references) 255 e)

module _ (profiles points references layers : List ℕ) where
  abbrev rows : List (List ℕ)
  rows = rows_in points

  -- ---- what lists of a value are known to be

  pub record Known (v : DescriptorValue) : Type 0 where
    pub counts_fine : counts_wrong (length profiles) (length points) ≡ false
    pub points_fine : points_wrong rows references (length layers) ≡ false
    pub reserved_alike : any is_reserved rows ≡ any is_reserved_value v.points
    pub payload_alike : payload_bytes profiles points references layers
        ≡ parts_bytes (head_given (length v.profiles) (length v.points)) (head_lists v.profiles) head_syntax ++ values_bytes v.points

  few_counts : (v : DescriptorValue) → FitParts (head_given (length v.profiles) (length v.points)) (head_lists v.profiles) head_syntax
      → (length v.profiles / 12 ≤ 63) × (length v.points ≤ 255)
  few_counts v (FitParts.lines_then a (FitParts.repeated_then r (FitParts.lines_then b FitParts.none))) =
      let x = bounds a in let y = bounds b in (omega arith, omega arith)

  pub known : {v : DescriptorValue} → Gives profiles points references layers v → Known v
  unfolding head_bytes
  known {v} g =
      let r = rows_known g.rows g.fits.points in
      let few = few_counts v g.fits.counts in
      let many : length points / 12 ≡ length v.points = omega (arith, r.long) in
      let all : rows ≡ twelves (length v.points) points = ap (λ (n : ℕ). twelves n points) many in
      let profiles_long : length profiles ≡ length v.profiles = ap length (sym g.profiles_are) in
      let whole : length profiles % 12 ≡ 0 = ap (λ (n : ℕ). n % 12) profiles_long ∙ g.fits.whole in
      record {
        counts_fine = four (eqb_not (length profiles % 12) whole) (le-ltb 63 (length profiles / 12) (ap_few g.profiles_are few.0))
            (eqb_not (length points % 12) (omega (arith, r.long))) (le-ltb 255 (length points / 12) (omega (arith, few.1)));
        points_fine = three r.references_fine (ap (any Rattle.point_fields.specs.Fields.row_too_wide) all ∙ r.rows_fine)
            (same_not (total references_counted rows) (length references) (ap (total references_counted) all ∙ r.references_counted))
            (same_not (total layers_counted rows) (length layers) (ap (total layers_counted) all ∙ r.layers_counted));
        reserved_alike = ap (any is_reserved) all ∙ r.reserved_alike;
        payload_alike = ap₂ (λ (a b : List ℕ). a ++ b)
            (ap₂ (λ (l : List ℕ) (n : ℕ). parts_bytes (head_given (length l) n) (head_lists l) head_syntax) (sym g.profiles_are) many)
            (ap (λ (l : List (List ℕ)). points_bytes l references layers) all ∙ r.bytes_alike);
      }
    where
      eqb_not : (n : ℕ) → n ≡ 0 → not (eqb n 0) ≡ false
      eqb_not n e = ap not (eq-eqb n 0 e)

      same_not : (m n : ℕ) → m ≡ n → not (eqb m n) ≡ false
      same_not m n e = ap not (eq-eqb m n e)

      ap_few : {l m : List ℕ} → l ≡ m → length l / 12 ≤ 63 → length m / 12 ≤ 63
      ap_few e h = subst (λ (x : List ℕ). length x / 12 ≤ 63) e h

      four : {a b c d : Bool} → a ≡ false → b ≡ false → c ≡ false → d ≡ false → (a || b || c || d) ≡ false
      four p q r s = λ i. p i || q i || r i || s i

      three : {a b c d : Bool} → a ≡ false → b ≡ false → c ≡ false → d ≡ false → (a || (b || c || d)) ≡ false
      three p q r s = λ i. p i || (q i || r i || s i)

  -- ---- the bytes of a value that is given

  payload_written : {v : DescriptorValue} → Gives profiles points references layers v → WritesPayload v (payload_bytes profiles points references layers)
  payload_written {v} g =
      subst (WritesPayload v) (sym (known g).payload_alike)
      (head_then (parts_written (head_given (length v.profiles) (length v.points)) (head_lists v.profiles) head_sounds g.fits.counts) (points_written g.fits.points))

  pub payload_only : {v : DescriptorValue} {payload : List ℕ} → Gives profiles points references layers v → WritesPayload v payload
      → payload ≡ payload_bytes profiles points references layers
  payload_only {v} g (head_then w ws) =
      ap₂ (λ (a b : List ℕ). a ++ b) (parts_only (head_given (length v.profiles) (length v.points)) (head_lists v.profiles) head_sounds w) (points_only ws)
      ∙ sym (known g).payload_alike

  -- the bytes that the head counts
  behind : length (write_table extension_tag [] ++ payload_bytes profiles points references layers) ≡ 1 + length (payload_bytes profiles points references layers)
  behind = omega arith

  pub tag_written : Written extension_tag [] (write_table extension_tag [])
  tag_written = written (record { whole = refl; fixed_fit = refl }) (at_fixed none)

  pub descriptor_written : {v : DescriptorValue} → Gives profiles points references layers v → 1 + length (payload_bytes profiles points references layers) ≤ 255
      → WritesDescriptor v (descriptor_bytes profiles points references layers)
  unfolding descriptor_bytes
  descriptor_written {v} g short =
      subst (λ (n : ℕ). WritesDescriptor v (bytes_in (head_table 63 n) ++ (write_table extension_tag [] ++ payload_bytes profiles points references layers))) behind
      (descriptor {tag = write_table extension_tag []} {payload = payload_bytes profiles points references layers}
      (written_by_meant (record { whole = refl; fixed_fit = refl }) refl (at_value {w = 8} (omega arith) (at_value {w = 8} (omega (arith, behind)) none)))
      tag_written (payload_written g))

  pub descriptor_only : {v : DescriptorValue} {bytes : List ℕ} → Gives profiles points references layers v → WritesDescriptor v bytes
      → bytes ≡ descriptor_bytes profiles points references layers
  unfolding descriptor_bytes
  descriptor_only g (descriptor {head} {tag} {payload} h t p) =
      let is_tag : tag ≡ write_table extension_tag [] = written_unique (record { whole = refl; fixed_fit = refl }) t in
      let is_payload = payload_only g p in
      ap (λ (l : List ℕ). l ++ (tag ++ payload)) (written_by_only (record { whole = refl; fixed_fit = refl }) h)
      ∙ ap₂ (λ (a b : List ℕ). bytes_in (head_table 63 (length (a ++ b))) ++ (a ++ b)) is_tag is_payload
      ∙ ap (λ (n : ℕ). bytes_in (head_table 63 n) ++ (write_table extension_tag [] ++ payload_bytes profiles points references layers)) behind

  -- ---- lists that are wrong in nothing are those of a value

  profiles_fit : (pieces : List (List ℕ)) → EachFits profile (map (read_by profile) pieces)
  profiles_fit [] = EachFits.none
  profiles_fit (piece ∷ pieces) = EachFits.one_then (read_fits profile piece) (profiles_fit pieces)

  pub given : Sound profiles points references layers
      → Gives profiles points references layers (record { profiles = profiles; points = values_in rows references layers })
  given s =
      let whole = s.whole in
      let n : ℕ = length points / 12 in
      let values =
      values_known n points references layers (omega (arith, whole.points_whole)) s.rows_fine s.references_fine s.references_counted s.layers_counted in
      let many : length (values_in rows references layers) ≡ n = values.many ∙ length_rows n points in
      let few_structures : length profiles / 12 < 64 = omega (arith, whole.few_profiles) in
      let few_values : length (values_in rows references layers) < 256 = omega (arith, whole.few_points, many) in
      record {
        profiles_are = refl;
        rows = values.laid;
        fits = record {
          whole = whole.profiles_whole;
          counts = FitParts.lines_then (at_reserved {w = 2} (at_value {w = 6} few_structures none))
              (FitParts.repeated_then (profiles_fit (twelves (length profiles / 12) profiles))
              (FitParts.lines_then (at_value {w = 8} few_values none) FitParts.none));
          points = values.fit;
        };
      }
    where
      length_rows : (n : ℕ) (l : List ℕ) → length (twelves n l) ≡ n
      length_rows Prim.Native.Nat.zero l = refl
      length_rows (Prim.Native.Nat.suc n) l = ap Prim.Native.Nat.suc (length_rows n (drop 12 l))

  -- ---- the verdict by its tests

  abbrev chain : Bool → Bool → Bool → Bool → Answer
  chain a b c d =
      cond a (Err TooWide) (cond b (Err TooWide) (cond c (Err ReservedEsCount) (cond d (Err TooWide) (Ok (2 + length_for rows (length profiles))))))

  verdict : {a b c d : Bool} → counts_wrong (length profiles) (length points) ≡ a → points_wrong rows references (length layers) ≡ b → any is_reserved rows ≡ c
      → ltb 255 (length_for rows (length profiles)) ≡ d → judged (length profiles) points references (length layers) ≡ chain a b c d
  unfolding judged
  verdict p q r s = λ i. chain (p i) (q i) (r i) (s i)

  module _ (old : List ℕ) where
    abbrev bytes : List ℕ
    bytes = descriptor_bytes profiles points references layers

    abbrev Meets : Answer → Type 0
    Meets w = Answers profiles points references layers old w (content_after w bytes old)

    -- THE ANSWER COMPUTED HAS THE MEANING.
    pub answer_meant : Answers profiles points references layers old (answer (length old) profiles points references layers) (content profiles points references layers old)
    answer_meant =
        go (counts_wrong (length profiles) (length points)) (points_wrong rows references (length layers)) (any is_reserved rows) (ltb 255 (length_for rows (length profiles)))
        refl refl refl refl
      where
        not_reserved : {v : DescriptorValue} → Gives profiles points references layers v → any is_reserved rows ≡ false → SomeReserved v.points → ⊥
        not_reserved g e s = both_ways (some_reserved s) (sym (known g).reserved_alike ∙ e)

        here : (w : Answer) → judged (length profiles) points references (length layers) ≡ w → Meets (in_room (length old) w)
            → Meets (answer (length old) profiles points references layers)
        here w e m = subst (λ (x : Answer). Meets (in_room (length old) x)) (sym e) m

        in_room_lem : (known-sound : Sound profiles points references layers) → any is_reserved rows ≡ false → length_for rows (length profiles) ≤ 255 → (b : Bool)
            → ltb (length old) (2 + length_for rows (length profiles)) ≡ b → Meets (cond b (Err NoRoom) (Ok (2 + length_for rows (length profiles))))
        in_room_lem s r short true e =
            let long = descriptor_long profiles points references layers s in
            let c = counted profiles points references layers s in
            no_room (given s) (not_reserved (given s) r) (descriptor_written (given s) (omega arith)) (omega (arith, ltb-true (length old) (2 + length_for rows (length profiles)) e))
        in_room_lem s r short false e =
            let long = descriptor_long profiles points references layers s in
            let c = counted profiles points references layers s in
            subst (λ (n : ℕ). Answers profiles points references layers old (Ok n) (bytes ++ drop (length bytes) old)) long
            (accepts (given s) (not_reserved (given s) r) (descriptor_written (given s) (omega arith))
            (omega (arith, ltb-false (length old) (2 + length_for rows (length profiles)) e)))

        go : (a b c d : Bool) → counts_wrong (length profiles) (length points) ≡ a → points_wrong rows references (length layers) ≡ b → any is_reserved rows ≡ c
            → ltb 255 (length_for rows (length profiles)) ≡ d → Meets (answer (length old) profiles points references layers)
        go true b c d p q r s = here (Err TooWide) (verdict p q r s) (no_value (λ v g. both_ways p (known g).counts_fine))
        go false true c d p q r s = here (Err TooWide) (verdict p q r s) (no_value (λ v g. both_ways q (known g).points_fine))
        go false false true d p q r s =
            let g = given (sound profiles points references layers p q) in
            here (Err ReservedEsCount) (verdict p q r s) (reserves g (reserved_some (values_in rows references layers) (sym (known g).reserved_alike ∙ r)))
        go false false false true p q r s =
            let fine = sound profiles points references layers p q in
            let c = counted profiles points references layers fine in
            here (Err TooWide) (verdict p q r s)
            (too_long_lem (given fine) (not_reserved (given fine) r) (payload_written (given fine)) (omega (arith, ltb-true 255 (length_for rows (length profiles)) s)))
        go false false false false p q r s =
            here (Ok (2 + length_for rows (length profiles))) (verdict p q r s)
            (in_room_lem (sound profiles points references layers p q) r (ltb-false 255 (length_for rows (length profiles)) s)
            (ltb (length old) (2 + length_for rows (length profiles))) refl)

    -- AND NO OTHER ANSWER HAS IT.
    pub record Only (w : Answer) (new : List ℕ) : Type 0 where
      pub answers : w ≡ answer (length old) profiles points references layers
      pub holds : new ≡ content profiles points references layers old

    pub answer_only : {w : Answer} {new : List ℕ} → Answers profiles points references layers old w new → Only w new
    answer_only = go
      where
        -- an answer that the verdict gives, with what it leaves
        only : (w : Answer) → in_room (length old) (judged (length profiles) points references (length layers)) ≡ w → Only w (content_after w bytes old)
        only w e = record { answers = sym e; holds = ap (λ (x : Answer). content_after x bytes old) (sym e) }

        not_reserved : {v : DescriptorValue} → Gives profiles points references layers v → (SomeReserved v.points → ⊥) → any is_reserved rows ≡ false
        not_reserved {v} g unreserved = (known g).reserved_alike ∙ false_unless (any is_reserved_value v.points) (λ e. unreserved (reserved_some v.points e))

        by_room : {v : DescriptorValue} (g : Gives profiles points references layers v) → (SomeReserved v.points → ⊥) → length_for rows (length profiles) ≤ 255 → (b : Bool)
            → ltb (length old) (2 + length_for rows (length profiles)) ≡ b
            → in_room (length old) (judged (length profiles) points references (length layers)) ≡ cond b (Err NoRoom) (Ok (2 + length_for rows (length profiles)))
        by_room g unreserved small b e =
            ap (in_room (length old)) (verdict (known g).counts_fine (known g).points_fine (not_reserved g unreserved) (le-ltb 255 (length_for rows (length profiles)) small))
            ∙ ap (λ (x : Bool). cond x (Err NoRoom) (Ok (2 + length_for rows (length profiles)))) e

        fine : {v : DescriptorValue} → Gives profiles points references layers v → Sound profiles points references layers
        fine g = sound profiles points references layers (known g).counts_fine (known g).points_fine

        -- a descriptor that is written is no longer than its head can count
        short : {v : DescriptorValue} {l : List ℕ} → Gives profiles points references layers v → WritesDescriptor v l → length_for rows (length profiles) ≤ 255
        short g (descriptor {head} {tag} {payload} h t p) =
            let values = bounds (subst (Fit descriptor_head) h.written.carries.values (read_fits descriptor_head head)) in
            let is_tag : tag ≡ write_table extension_tag [] = written_unique (record { whole = refl; fixed_fit = refl }) t in
            let is_payload = payload_only g p in
            let long : length (tag ++ payload) ≡ 1 + length (payload_bytes profiles points references layers) = ap₂ (λ (a b : List ℕ). length (a ++ b)) is_tag is_payload ∙ behind in
            let c = counted profiles points references layers (fine g) in
            omega (arith, values.1.0)

        go : {w : Answer} {new : List ℕ} → Answers profiles points references layers old w new → Only w new
        go (no_value unlike) = wrong (counts_wrong (length profiles) (length points)) (points_wrong rows references (length layers)) refl refl
          where
            wrong : (a b : Bool) → counts_wrong (length profiles) (length points) ≡ a → points_wrong rows references (length layers) ≡ b → Only (Err TooWide) old
            wrong true b p q = only (Err TooWide) (ap (in_room (length old)) (verdict p q refl refl))
            wrong false true p q = only (Err TooWide) (ap (in_room (length old)) (verdict p q refl refl))
            wrong false false p q = absurd (unlike _ (given (sound profiles points references layers p q)))
        go (reserves {v} g s) =
            only (Err ReservedEsCount)
            (ap (in_room (length old)) (verdict (known g).counts_fine (known g).points_fine ((known g).reserved_alike ∙ some_reserved s) refl))
        go (too_long_lem {v} {payload} g unreserved w h) =
            let is = payload_only g w in
            let c = counted profiles points references layers (fine g) in
            let long : length payload ≡ length (payload_bytes profiles points references layers) = ap length is in
            only (Err TooWide)
            (ap (in_room (length old)) (verdict (known g).counts_fine (known g).points_fine (not_reserved g unreserved) (lt-ltb 255 (length_for rows (length profiles)) (omega arith))))
        go (no_room {v} {bytes = l} g unreserved w h) =
            let long : length l ≡ 2 + length_for rows (length profiles) = ap length (descriptor_only g w) ∙ descriptor_long profiles points references layers (fine g) in
            only (Err NoRoom) (by_room g unreserved (short g w) true (lt-ltb (length old) (2 + length_for rows (length profiles)) (omega arith)))
        go (accepts {v} {bytes = l} g unreserved w h) =
            let is : l ≡ bytes = descriptor_only g w in
            let long : length l ≡ 2 + length_for rows (length profiles) = ap length is ∙ descriptor_long profiles points references layers (fine g) in
            let o = only (Ok (2 + length_for rows (length profiles))) (by_room g unreserved (short g w) false (le-ltb (length old) (2 + length_for rows (length profiles)) (omega arith))) in
            record { answers = ap Ok long ∙ o.answers; holds = ap (λ (m : List ℕ). m ++ drop (length m) old) is ∙ o.holds }
