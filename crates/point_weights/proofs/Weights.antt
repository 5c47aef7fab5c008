-- The pass over the rows finds the verdict: a row more, the walk over the rows, and what it comes to.
-- Assumes nothing.
use Rattle.std.specs.Prelude.{Err, Ok}
use Prim.Native.Nat.{ℕ, suc, ◌+◌, ◌-◌, ◌*◌, ◌/◌, ◌%◌, ◌<◌, ◌≤◌}
use mathlib.Core.Path.{◌≡◌, refl, sym, ap, ap₂, ◌∙◌}
use mathlib.Core.Bool.{Bool, true, false, cond, not, ◌||◌, or-false, or_assoc}
use mathlib.Core.List.{List, [], ◌∷◌}
use native.Mathlib.Omega.{arith}
use native.Mathlib.Nat.{add-zero, zero-add, add_assoc}
use borrow.Author.Tests.{eq-eqb, ne_eqb, eqb-true, ltb-false, not-false}
use lib.Dec.{eqb, ltb}
use lib.ListN.{length, take, drop}
use lib.Seq.{drop-drop}
use Rattle.combinators.specs.Bools.{apart, neither_left, neither_right}
use Rattle.combinators.specs.Lists.{any}
use Rattle.vocabulary.specs.declared.refusal.Refusal.TheVariants.{TooWide}
use Rattle.point_fields.specs.Fields.{row_too_wide, reference_too_wide, references_counted, layers_counted, fields_size}
use Rattle.point_weights.specs.declared.Weighed.{Weighed}
use Rattle.point_weights.specs.Rows.{twelves, rows_in, total, counts_wrong, is_reserved, judged_points, judged}
use Rattle.point_weights.specs.Weighing.{nothing_weighed, weigh_next, weighed_after, decided_by}

-- ---- a reference of seven bits

pub reference_wide : (byte : ℕ) → 127 < byte → reference_too_wide byte ≡ true
reference_wide byte h = ap not (ne_eqb (byte % 128) byte (λ e. omega arith))

pub reference_fine : (byte : ℕ) → byte ≤ 127 → reference_too_wide byte ≡ false
reference_fine byte h = ap not (eq-eqb (byte % 128) byte (omega arith))

-- ---- the rows from a place on, as the loop has them

pub rows_next : (points : List ℕ) (count i : ℕ) → i < count
    → twelves (count - i) (drop (i * 12) points)
    ≡ take (i * 12 + 12 - i * 12) (drop (i * 12) points) ∷ twelves (count - (i + 1)) (drop ((i + 1) * 12) points)
rows_next points count i h =
    let more : count - i ≡ suc (count - (i + 1)) = omega arith in
    let width : 12 ≡ i * 12 + 12 - i * 12 = omega arith in
    let on : i * 12 + 12 ≡ (i + 1) * 12 = omega arith in
    ap (λ (n : ℕ). twelves n (drop (i * 12) points)) more
    ∙ ap₂ (λ (n : ℕ) (l : List ℕ). take n (drop (i * 12) points) ∷ twelves (count - (i + 1)) l) width (drop-drop 12 (i * 12) points ∙ ap (λ (n : ℕ). drop n points) on)

pub rows_start : (points : List ℕ) (count : ℕ) → twelves (count - 0) (drop (0 * 12) points) ≡ twelves count points
rows_start points count = let all : count - 0 ≡ count = omega arith in ap (λ (n : ℕ). twelves n points) all

pub rows_none : (points : List ℕ) (count i : ℕ) → count ≤ i → twelves (count - i) (drop (i * 12) points) ≡ []
rows_none points count i h = let none : count - i ≡ 0 = omega arith in ap (λ (n : ℕ). twelves n (drop (i * 12) points)) none

-- ---- what the rows come to

pub wide_after : (seen : Weighed) (rows : List (List ℕ)) → any row_too_wide rows ≡ true → weighed_after seen rows ≡ Err TooWide
wide_after seen [] e = absurd (apart e)
wide_after seen (row ∷ rows) e = go (row_too_wide row) e (wide_after (weigh_next seen row) rows)
  where
    go : (b : Bool) → b || any row_too_wide rows ≡ true → (any row_too_wide rows ≡ true → weighed_after (weigh_next seen row) rows ≡ Err TooWide)
        → cond b (Err TooWide) (weighed_after (weigh_next seen row) rows) ≡ Err TooWide
    go true e later = refl
    go false e later = later e

pub counted_after : (seen : Weighed) (rows : List (List ℕ)) → any row_too_wide rows ≡ false
    → weighed_after seen rows
    ≡ Ok (record {
      reserved = seen.reserved || any is_reserved rows;
      references = seen.references + total references_counted rows;
      layers = seen.layers + total layers_counted rows;
      size = seen.size + total fields_size rows;
    })
counted_after seen [] e = rw (or-false seen.reserved, add-zero seen.references, add-zero seen.layers, add-zero seen.size)
counted_after seen (row ∷ rows) e =
    ap (λ (b : Bool). cond b (Err TooWide) (weighed_after (weigh_next seen row) rows)) (neither_left (row_too_wide row) (any row_too_wide rows) e)
    ∙ counted_after (weigh_next seen row) rows (neither_right (row_too_wide row) (any row_too_wide rows) e)
    ∙ rw (
      or_assoc seen.reserved (is_reserved row) (any is_reserved rows),
      add_assoc seen.references (references_counted row) (total references_counted rows),
      add_assoc seen.layers (layers_counted row) (total layers_counted rows),
      add_assoc seen.size (fields_size row) (total fields_size rows),
    )

-- a row of those that are left is too wide
pub wide_here : (seen : Weighed) (row : List ℕ) (rows : List (List ℕ)) → row_too_wide row ≡ true → Err TooWide ≡ weighed_after seen (row ∷ rows)
wide_here seen row rows e = sym (rw e)

-- or it is not, and is counted
pub fine_here : (seen : Weighed) (row : List ℕ) (rows : List (List ℕ)) → row_too_wide row ≡ false
    → weighed_after (weigh_next seen row) rows ≡ weighed_after seen (row ∷ rows)
fine_here seen row rows e = sym (rw e)

-- THE VERDICT, of rows beside references of which none is too wide.
pub weighed_decides : (rows : List (List ℕ)) (profiles : ℕ) (references : List ℕ) (layers : ℕ) → any reference_too_wide references ≡ false
    → decided_by (weighed_after nothing_weighed rows) profiles (length references) layers ≡ judged_points rows profiles references layers
weighed_decides rows profiles references layers fine = go (any row_too_wide rows) refl
  where
    go : (b : Bool) → any row_too_wide rows ≡ b
        → decided_by (weighed_after nothing_weighed rows) profiles (length references) layers ≡ judged_points rows profiles references layers
    go true e = rw (wide_after nothing_weighed rows e, e, fine)
    go false e = rw (counted_after nothing_weighed rows e, zero-add (total references_counted rows), zero-add (total layers_counted rows), zero-add (total fields_size rows), fine, e)

module _ (profiles : ℕ) (points references : List ℕ) (layers : ℕ) where
  pub counts_decide : counts_wrong profiles (length points) ≡ true → Err TooWide ≡ judged profiles points references layers
  unfolding judged
  counts_decide e = sym (rw e)

  pub references_decide : counts_wrong profiles (length points) ≡ false → any reference_too_wide references ≡ true
      → Err TooWide ≡ judged profiles points references layers
  unfolding judged
  references_decide e f = sym (rw (e, f))

  pub points_decide : counts_wrong profiles (length points) ≡ false → any reference_too_wide references ≡ false
      → decided_by (weighed_after nothing_weighed (rows_in points)) profiles (length references) layers ≡ judged profiles points references layers
  unfolding judged
  points_decide e f = weighed_decides (rows_in points) profiles references layers f ∙ sym (rw e)

  -- lists that are whole rows, and no more than may be
  pub record WholeRows : Type 0 where
    pub profiles_whole : profiles % 12 ≡ 0
    pub few_profiles : profiles / 12 ≤ 63
    pub points_whole : length points % 12 ≡ 0
    pub few_points : length points / 12 ≤ 255

  pub whole_rows : counts_wrong profiles (length points) ≡ false → WholeRows
  whole_rows e =
      let a : Bool = not (eqb (profiles % 12) 0) in
      let b : Bool = ltb 63 (profiles / 12) in
      let c : Bool = not (eqb (length points % 12) 0) in
      let d : Bool = ltb 255 (length points / 12) in
      let three = neither_left (a || b || c) d e in
      let two = neither_left (a || b) c three in
      record {
        profiles_whole = eqb-true (profiles % 12) 0 (not-false (eqb (profiles % 12) 0) (neither_left a b two));
        few_profiles = ltb-false 63 (profiles / 12) (neither_right a b two);
        points_whole = eqb-true (length points % 12) 0 (not-false (eqb (length points % 12) 0) (neither_right (a || b) c three));
        few_points = ltb-false 255 (length points / 12) (neither_right (a || b || c) d e);
      }
