-- Syntax tables with loops and conditions, written: the bytes computed are those that `WritesParts` means, and no others are; and the test of the numbers says what
-- `FitParts` does, both ways. For every list of parts.
-- Assumes nothing.
use Prim.Native.Nat.{ℕ}
use mathlib.Core.Path.{◌≡◌, refl, sym, ap, ap₂, ◌∙◌, subst}
use mathlib.Core.Bool.{Bool, true, false, cond, not, ◌||◌}
use mathlib.Core.List.{List, [], ◌∷◌, ◌++◌}
use borrow.Author.Tests.{not-false}
use Rattle.combinators.specs.Bools.{neither_left, neither_right}
use Rattle.combinators.specs.Lists.{any, gather}
use Rattle.syntax.specs.Table.{Table, fits, Fit, Sound}
use Rattle.syntax.specs.Named.{Given, values_by, write_by}
use Rattle.syntax.proofs.Laws.{fits_fit, fit_fits, written, written_unique}
use Rattle.operation_points.specs.Parts.{Part, lines, repeated, when}
use Rattle.point_fields.specs.WrittenParts.{Lists, parts_bytes, not_zero, part_too_wide, WritesEach, WritesParts, EachFits, FitParts}

-- tables that can be written
abbrev pub Sounds : List Part → Type 0
Sounds [] = Unit {0}
Sounds (lines t ∷ parts) = Sound t × Sounds parts
Sounds (repeated name t ∷ parts) = Sound t × Sounds parts
Sounds (when test t ∷ parts) = Sound t × Sounds parts

-- ---- the bytes

each_written : {t : Table} → Sound t → {items : List Given} → EachFits t items → WritesEach t items (gather (write_by t) items)
each_written s EachFits.none = WritesEach.nothing
each_written s (EachFits.one_then fit fits) = WritesEach.one_then (written s fit) (each_written s fits)

each_only : {t : Table} → Sound t → {items : List Given} {l : List ℕ} → WritesEach t items l → l ≡ gather (write_by t) items
each_only s WritesEach.nothing = refl
each_only s (WritesEach.one_then w ws) = ap₂ (λ (a b : List ℕ). a ++ b) (written_unique s w) (each_only s ws)

module _ (given : Given) (lists : Lists) where
  pub parts_written : {parts : List Part} → Sounds parts → FitParts given lists parts → WritesParts given lists parts (parts_bytes given lists parts)
  parts_written s FitParts.none = WritesParts.nothing
  parts_written s (FitParts.lines_then fit fits) = WritesParts.lines_then (written s.0 fit) (parts_written s.1 fits)
  parts_written s (FitParts.repeated_then fit fits) = WritesParts.repeated_then (each_written s.0 fit) (parts_written s.1 fits)
  parts_written s (FitParts.when_there {test} {t} {parts} e fit fits) =
      subst (λ (b : Bool). WritesParts given lists (when test t ∷ parts) (cond b (write_by t given) [] ++ parts_bytes given lists parts)) (sym e)
      (WritesParts.when_there e (written s.0 fit) (parts_written s.1 fits))
  parts_written s (FitParts.when_not {test} {t} {parts} e fits) =
      subst (λ (b : Bool). WritesParts given lists (when test t ∷ parts) (cond b (write_by t given) [] ++ parts_bytes given lists parts)) (sym e)
      (WritesParts.when_not e (parts_written s.1 fits))

  pub parts_only : {parts : List Part} {l : List ℕ} → Sounds parts → WritesParts given lists parts l → l ≡ parts_bytes given lists parts
  parts_only s WritesParts.nothing = refl
  parts_only s (WritesParts.lines_then w ws) = ap₂ (λ (a b : List ℕ). a ++ b) (written_unique s.0 w) (parts_only s.1 ws)
  parts_only s (WritesParts.repeated_then w ws) = ap₂ (λ (a b : List ℕ). a ++ b) (each_only s.0 w) (parts_only s.1 ws)
  parts_only s (WritesParts.when_there {test} {t} {parts} e w ws) =
      ap₂ (λ (a b : List ℕ). a ++ b) (written_unique s.0 w) (parts_only s.1 ws)
      ∙ sym (ap (λ (b : Bool). cond b (write_by t given) [] ++ parts_bytes given lists parts) e)
  parts_only s (WritesParts.when_not {test} {t} {parts} e ws) =
      parts_only s.1 ws ∙ sym (ap (λ (b : Bool). cond b (write_by t given) [] ++ parts_bytes given lists parts) e)

  -- ---- the test of the numbers

  -- items that fit
  abbrev pub ItemsFit : List Part → Type 0
  ItemsFit [] = Unit {0}
  ItemsFit (lines t ∷ parts) = ItemsFit parts
  ItemsFit (repeated name t ∷ parts) = EachFits t (lists name) × ItemsFit parts
  ItemsFit (when test t ∷ parts) = ItemsFit parts

  -- lines that are not there have no number
  abbrev pub AbsentZero : List Part → Type 0
  AbsentZero [] = Unit {0}
  AbsentZero (lines t ∷ parts) = AbsentZero parts
  AbsentZero (repeated name t ∷ parts) = AbsentZero parts
  AbsentZero (when test t ∷ parts) = (test given ≡ false → any not_zero (values_by t given) ≡ false) × AbsentZero parts

  pub narrow_fit : (parts : List Part) → ItemsFit parts → any (part_too_wide given) parts ≡ false → FitParts given lists parts
  narrow_fit [] i e = FitParts.none
  narrow_fit (lines t ∷ parts) i e =
      FitParts.lines_then (fits_fit t (values_by t given) (not-false (fits t (values_by t given)) (neither_left (not (fits t (values_by t given))) (any (part_too_wide given) parts) e)))
      (narrow_fit parts i (neither_right (not (fits t (values_by t given))) (any (part_too_wide given) parts) e))
  narrow_fit (repeated name t ∷ parts) i e = FitParts.repeated_then i.0 (narrow_fit parts i.1 e)
  narrow_fit (when test t ∷ parts) i e =
      go (test given) refl (neither_left (part_too_wide given (when test t)) (any (part_too_wide given) parts) e)
      (narrow_fit parts i (neither_right (part_too_wide given (when test t)) (any (part_too_wide given) parts) e))
    where
      go : (b : Bool) → test given ≡ b → cond b (not (fits t (values_by t given))) (any not_zero (values_by t given)) ≡ false → FitParts given lists parts
          → FitParts given lists (when test t ∷ parts)
      go true p f rest = FitParts.when_there p (fits_fit t (values_by t given) (not-false (fits t (values_by t given)) f)) rest
      go false p f rest = FitParts.when_not p rest

  fine_fit : {t : Table} → Fit t (values_by t given) → not (fits t (values_by t given)) ≡ false
  fine_fit fit = ap not (fit_fits fit)

  pub fit_narrow : {parts : List Part} → AbsentZero parts → FitParts given lists parts → any (part_too_wide given) parts ≡ false
  fit_narrow z FitParts.none = refl
  fit_narrow z (FitParts.lines_then fit fits) = ap₂ ◌||◌ (fine_fit fit) (fit_narrow z fits)
  fit_narrow z (FitParts.repeated_then fit fits) = fit_narrow z fits
  fit_narrow z (FitParts.when_there {test} {t} {parts} e fit fits) =
      ap₂ ◌||◌ (ap (λ (b : Bool). cond b (not (Rattle.syntax.specs.Table.fits t (values_by t given))) (any not_zero (values_by t given))) e ∙ fine_fit fit) (fit_narrow z.1 fits)
  fit_narrow z (FitParts.when_not {test} {t} {parts} e fits) =
      ap₂ ◌||◌ (ap (λ (b : Bool). cond b (not (Rattle.syntax.specs.Table.fits t (values_by t given))) (any not_zero (values_by t given))) e ∙ z.0 e) (fit_narrow z.1 fits)

  -- what fits has items that fit
  pub fit_items : {parts : List Part} → FitParts given lists parts → ItemsFit parts
  fit_items FitParts.none = tt
  fit_items (FitParts.lines_then fit fits) = fit_items fits
  fit_items (FitParts.repeated_then fit fits) = (fit, fit_items fits)
  fit_items (FitParts.when_there e fit fits) = fit_items fits
  fit_items (FitParts.when_not e fits) = fit_items fits
