-- WHAT WAS WRITTEN BY PARTS IS READ BY THEM: for every list of parts, if the counts are those of the lists, and the conditions say of what was read what they say of what
-- was given.
-- Assumes nothing.
use Rattle.std.specs.Prelude.{ℕ, ◌*◌, ◌≡◌, Bool, cond, List, [], ◌∷◌, ◌++◌, length}
use Rattle.std.proofs.Common.{sym, ap, ◌∙◌, subst, append-nil}
use Rattle.combinators.specs.Lists.{gather}
use Rattle.syntax.specs.Table.{Table, bytes, Fit, Sound, read_table, write_table}
use Rattle.syntax.specs.Named.{Given, given_to, by_names, values_by, read_by, write_by}
use Rattle.syntax.proofs.Laws.{read_write, length_written}
use Rattle.operation_points.specs.Parts.{Part, lines, repeated, when, Parses}
use Rattle.point_fields.specs.WrittenParts.{Lists, parts_bytes, FitParts}
use Rattle.point_writer.proofs.Lengths.{length_items}
use Rattle.point_writer.proofs.PartLaws.{Sounds}

module _ (given : Given) (lists : Lists) where
  -- what reading is given in the end, after the lines before
  abbrev pub shown : Given → List Part → Given
  shown before [] = before
  shown before (lines t ∷ parts) = shown (before ++ by_names t (values_by t given)) parts
  shown before (repeated name t ∷ parts) = shown before parts
  shown before (when test t ∷ parts) = shown (before ++ cond (test given) (by_names t (values_by t given)) []) parts

  abbrev pub Agrees : Given → List Part → Type 0
  Agrees before [] = Unit {0}
  Agrees before (lines t ∷ parts) = Agrees (before ++ by_names t (values_by t given)) parts
  Agrees before (repeated name t ∷ parts) = (given_to name before ≡ length (lists name)) × Agrees before parts
  Agrees before (when test t ∷ parts) = (test before ≡ test given) × Agrees (before ++ cond (test given) (by_names t (values_by t given)) []) parts

  read_again : {t : Table} → Sound t → Fit t (values_by t given) → read_by t (write_by t given) ≡ by_names t (values_by t given)
  read_again {t} s fit =
      ap (λ (l : List ℕ). by_names t (read_table t l)) (sym (append-nil (write_table t (values_by t given)))) ∙ ap (by_names t) (read_write s fit [])

  pub written_parses : {parts : List Part} (before : Given) → Sounds parts → FitParts given lists parts → Agrees before parts
      → Parses parts before (parts_bytes given lists parts) (shown before parts)
  written_parses before s FitParts.none a = Parses.nothing
  written_parses before s (FitParts.lines_then {t} {parts} fit fits) a =
      Parses.lines_then (write_by t given) (parts_bytes given lists parts) (length_written t (values_by t given))
      (subst (λ (g : Given). Parses parts (before ++ g) (parts_bytes given lists parts) (shown (before ++ by_names t (values_by t given)) parts)) (sym (read_again s.0 fit))
      (written_parses (before ++ by_names t (values_by t given)) s.1 fits a))
  written_parses before s (FitParts.repeated_then {name} {t} {parts} fit fits) a =
      Parses.repeated_then (gather (write_by t) (lists name)) (parts_bytes given lists parts)
      (length_items t (lists name) ∙ ap (λ (n : ℕ). n * bytes t) (sym a.0)) (written_parses before s.1 fits a.1)
  written_parses before s (FitParts.when_there {test} {t} {parts} e fit fits) a =
      subst (λ (b : Bool). Parses (when test t ∷ parts) before (cond b (write_by t given) [] ++ parts_bytes given lists parts)
      (shown (before ++ cond b (by_names t (values_by t given)) []) parts)) (sym e)
      (Parses.when_there (write_by t given) (parts_bytes given lists parts) (a.0 ∙ e) (length_written t (values_by t given))
      (subst (λ (g : Given). Parses parts (before ++ g) (parts_bytes given lists parts) (shown (before ++ by_names t (values_by t given)) parts)) (sym (read_again s.0 fit))
      (written_parses (before ++ by_names t (values_by t given)) s.1 fits
      (subst (λ (b : Bool). Agrees (before ++ cond b (by_names t (values_by t given)) []) parts) e a.1))))
  written_parses before s (FitParts.when_not {test} {t} {parts} e fits) a =
      subst (λ (b : Bool). Parses (when test t ∷ parts) before (cond b (write_by t given) [] ++ parts_bytes given lists parts)
      (shown (before ++ cond b (by_names t (values_by t given)) []) parts)) (sym e)
      (Parses.when_not (a.0 ∙ e)
      (subst (λ (g : Given). Parses parts g (parts_bytes given lists parts) (shown (before ++ []) parts)) (append-nil before)
      (written_parses (before ++ []) s.1 fits
      (subst (λ (b : Bool). Agrees (before ++ cond b (by_names t (values_by t given)) []) parts) e a.1))))
