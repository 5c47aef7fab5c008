-- Values that are not too wide fit the table; and too wide, from the tests that the code makes.
-- Assumes nothing.
use mathlib.Core.Path.{◌≡◌, sym}
use mathlib.Core.Bool.{false, not, or-false}
use mathlib.Core.List.{[], ◌∷◌}
use Rattle.combinators.specs.Lists.{any}
use Rattle.syntax.specs.Table.{Fit, fits}
use Rattle.syntax.specs.Filled.{Filled, filled, too_wide_in}
use Rattle.vocabulary.specs.declared.stream_types.Reading.TheVariants.{Edition2015}
use Rattle.descriptor_heads.specs.Head.{head_table}
use Rattle.descriptor_heads.proofs.Widths.{fit_first, fit_others}
use Rattle.hierarchy.specs.declared.HierarchyRecord.{HierarchyRecord}
use Rattle.hierarchy.specs.Hierarchy.{hierarchy_descriptor, hierarchy_given, hierarchy_fields, hierarchy_tables}

module _ (h : HierarchyRecord) (e : any too_wide_in (hierarchy_tables h) ≡ false) where
  abbrev payload_table : Filled
  payload_table = filled (hierarchy_descriptor Edition2015) (hierarchy_given h)

  pub hierarchy_fit : Fit (hierarchy_descriptor Edition2015) (hierarchy_fields h)
  hierarchy_fit = fit_first payload_table [] (fit_others (head_table 4 4) (payload_table ∷ []) e)

pub hierarchy_wide : (h : HierarchyRecord) → not (fits (hierarchy_descriptor Edition2015) (hierarchy_fields h)) ≡ any too_wide_in (hierarchy_tables h)
hierarchy_wide h = sym (or-false (not (fits (hierarchy_descriptor Edition2015) (hierarchy_fields h))))
