-- Values that are not too wide fit the tables, and each embedded layer then takes a byte; and too wide, from the tests that the code makes.
-- Assumes nothing.
use Prim.Native.Nat.{◌+◌, ◌<◌}
use mathlib.Core.Path.{◌≡◌, refl, sym, ◌∙◌}
use mathlib.Core.Bool.{true, false, or-true}
use mathlib.Core.List.{List, [], ◌∷◌, map}
use native.Mathlib.Omega.{arith}
use borrow.Author.Tests.{lt-ltb}
use lib.ListN.{length, take, length-append}
use Rattle.combinators.specs.Lists.{any, gather}
use Rattle.syntax.specs.Table.{Fit, fits}
use Rattle.syntax.specs.Filled.{Filled, filled, bytes_in, too_wide_in}
use Rattle.syntax.proofs.Laws.{fits_fit}
use Rattle.syntax.proofs.Equations.{bounds}
use Rattle.vocabulary.specs.declared.LayerIndex.{LayerIndex}
use Rattle.descriptor_heads.specs.Head.{head_table}
use Rattle.descriptor_heads.proofs.Widths.{fit_first, fit_others}
use Rattle.extension.specs.declared.ExtensionRecord.{ExtensionRecord}
use Rattle.extension.specs.Extension.{extension_head, extension_given, extension_fields, layer_table, extension_tables}

module _ (x : ExtensionRecord) (layers : List LayerIndex) (e : any too_wide_in (extension_tables x layers) ≡ false) where
  abbrev pub listed : List LayerIndex
  listed = take x.num_embedded_layers layers

  after_head : any too_wide_in (filled extension_head (extension_given x) ∷ map layer_table listed) ≡ false
  after_head = fit_others (head_table 63 (7 + x.num_embedded_layers)) (filled extension_head (extension_given x) ∷ map layer_table listed) e

  pub extension_fit : Fit extension_head (extension_fields x)
  extension_fit = fit_first (filled extension_head (extension_given x)) (map layer_table listed) after_head

  pub layers_fit : any too_wide_in (map layer_table listed) ≡ false
  layers_fit = fit_others (filled extension_head (extension_given x)) (map layer_table listed) after_head

  -- what an extension counts, six bits can hold
  pub count_small : x.num_embedded_layers < 64
  count_small = (bounds extension_fit).1.1.1.1.1.0

-- each takes one byte
pub length_layers : (layers : List LayerIndex) → length (gather bytes_in (map layer_table layers)) ≡ length layers
length_layers [] = refl
length_layers (index ∷ layers) =
    length-append (bytes_in (layer_table index)) (gather bytes_in (map layer_table layers)) ∙ rw (length_layers layers) (omega arith)

-- TOO WIDE.
module _ (x : ExtensionRecord) (layers : List LayerIndex) where
  abbrev counted : List Filled
  counted = map layer_table (take x.num_embedded_layers layers)

  -- values that fit before the list: the list decides
  pub extension_fine : fits extension_head (extension_fields x) ≡ true → any too_wide_in counted ≡ any too_wide_in (extension_tables x layers)
  extension_fine e =
      let small : x.num_embedded_layers < 64 = (bounds (fits_fit extension_head (extension_fields x) e)).1.1.1.1.1.0 in
      sym (rw (lt-ltb (7 + x.num_embedded_layers) 256 (omega arith), e))

  pub extension_wide : fits extension_head (extension_fields x) ≡ false → true ≡ any too_wide_in (extension_tables x layers)
  extension_wide e = sym (rw e (or-true (too_wide_in (head_table 63 (7 + x.num_embedded_layers)))))
