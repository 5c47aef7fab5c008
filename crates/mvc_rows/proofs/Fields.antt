-- The values of a row that fit: which tests say so, and that the descriptor out of them gives them again.
-- Assumes nothing.
use Prim.Native.Nat.{ℕ, ◌+◌, ◌<◌}
use mathlib.Core.Path.{◌≡◌, ◌∙◌, ap}
use mathlib.Core.Bool.{true, ◌&&◌, and-true, and_assoc}
use mathlib.Core.List.{List}
use borrow.Author.Tests.{lt-ltb}
use lib.Dec.{ltb}
use lib.ListN.{get_or}
use Rattle.syntax.specs.Table.{Fit, fits}
use Rattle.syntax.proofs.Laws.{fits_fit}
use Rattle.syntax.proofs.Equations.{bounds}
use Rattle.descriptor_heads.proofs.Bits.{bit_there}
use Rattle.mvc_extension.specs.MvcExtension.{mvc_extension_descriptor, mvc_extension_fields}
use Rattle.mvc_rows.specs.Rows.{fields_at, extension_at}

-- a rate has all 16 bits, and every other value is tested
pub tested : (numbers : List ℕ) (start : ℕ) → get_or numbers start 0 < 65536 → get_or numbers (start + 1) 0 < 65536
    → ltb (get_or numbers (start + 2) 0) 1024
    && ltb (get_or numbers (start + 3) 0) 1024
    && ltb (get_or numbers (start + 4) 0) 8
    && ltb (get_or numbers (start + 5) 0) 8
    && ltb (get_or numbers (start + 6) 0) 2
    && ltb (get_or numbers (start + 7) 0) 2
    ≡ fits mvc_extension_descriptor (fields_at numbers start)
tested numbers start a b = simp (lt-ltb (get_or numbers start 0) 65536 a, lt-ltb (get_or numbers (start + 1) 0) 65536 b, and-true, and_assoc)

module _ (numbers : List ℕ) (start : ℕ) (fit : fits mvc_extension_descriptor (fields_at numbers start) ≡ true) where
  abbrev bounded : Fit mvc_extension_descriptor (fields_at numbers start)
  bounded = fits_fit mvc_extension_descriptor (fields_at numbers start) fit

  pub first_id_small : get_or numbers (start + 4) 0 < 8
  first_id_small = let b = bounds bounded in b.1.1.1.1.0

  pub last_id_small : get_or numbers (start + 5) 0 < 8
  last_id_small = let b = bounds bounded in b.1.1.1.1.1.0

  -- THE SAME AGAIN.
  pub fields_again : mvc_extension_fields (extension_at numbers start) ≡ fields_at numbers start
  fields_again =
      let b = bounds bounded in
      rw (bit_there (get_or numbers (start + 6) 0) b.1.1.1.1.1.1.0, bit_there (get_or numbers (start + 7) 0) b.1.1.1.1.1.1.1.0)

  pub extension_fits : fits mvc_extension_descriptor (mvc_extension_fields (extension_at numbers start)) ≡ true
  extension_fits = ap (fits mvc_extension_descriptor) fields_again ∙ fit
