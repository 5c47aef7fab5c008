-- Which kind of descriptor the tests of the code lead to.
-- Assumes nothing.
use Prim.Native.Nat.{ℕ, ◌+◌, ◌<◌}
use mathlib.Core.Path.{◌≡◌}
use mathlib.Core.Logic.{◌≢◌}
use mathlib.Core.List.{List}
use native.Mathlib.Omega.{arith}
use borrow.Author.Tests.{lt-ltb, le-ltb, eq-eqb, ne_eqb}
use lib.ListN.{length, get_or}
use Rattle.vocabulary.specs.declared.stream_types.Reading.{Reading}
use Rattle.hierarchy.specs.Hierarchy.{hierarchy_of}
use Rattle.extension.specs.Extension.{extension_of, embedded_of}
use Rattle.descriptors.specs.Looking.{skipped, wrong_length, hierarchy, extension, extension_kind, tag63_kind, tag4_kind, payload_kind}

pub count_small : (p : List ℕ) → (extension_of p).num_embedded_layers < 64
count_small p = omega arith

module _ (p : List ℕ) where
  pub extension_empty : length p ≡ 0 → extension_kind p ≡ skipped
  extension_empty h = rw (le-ltb 0 (length p) (omega arith))

  pub extension_other : 0 < length p → get_or p 0 0 ≢ 6 → extension_kind p ≡ skipped
  extension_other h t = rw (lt-ltb 0 (length p) h, ne_eqb (get_or p 0 0) 6 t)

  module _ (h : 0 < length p) (t : get_or p 0 0 ≡ 6) where
    pub extension_wrong : length p ≢ 7 + (extension_of p).num_embedded_layers → extension_kind p ≡ wrong_length
    extension_wrong n =
        rw (lt-ltb 0 (length p) h, eq-eqb (get_or p 0 0) 6 t, ne_eqb (length p) (7 + (extension_of p).num_embedded_layers) n)

    pub extension_right : length p ≡ 7 + (extension_of p).num_embedded_layers → extension_kind p ≡ extension (extension_of p) (embedded_of p)
    extension_right n =
        rw (lt-ltb 0 (length p) h, eq-eqb (get_or p 0 0) 6 t, eq-eqb (length p) (7 + (extension_of p).num_embedded_layers) n)

module _ (reading : Reading) (tag : ℕ) (p : List ℕ) where
  pub payload_4 : tag ≡ 4 → payload_kind reading tag p ≡ tag4_kind reading p
  payload_4 h = rw (eq-eqb tag 4 h)

  pub payload_63 : tag ≢ 4 → tag ≡ 63 → payload_kind reading tag p ≡ tag63_kind reading p
  payload_63 n h = rw (ne_eqb tag 4 n, eq-eqb tag 63 h)

  pub payload_other : tag ≢ 4 → tag ≢ 63 → payload_kind reading tag p ≡ skipped
  payload_other n m = rw (ne_eqb tag 4 n, ne_eqb tag 63 m)

  pub tag4_wrong : length p ≢ 4 → tag4_kind reading p ≡ wrong_length
  tag4_wrong n = rw (ne_eqb (length p) 4 n)

  pub tag4_right : length p ≡ 4 → tag4_kind reading p ≡ hierarchy (hierarchy_of reading p)
  tag4_right n = rw (eq-eqb (length p) 4 n)
