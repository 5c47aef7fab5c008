-- One turn of an assembly: an edge that finds a row for its lower layer, or none.
-- Assumes nothing.
use Prim.Native.Nat.{ℕ, suc, ◌+◌, ◌≤◌, ◌<◌}
use mathlib.Core.Path.{◌≡◌, sym, ◌∙◌, ap}
use mathlib.Core.Bool.{Bool, true, false, cond}
use mathlib.Core.List.{List}
use native.Mathlib.Numerals.{add-one}
use borrow.Author.Tests.{lt-ltb, le-ltb}
use lib.Dec.{ltb}
use lib.ListN.{length, get_or, set, drop, drop_of_length-le}
use lib.Seq.{drop-cons}
use Rattle.rows.specs.Table.{Table, rows_in}
use Rattle.assembling.specs.Assemblies.{Assembly, upper_of, lower_of, partner, assembled_from}

abbrev incomplete : List ℕ → Assembly
incomplete rows = record { complete = false; rows = rows }

module _ (t : Table) (edges : List ℕ) (at : ℕ) (rows : List ℕ) where
  module _ (inside : at < length edges) where
    abbrev paired : Assembly
    paired =
        cond (ltb (partner t rows (get_or edges at 0)) (rows_in t))
        (assembled_from t (drop (suc at) edges) (set rows (lower_of (get_or edges at 0)) (partner t rows (get_or edges at 0))))
        (incomplete rows)

    turn : (b : Bool) → ltb (get_or rows (upper_of (get_or edges at 0)) 0) (rows_in t) ≡ b
        → assembled_from t (drop at edges) rows ≡ cond b paired (assembled_from t (drop (suc at) edges) rows)
    turn b e =
        ap (λ (es : List ℕ). assembled_from t es rows) (drop-cons edges at 0 inside)
        ∙ ap (λ (c : Bool). cond c paired (assembled_from t (drop (suc at) edges) rows)) e

    -- the upper layer has no row
    pub no_upper_row : rows_in t ≤ get_or rows (upper_of (get_or edges at 0)) 0 → assembled_from t (drop (at + 1) edges) rows ≡ assembled_from t (drop at edges) rows
    no_upper_row h = rw (add-one at) (sym (turn false (le-ltb (get_or rows (upper_of (get_or edges at 0)) 0) (rows_in t) h)))

    module _ (row : ℕ) (upper : get_or rows (upper_of (get_or edges at 0)) 0 < rows_in t) (is_row : row ≡ partner t rows (get_or edges at 0)) where
      upper_row : assembled_from t (drop at edges) rows ≡ paired
      upper_row = turn true (lt-ltb (get_or rows (upper_of (get_or edges at 0)) 0) (rows_in t) upper)

      -- no row for the lower layer
      pub no_lower_row : rows_in t ≤ row → incomplete rows ≡ assembled_from t (drop at edges) rows
      no_lower_row h =
          sym (upper_row ∙ ap (λ (b : Bool). cond b
          (assembled_from t (drop (suc at) edges) (set rows (lower_of (get_or edges at 0)) (partner t rows (get_or edges at 0))))
          (incomplete rows)) (le-ltb (partner t rows (get_or edges at 0)) (rows_in t) (rw is_row at h)))

      -- a row for it
      pub lower_row : row < rows_in t → assembled_from t (drop (at + 1) edges) (set rows (lower_of (get_or edges at 0)) row) ≡ assembled_from t (drop at edges) rows
      lower_row h =
          let found : partner t rows (get_or edges at 0) < rows_in t = rw is_row at h in
          rw (add-one at, is_row)
          (sym (upper_row ∙ ap (λ (b : Bool). cond b
          (assembled_from t (drop (suc at) edges) (set rows (lower_of (get_or edges at 0)) (partner t rows (get_or edges at 0))))
          (incomplete rows)) (lt-ltb (partner t rows (get_or edges at 0)) (rows_in t) found)))

  -- past the last edge
  pub all_met : length edges ≤ at → record { complete = true; rows = rows } ≡ assembled_from t (drop at edges) rows
  all_met h = sym (ap (λ (es : List ℕ). assembled_from t es rows) (drop_of_length-le edges h))
