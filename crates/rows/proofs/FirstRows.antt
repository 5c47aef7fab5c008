-- The earliest row of which something holds is where a search stops, if the search's test passes there and nowhere before: `found`, `none`,
-- and the other way round `is_first`, `is_none`.
-- Assumes nothing.
use Prim.Native.Nat.{ℕ, ◌≤◌, ◌<◌}
use mathlib.Core.Bool.{Bool, true, false, true≢false}
use mathlib.Core.Path.{◌≡◌, sym, ◌∙◌}
use native.Mathlib.Decide.{dec_lt}
use native.Mathlib.Omega.{arith}
use Rattle.combinators.specs.Below.{seek}
use Rattle.combinators.proofs.Seeking.{seek_first}
use Rattle.rows.specs.Table.{Table, rows_in}
use Rattle.rows.specs.Meaning.{FirstRow, NoRow}

-- there is one earliest row at the most
pub first_row_one : (t : Table) (P : ℕ → Type 0) (j k : ℕ) → FirstRow t P j → FirstRow t P k → j ≡ k
first_row_one t P j k f g = go (dec_lt j k) (dec_lt k j)
  where
    go : Dec (j < k) → Dec (k < j) → j ≡ k
    go (yes h) d = absurd (g.earliest j h f.holds)
    go (no h) (yes l) = absurd (f.earliest k l g.holds)
    go (no h) (no l) = omega arith

module _ (t : Table) (P : ℕ → Type 0) (test : ℕ → Bool)
    (sound : (k : ℕ) → k < rows_in t → ((j : ℕ) → j < k → test j ≡ false) → test k ≡ true → P k)
    (complete : (k : ℕ) → k < rows_in t → P k → test k ≡ true) where
  abbrev place : ℕ
  place = seek test (rows_in t)

  pub found : place < rows_in t → FirstRow t P place
  found h =
      let first = seek_first test (rows_in t) in
      record {
        inside = h;
        holds = sound place h first.before (first.found h);
        earliest = λ j l p. true≢false (sym (complete j (omega arith) p) ∙ first.before j l);
      }

  pub none : rows_in t ≤ place → NoRow t P
  none h k l p = true≢false (sym (complete k l p) ∙ (seek_first test (rows_in t)).before k (omega arith))

  pub is_none : NoRow t P → rows_in t ≤ place
  is_none n = go (dec_lt place (rows_in t))
    where
      go : Dec (place < rows_in t) → rows_in t ≤ place
      go (yes h) = absurd (n place h (found h).holds)
      go (no h) = omega arith

  pub is_first : (k : ℕ) → FirstRow t P k → (place < rows_in t) × (k ≡ place)
  is_first k f = go (dec_lt place (rows_in t))
    where
      go : Dec (place < rows_in t) → (place < rows_in t) × (k ≡ place)
      go (yes h) = (h, first_row_one t P k place f (found h))
      go (no h) = absurd (none (omega arith) k f.inside f.holds)
