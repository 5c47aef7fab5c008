-- A work space holds as many rows as its shortest list has places, and so any smaller number.
-- Assumes nothing.
use Prim.Native.Nat.{ℕ, zero, suc, ◌≤◌, ◌<◌, min}
use mathlib.Core.List.{List, [], ◌∷◌}
use mathlib.Core.Path.{◌≡◌}
use native.Mathlib.Nat.{not-suc-le-zero}
use native.Mathlib.Omega.{arith}
use lib.ListN.{length, get_or}
use Rattle.join_answers.specs.Joining.{most_long}
use Rattle.join_answers.specs.Steps.{spaces, Holds}

-- the least is at most any of them
held_at_lem : (l : List ℕ) (i : ℕ) → i < length l → most_long l ≤ get_or l i 0
held_at_lem [] i h = absurd (not-suc-le-zero h)
held_at_lem (places ∷ others) zero h = first (most_long others)
  where
    first : (most : ℕ) → min places most ≤ places
    first most = omega arith
held_at_lem (places ∷ others) (suc i) h = later (most_long others) (held_at_lem others i (omega arith))
  where
    later : (most : ℕ) → most ≤ get_or others i 0 → min places most ≤ get_or others i 0
    later most l = omega arith

module _ (order keys kept places heads claimed used : ℕ) where
  pub most_held : (most : ℕ) → most ≡ most_long (spaces order keys kept places heads claimed used) → Holds most order keys kept places heads claimed used
  most_held most e =
      let all = spaces order keys kept places heads claimed used in
      rw e
      (record {
        for_order = held_at_lem all 0 (omega arith);
        for_keys = held_at_lem all 1 (omega arith);
        for_kept = held_at_lem all 2 (omega arith);
        for_places = held_at_lem all 3 (omega arith);
        for_heads = held_at_lem all 4 (omega arith);
        for_claimed = held_at_lem all 5 (omega arith);
        for_used = held_at_lem all 6 (omega arith);
      })

  pub fewer_held : (most rows : ℕ) → Holds most order keys kept places heads claimed used → rows ≤ most → Holds rows order keys kept places heads claimed used
  fewer_held most rows known h =
      record {
        for_order = omega (arith, known.for_order);
        for_keys = omega (arith, known.for_keys);
        for_kept = omega (arith, known.for_kept);
        for_places = omega (arith, known.for_places);
        for_heads = omega (arith, known.for_heads);
        for_claimed = omega (arith, known.for_claimed);
        for_used = omega (arith, known.for_used);
      }
