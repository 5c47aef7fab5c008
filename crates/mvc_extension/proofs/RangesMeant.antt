-- What is computed of two ranges is true exactly where they are wrong.
-- Assumes nothing.
use Prim.Native.Nat.{ℕ, ◌≤◌, ◌<◌}
use mathlib.Core.Bool.{true, ◌&&◌, ◌||◌}
use mathlib.Core.Logic.{◌⊎◌, inl, inr}
use mathlib.Core.Path.{◌≡◌, ap₂}
use native.Mathlib.Decide.{dec_lt}
use native.Mathlib.Omega.{arith}
use borrow.Author.Tests.{ltb-true, lt-ltb, leb-true, le-leb}
use lib.Dec.{leb}
use Rattle.combinators.specs.Bools.{both_left, both_right, either_left, either_right, either_which}
use Rattle.mvc_extension.specs.declared.MvcExtension.{MvcExtension}
use Rattle.mvc_extension.specs.Ranges.{reversed_range, ranges_meet, wrong_ranges, WrongRanges, first_reversed, second_reversed, shared}

module _ (x y : MvcExtension) where
  abbrev least : MvcExtension → ℕ
  least e = e.view_order_index_min

  abbrev greatest : MvcExtension → ℕ
  greatest e = e.view_order_index_max

  -- ranges that meet share the greater of their least indices, or one of them is reversed
  met : least x ≤ greatest y → least y ≤ greatest x → WrongRanges x y
  met a b = go (dec_lt (greatest x) (least x)) (dec_lt (greatest y) (least y)) (dec_lt (least x) (least y))
    where
      go : Dec (greatest x < least x) → Dec (greatest y < least y) → Dec (least x < least y) → WrongRanges x y
      go (yes h) d e = first_reversed h
      go (no h) (yes l) e = second_reversed l
      go (no h) (no l) (yes m) =
          shared {index = least y} (record { from_least = omega arith; to_greatest = b }) (record { from_least = omega arith; to_greatest = omega arith })
      go (no h) (no l) (no m) =
          shared {index = least x} (record { from_least = omega arith; to_greatest = omega arith }) (record { from_least = omega arith; to_greatest = a })

  pub ranges_meant : wrong_ranges x y ≡ true → WrongRanges x y
  ranges_meant e = go (either_which (reversed_range x || reversed_range y) (ranges_meet x y) e)
    where
      one : (reversed_range x ≡ true) ⊎ (reversed_range y ≡ true) → WrongRanges x y
      one (inl r) = first_reversed (ltb-true (greatest x) (least x) r)
      one (inr r) = second_reversed (ltb-true (greatest y) (least y) r)

      go : (reversed_range x || reversed_range y ≡ true) ⊎ (ranges_meet x y ≡ true) → WrongRanges x y
      go (inl r) = one (either_which (reversed_range x) (reversed_range y) r)
      go (inr m) =
          met (leb-true (least x) (greatest y) (both_left (leb (least x) (greatest y)) (leb (least y) (greatest x)) m))
          (leb-true (least y) (greatest x) (both_right (leb (least x) (greatest y)) (leb (least y) (greatest x)) m))

  pub ranges_only : WrongRanges x y → wrong_ranges x y ≡ true
  ranges_only (first_reversed h) =
      either_left (reversed_range x || reversed_range y) (ranges_meet x y) (either_left (reversed_range x) (reversed_range y) (lt-ltb (greatest x) (least x) h))
  ranges_only (second_reversed h) =
      either_left (reversed_range x || reversed_range y) (ranges_meet x y) (either_right (reversed_range x) (reversed_range y) (lt-ltb (greatest y) (least y) h))
  ranges_only (shared {index} a b) =
      let low = a.from_least in
      let high = a.to_greatest in
      let low' = b.from_least in
      let high' = b.to_greatest in
      either_right (reversed_range x || reversed_range y) (ranges_meet x y)
      (ap₂ ◌&&◌ (le-leb (least x) (greatest y) (omega arith)) (le-leb (least y) (greatest x) (omega arith)))
