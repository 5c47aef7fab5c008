-- The ranges of view order index of two MVC extension descriptors: what is computed, and beside it what is meant, in the words of W-211. proofs/RangesMeant.antt has the law, both ways.
-- Assumes nothing.
use Rattle.std.specs.Prelude.{ℕ, ◌≤◌, ◌<◌, Bool, ◌&&◌, ◌||◌, leb, ltb}
use Rattle.mvc_extension.specs.declared.MvcExtension.{MvcExtension}

-- 'a range whose least exceeds its greatest'
abbrev pub reversed_range : MvcExtension → Bool
reversed_range x = ltb x.view_order_index_max x.view_order_index_min

-- 'ranges that meet': of ranges that are none of these, each begins before the other ends
abbrev pub ranges_meet : MvcExtension → MvcExtension → Bool
ranges_meet x y = leb x.view_order_index_min y.view_order_index_max && leb y.view_order_index_min x.view_order_index_max

abbrev pub wrong_ranges : MvcExtension → MvcExtension → Bool
wrong_ranges x y = (reversed_range x || reversed_range y) || ranges_meet x y

-- THE MEANING. A view order index is in the range of a descriptor, both ends of which are in it.
pub record InRange (x : MvcExtension) (index : ℕ) : Type 0 where
  pub from_least : x.view_order_index_min ≤ index
  pub to_greatest : index ≤ x.view_order_index_max

-- 'a range whose least exceeds its greatest, or ranges that meet': that share an index
pub data WrongRanges (x y : MvcExtension) : Type 0 where
  first_reversed : x.view_order_index_max < x.view_order_index_min → WrongRanges x y
  second_reversed : y.view_order_index_max < y.view_order_index_min → WrongRanges x y
  shared : {index : ℕ} → InRange x index → InRange y index → WrongRanges x y
