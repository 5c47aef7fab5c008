-- The test of refusal 20 answers exactly what a video PES header is.
-- Assumes nothing.
use Prim.Native.Nat.{ℕ, ◌+◌}
use mathlib.Core.Path.{◌≡◌, ap₂}
use mathlib.Core.Bool.{Bool, true, ◌&&◌}
use mathlib.Core.List.{List}
use borrow.Author.Tests.{leb-true, le-leb}
use lib.Dec.{leb}
use lib.ListN.{length}
use Rattle.combinators.specs.Bools.{both_left, both_right}
use Rattle.syntax.specs.Table.{number, fixed_hold}
use Rattle.syntax.specs.Named.{named}
use Rattle.pes_fields.specs.Tables.{head}
use Rattle.pes_reader.specs.Reading.{is_video_header}
use Rattle.pes_reader.specs.Meaning.{VideoHeader}

module _ (l : List ℕ) where
  abbrev stream_id : ℕ
  stream_id = named "stream_id" head (number 9 l)

  abbrev data_length : ℕ
  data_length = named "PES_header_data_length" head (number 9 l)

  -- the tests one by one, the last outermost
  abbrev one : Bool
  one = leb 9 (length l)

  abbrev two : Bool
  two = one && fixed_hold head (number 9 l)

  abbrev three : Bool
  three = two && leb 0xE0 stream_id

  abbrev four : Bool
  four = three && leb stream_id 0xEF

  pub video_is : is_video_header l ≡ true → VideoHeader l
  video_is e =
      let to_four : four ≡ true = both_left four (leb (9 + data_length) (length l)) e in
      let to_three : three ≡ true = both_left three (leb stream_id 0xEF) to_four in
      let to_two : two ≡ true = both_left two (leb 0xE0 stream_id) to_three in
      record {
        long = leb-true 9 (length l) (both_left one (fixed_hold head (number 9 l)) to_two);
        fixed_bits = both_right one (fixed_hold head (number 9 l)) to_two;
        from_E0 = leb-true 0xE0 stream_id (both_right two (leb 0xE0 stream_id) to_three);
        to_EF = leb-true stream_id 0xEF (both_right three (leb stream_id 0xEF) to_four);
        within = leb-true (9 + data_length) (length l) (both_right four (leb (9 + data_length) (length l)) e);
      }

  pub video_only : VideoHeader l → is_video_header l ≡ true
  video_only v =
      ap₂ ◌&&◌
      (ap₂ ◌&&◌ (ap₂ ◌&&◌ (ap₂ ◌&&◌ (le-leb 9 (length l) v.long) v.fixed_bits) (le-leb 0xE0 stream_id v.from_E0)) (le-leb stream_id 0xEF v.to_EF))
      (le-leb (9 + data_length) (length l) v.within)
