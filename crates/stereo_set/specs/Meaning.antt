-- WHAT THE ANSWER MEANS, in the words of W-211. proofs/Meant.antt has the laws that join this to what is computed: the computed answer has this meaning, and no
-- other answer has it.
-- Assumes nothing.
use Rattle.std.specs.Prelude.{ℕ, ◌≤◌, ◌⊎◌, List, map, length}
use Rattle.combinators.specs.Lists.{Nth}
use Rattle.framing.specs.Pieces.{Item, whole, Cuts}
use Rattle.vocabulary.specs.declared.stream_types.Reading.TheVariants.{Edition2015}
use Rattle.vocabulary.specs.declared.refusal.Refusal.{Refusal}
use Rattle.vocabulary.specs.declared.refusal.Refusal.TheVariants.{NotStereoSet, WrongMvcExtension, RangesMeet}
use Rattle.loop_entries.specs.declared.Entry.{Entry}
use Rattle.loop_entries.specs.Entries.{es_info_length, stream_of, marked_streams, entry_of}
use Rattle.es_loop.specs.Reading.{refused_with}
use Rattle.es_loop.specs.Meaning as Loop
use Rattle.mvc_extension.specs.declared.MvcExtension.{MvcExtension}
use Rattle.mvc_extension.specs.Ranges.{WrongRanges}
use Rattle.mvc_descriptors.specs.Meaning.{WrongExtension, HasExtension}
use Rattle.stereo_set.specs.declared.set.StereoRead.{StereoRead}
use Rattle.stereo_set.specs.Set.{refused_set, accepted_set}
use Rattle.stereo_set.specs.Two.{TwoLayers}

-- A loop that the 2015 reading accepts, cut into its entries: no number applies at any of them.
pub record Accepts (bytes : List ℕ) (items : List Item) : Type 0 where
  pub short : length bytes ≤ 1008
  pub cuts : Cuts 5 es_info_length bytes items
  pub sound : (n k : ℕ) → Loop.Condition Edition2015 items n k → ⊥

-- the entries as that reading answers them
abbrev pub answered : List Item → List Entry
answered items = map entry_of (marked_streams (map (stream_of Edition2015) items))

-- the descriptor bytes of the entry at a place
pub record InfoAt (items : List Item) (k : ℕ) (info : List ℕ) : Type 0 where
  pub head : List ℕ
  pub item : Nth items k (whole head info)

-- the two layers of the loop, and the descriptor bytes of each
pub record StereoLayers (items : List Item) (base second : Entry) (baseInfo secondInfo : List ℕ) : Type 0 where
  pub two : TwoLayers (answered items) base second
  pub base_info : InfoAt items two.base_place baseInfo
  pub second_info : InfoAt items two.second_place secondInfo

-- THE ANSWER
pub data Answers (bytes : List ℕ) : StereoRead → Type 0 where
  -- 'after 1 to 10': the loop's own numbers
  loop_refused : {refusal : Refusal} → Loop.Answers Edition2015 bytes (refused_with refusal) → Answers bytes (refused_set refusal)
  -- 44: 'not these two layers'
  not_the_two : {items : List Item} → Accepts bytes items → ((base second : Entry) → TwoLayers (answered items) base second → ⊥)
      → Answers bytes (refused_set NotStereoSet)
  -- 45: 'the descriptor missing, doubled or of another length than its layout' on one of the two
  wrong_extension : {items : List Item} {base second : Entry} {baseInfo secondInfo : List ℕ} → Accepts bytes items
      → StereoLayers items base second baseInfo secondInfo → WrongExtension baseInfo ⊎ WrongExtension secondInfo → Answers bytes (refused_set WrongMvcExtension)
  -- 46: 'a range whose least exceeds its greatest, or ranges that meet'
  wrong_ranges_lem : {items : List Item} {base second : Entry} {baseInfo secondInfo : List ℕ} {x y : MvcExtension} → Accepts bytes items
      → StereoLayers items base second baseInfo secondInfo → HasExtension baseInfo x → HasExtension secondInfo y → WrongRanges x y
      → Answers bytes (refused_set RangesMeet)
  -- the two layers' entries and their descriptors
  a_set : {items : List Item} {base second : Entry} {baseInfo secondInfo : List ℕ} {x y : MvcExtension} → Accepts bytes items
      → StereoLayers items base second baseInfo secondInfo → HasExtension baseInfo x → HasExtension secondInfo y → (WrongRanges x y → ⊥)
      → Answers bytes (accepted_set base x second y)
