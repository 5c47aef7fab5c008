-- THE LAYERS JUDGED as a stereo set: 44, then 45, then 46, or the set.
-- Assumes nothing.
use Rattle.std.specs.Prelude.{false, cond, ◌&&◌, List, [], ◌∷◌, eqb, Err, Ok}
use Rattle.vocabulary.specs.declared.refusal.Refusal.{Refusal}
use Rattle.vocabulary.specs.declared.refusal.Refusal.TheVariants.{NotStereoSet, WrongMvcExtension, RangesMeet}
use Rattle.loop_entries.specs.declared.Entry.{Entry}
use Rattle.loop_entries.specs.Entries.{blank_entry}
use Rattle.mvc_extension.specs.declared.MvcExtension.{MvcExtension}
use Rattle.mvc_extension.specs.Ranges.{wrong_ranges}
use Rattle.mvc_descriptors.specs.declared.Found.{Found}
use Rattle.mvc_descriptors.specs.declared.Found.TheVariants.{Missing, One, Wrong}
use Rattle.stereo_set.specs.declared.views.View.{View}
use Rattle.stereo_set.specs.declared.views.Layers.{Layers}
use Rattle.stereo_set.specs.declared.set.StereoRead.{StereoRead}
use Rattle.stereo_set.specs.Views.{is_base_layer, is_second_layer}

abbrev pub no_extension : MvcExtension
no_extension =
    record {
      average_bit_rate = 0;
      maximum_bitrate = 0;
      view_order_index_min = 0;
      view_order_index_max = 0;
      temporal_id_start = 0;
      temporal_id_end = 0;
      no_sei_nal_unit_present = false;
      no_prefix_nal_unit_present = false;
    }

-- 'A refusal returns number and place and no other content.'
abbrev pub refused_set : Refusal → StereoRead
refused_set r =
    record { outcome = Err r; base = blank_entry; second = blank_entry; base_extension = no_extension; second_extension = no_extension }

abbrev pub accepted_set : Entry → MvcExtension → Entry → MvcExtension → StereoRead
accepted_set base x second y = record { outcome = Ok tt; base = base; second = second; base_extension = x; second_extension = y }

-- 46: 'a range whose least exceeds its greatest, or ranges that meet'
abbrev pub ranges_judged : Entry → MvcExtension → Entry → MvcExtension → StereoRead
ranges_judged base x second y = cond (wrong_ranges x y) (refused_set RangesMeet) (accepted_set base x second y)

-- 45: 'the descriptor missing, doubled or of another length than its layout', on either
abbrev pub found_judged : Entry → Found → Entry → Found → StereoRead
found_judged base (One x) second (One y) = ranges_judged base x second y
found_judged base (One x) second Missing = refused_set WrongMvcExtension
found_judged base (One x) second Wrong = refused_set WrongMvcExtension
found_judged base Missing second found = refused_set WrongMvcExtension
found_judged base Wrong second found = refused_set WrongMvcExtension

abbrev pub described_set : View → View → StereoRead
described_set base second = found_judged base.entry base.found second.entry second.found

-- 44: 'not these two layers', in whichever order they stand
abbrev pub arranged : View → View → StereoRead
arranged a b =
    cond (is_base_layer a.entry && is_second_layer b.entry) (described_set a b)
    (cond (is_base_layer b.entry && is_second_layer a.entry) (described_set b a) (refused_set NotStereoSet))

abbrev pub set_of : List View → StereoRead
set_of [] = refused_set NotStereoSet
set_of (a ∷ []) = refused_set NotStereoSet
set_of (a ∷ b ∷ []) = arranged a b
set_of (a ∷ b ∷ c ∷ others) = refused_set NotStereoSet

-- the same of what a walk has kept
abbrev pub set_by : Layers → StereoRead
set_by l = cond (eqb l.count 2) (arranged l.first l.second) (refused_set NotStereoSet)
