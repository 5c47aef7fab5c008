-- What each reading sees in the descriptors of a 2009 stream that an accepted 2015 loop has: what a kind of descriptor, and what is held, is in the
-- 2009 reading. That it is so stands in proofs/Looking.antt.
-- Assumes nothing.
use Rattle.std.specs.Prelude.{ℕ, ◌<◌, ◌≡◌, Bool, true, false, List, length}
use Rattle.combinators.specs.Lists.{any, gather}
use Rattle.vocabulary.specs.declared.stream_types.Reading.TheVariants.{Edition2015}
use Rattle.records.specs.declared.Record.{Record}
use Rattle.records.specs.declared.Record.TheVariants.{NoRecord, Hierarchy, Extension, Implied}
use Rattle.descriptors.specs.Looking.{Kind, does_not_fit, skipped, wrong_length, hierarchy, extension, kinds_of, Held, held_in, is_wrong_length, first_record}
use Rattle.agreement.specs.Records.{view_unread, record_in2009}

-- ---- one descriptor

-- its kind in the 2009 reading, given its kind in the 2015 reading
abbrev pub kind_in2009 : Kind → Kind
kind_in2009 does_not_fit = does_not_fit
kind_in2009 skipped = skipped
kind_in2009 wrong_length = wrong_length
kind_in2009 (hierarchy h) = hierarchy (view_unread h)
kind_in2009 (extension x layers) = skipped

abbrev pub held_in2009 : Held → Held
held_in2009 h = record { held = record_in2009 h.held; layers = h.layers }

abbrev pub is_extension : Record → Bool
is_extension NoRecord = false
is_extension (Hierarchy h) = false
is_extension (Extension x) = true
is_extension Implied = false

-- What 4, 5 and 6 leave of the descriptors of a 2009 stream, where they are not given.
pub record Plain (info : List ℕ) : Type 0 where
  pub right_length : any is_wrong_length (kinds_of Edition2015 info) ≡ false
  pub one_record : length (gather held_in (kinds_of Edition2015 info)) < 2
  pub no_extension : is_extension (first_record (gather held_in (kinds_of Edition2015 info))) ≡ false
