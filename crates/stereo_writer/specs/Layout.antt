-- HOW A STEREO SET IS WRITTEN: each entry as the loop writer writes it, and behind the hierarchy descriptor of the two layers, if any, the MVC extension descriptor that
-- each is given, the first of the two descriptors to the base and the second to the other. ES_info_length counts both.
-- Assumes nothing.
use Rattle.std.specs.Prelude.{ℕ, Bool, cond, ◌&&◌, ◌||◌, List, [], ◌++◌, length}
use Rattle.combinators.specs.Lists.{gather}
use Rattle.syntax.specs.Filled.{Filled, bytes_in}
use Rattle.records.specs.Records.{is_layer, is_second_view, record_tables}
use Rattle.loop_entries.specs.declared.Entry.{Entry}
use Rattle.loop_writer.specs.Layout.{entry_head_table}
use Rattle.mvc_extension.specs.declared.MvcExtension.{MvcExtension}
use Rattle.mvc_descriptors.specs.declared.Found.TheVariants.{One}
use Rattle.mvc_descriptors.specs.Tables.{mvc_extension_tables}
use Rattle.stereo_set.specs.declared.views.View.{View}
use Rattle.stereo_set.specs.Views.{is_base_layer, is_second_layer}

module _ (x y : MvcExtension) where
  -- the descriptor that a layer of this type is given
  abbrev pub extension_for : ℕ → MvcExtension
  extension_for stream_type = cond (is_second_view stream_type) y x

  -- an entry as the set looks at it
  abbrev pub view_for : Entry → View
  view_for e = record { entry = e; found = One (extension_for e.stream_type) }

-- whether an entry is one of the two layers
abbrev pub is_part : Entry → Bool
is_part e = is_layer e.«record» && (is_base_layer e || is_second_layer e)

abbrev pub extra_size : Entry → ℕ
extra_size e = cond (is_part e) 10 0

module _ (x y : MvcExtension) where
  abbrev pub extra_tables : Entry → List Filled
  extra_tables e = cond (is_part e) (mvc_extension_tables (extension_for x y e.stream_type)) []

  -- 'an entry has its hierarchy descriptor, if any, then tag 49'
  abbrev pub stereo_info : Entry → List ℕ
  stereo_info e = gather bytes_in (record_tables e.«record» e.embedded) ++ gather bytes_in (extra_tables e)

  abbrev pub stereo_entry : Entry → List ℕ
  stereo_entry e = bytes_in (entry_head_table e.stream_type e.pid (length (stereo_info e))) ++ stereo_info e

  abbrev pub stereo_bytes : List Entry → List ℕ
  stereo_bytes entries = gather stereo_entry entries
