-- The MVC extension descriptor, tag 49: its syntax table, and its record out of the table's values and back, each value by the name of its line.
-- Assumes nothing.
use Rattle.std.specs.Prelude.{ℕ, List, [], ◌∷◌, eqb}
use Rattle.syntax.specs.Table.{Table, value, reserved}
use Rattle.syntax.specs.Named.{Given, given_to, read_by, values_by}
use Rattle.syntax.specs.Filled.{bit_of}
use Rattle.mvc_extension.specs.declared.MvcExtension.{MvcExtension}

-- Table AMD4.1, MVC extension descriptor, after its head: source 001, clause 2.6.78
abbrev pub mvc_extension_descriptor : Table
mvc_extension_descriptor =
    value 16 "average_bit_rate"
    ∷ value 16 "maximum_bitrate"
    ∷ reserved 4
    ∷ value 10 "view_order_index_min"
    ∷ value 10 "view_order_index_max"
    ∷ value 3 "temporal_id_start"
    ∷ value 3 "temporal_id_end"
    ∷ value 1 "no_sei_nal_unit_present"
    ∷ value 1 "no_prefix_nal_unit_present"
    ∷ []

-- READING
abbrev pub mvc_extension_from : Given → MvcExtension
mvc_extension_from given =
    record {
      average_bit_rate = given_to "average_bit_rate" given;
      maximum_bitrate = given_to "maximum_bitrate" given;
      view_order_index_min = given_to "view_order_index_min" given;
      view_order_index_max = given_to "view_order_index_max" given;
      temporal_id_start = given_to "temporal_id_start" given;
      temporal_id_end = given_to "temporal_id_end" given;
      no_sei_nal_unit_present = eqb (given_to "no_sei_nal_unit_present" given) 1;
      no_prefix_nal_unit_present = eqb (given_to "no_prefix_nal_unit_present" given) 1;
    }

abbrev pub mvc_extension_of : List ℕ → MvcExtension
mvc_extension_of payload = mvc_extension_from (read_by mvc_extension_descriptor payload)

-- WRITING: what a record gives to the names
abbrev pub mvc_extension_given : MvcExtension → Given
mvc_extension_given x =
    ("average_bit_rate", x.average_bit_rate)
    ∷ ("maximum_bitrate", x.maximum_bitrate)
    ∷ ("view_order_index_min", x.view_order_index_min)
    ∷ ("view_order_index_max", x.view_order_index_max)
    ∷ ("temporal_id_start", x.temporal_id_start)
    ∷ ("temporal_id_end", x.temporal_id_end)
    ∷ ("no_sei_nal_unit_present", bit_of x.no_sei_nal_unit_present)
    ∷ ("no_prefix_nal_unit_present", bit_of x.no_prefix_nal_unit_present)
    ∷ []

abbrev pub mvc_extension_fields : MvcExtension → List ℕ
mvc_extension_fields x = values_by mvc_extension_descriptor (mvc_extension_given x)
