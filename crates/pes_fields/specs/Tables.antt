-- The fixed parts of Table 2-21 of Rec. ITU-T H.222.0, PES_packet(), as tables: its lines in order, with their names and numbers of
-- bits. The lines of the second extension are those of source 003, 2.4.3.6. The lines of PTS, DTS and TREF are in the crate `stamps`.
-- Assumes nothing.
use Rattle.std.specs.Prelude.{[], ◌∷◌, ◌++◌}
use Rattle.syntax.specs.Table.{value, reserved, fixed, Table}

-- The nine bytes before the header data: packet_start_code_prefix, and on to PES_header_data_length. The byte of flags has a name
-- of its own.
abbrev pub packet_flags : Table
packet_flags =
    value 2 "PTS_DTS_flags"
    ∷ value 1 "ESCR_flag"
    ∷ value 1 "ES_rate_flag"
    ∷ value 1 "DSM_trick_mode_flag"
    ∷ value 1 "additional_copy_info_flag"
    ∷ value 1 "PES_CRC_flag"
    ∷ value 1 "PES_extension_flag"
    ∷ []

abbrev pub head : Table
head =
    fixed 24 0x000001
    ∷ value 8 "stream_id"
    ∷ value 16 "PES_packet_length"
    ∷ fixed 2 0b10
    ∷ value 2 "PES_scrambling_control"
    ∷ value 1 "PES_priority"
    ∷ value 1 "data_alignment_indicator"
    ∷ value 1 "copyright"
    ∷ value 1 "original_or_copy"
    ∷ packet_flags
    ++ value 8 "PES_header_data_length"
    ∷ []

-- if (PES_extension_flag == '1'): the byte of flags
abbrev pub extension_flags : Table
extension_flags =
    value 1 "PES_private_data_flag"
    ∷ value 1 "pack_header_field_flag"
    ∷ value 1 "program_packet_sequence_counter_flag"
    ∷ value 1 "P-STD_buffer_flag"
    ∷ reserved 3
    ∷ value 1 "PES_extension_flag_2"
    ∷ []

-- if (PES_extension_flag_2 == '1'): marker_bit, PES_extension_field_length
abbrev pub second_extension : Table
second_extension = fixed 1 0b1 ∷ value 7 "PES_extension_field_length" ∷ []

-- the byte after it, where stream_id_extension_flag is 1
abbrev pub tref_extension : Table
tref_extension = value 1 "stream_id_extension_flag" ∷ reserved 6 ∷ value 1 "tref_extension_flag" ∷ []
