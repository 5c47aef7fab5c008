-- The fixed parts of Table 2-2 of Rec. ITU-T H.222.0, transport_packet(), and of Table 2-6, adaptation_field(), as tables: their lines in order,
-- with their names and numbers of bits.
-- Assumes nothing.
use Rattle.std.specs.Prelude.{[], ◌∷◌}
use Rattle.syntax.specs.Table.{value, reserved, Table}

-- the four bytes before all else
abbrev pub header : Table
header =
    value 8 "sync_byte"
    ∷ value 1 "transport_error_indicator"
    ∷ value 1 "payload_unit_start_indicator"
    ∷ value 1 "transport_priority"
    ∷ value 13 "PID"
    ∷ value 2 "transport_scrambling_control"
    ∷ value 2 "adaptation_field_control"
    ∷ value 4 "continuity_counter"
    ∷ []

-- if (adaptation_field_control == '10' || adaptation_field_control == '11'): adaptation_field()
abbrev pub adaptation_length : Table
adaptation_length = value 8 "adaptation_field_length" ∷ []

-- if (adaptation_field_length > 0)
abbrev pub adaptation_flags : Table
adaptation_flags =
    value 1 "discontinuity_indicator"
    ∷ value 1 "random_access_indicator"
    ∷ value 1 "elementary_stream_priority_indicator"
    ∷ value 1 "PCR_flag"
    ∷ value 1 "OPCR_flag"
    ∷ value 1 "splicing_point_flag"
    ∷ value 1 "transport_private_data_flag"
    ∷ value 1 "adaptation_field_extension_flag"
    ∷ []

-- if (PCR_flag == '1')
abbrev pub pcr : Table
pcr = value 33 "program_clock_reference_base" ∷ reserved 6 ∷ value 9 "program_clock_reference_extension" ∷ []
