-- The header data of a PES packet, walked in the order of Table 2-21 up to the second extension and its TREF.
-- Assumes nothing.
use Rattle.std.specs.Prelude.{ℕ, ◌+◌, ◌*◌, Bool, true, cond, ◌&&◌, List, [], ◌∷◌, eqb, leb, length, take, drop, get_or}
use Rattle.syntax.specs.Table.{Table, fixed_hold}
use Rattle.syntax.specs.Named.{named}
use Rattle.stamps.specs.Tables.{tref}
use Rattle.stamps.specs.Stamps.{dts_flag, stamp_of}
use Rattle.stamps.specs.declared.Stamp.{Stamp}
use Rattle.pes_fields.specs.Tables.{extension_flags, second_extension, tref_extension}
use Rattle.pes_fields.specs.declared.Extension.{Extension}
use Rattle.pes_fields.specs.declared.Extension.TheVariants.{DoesNotFit, WithoutTref, WithTref}

-- The flags that say which fields follow.
pub record Flags : Type 0 where
  pub pts_dts : ℕ
  pub escr : ℕ
  pub es_rate : ℕ
  pub trick_mode : ℕ
  pub copy_info : ℕ
  pub crc : ℕ
  pub extension : ℕ

-- as a table that has them reads them off a number: the head off its nine bytes, or the flags' own off their byte
abbrev pub flags_of : Table → ℕ → Flags
flags_of t n =
    record {
      pts_dts = named "PTS_DTS_flags" t n;
      escr = named "ESCR_flag" t n;
      es_rate = named "ES_rate_flag" t n;
      trick_mode = named "DSM_trick_mode_flag" t n;
      copy_info = named "additional_copy_info_flag" t n;
      crc = named "PES_CRC_flag" t n;
      extension = named "PES_extension_flag" t n;
    }

-- A field of n bytes: what follows it, where there are so many.
abbrev pub after : ℕ → List ℕ → (List ℕ → Extension) → Extension
after n bytes next = cond (leb n (length bytes)) (next (drop n bytes)) DoesNotFit

-- Several fields, one after the other.
abbrev pub after_all : List ℕ → List ℕ → (List ℕ → Extension) → Extension
after_all [] bytes next = next bytes
after_all (n ∷ ns) bytes next = after n bytes (λ rest. after_all ns rest next)

-- the bytes of several fields
abbrev pub sum : List ℕ → ℕ
sum [] = 0
sum (n ∷ ns) = n + sum ns

-- TREF is present only with stream_id_extension_flag 1 and tref_extension_flag 0.
abbrev pub tref_flagged : ℕ → Bool
tref_flagged byte =
    eqb (named "stream_id_extension_flag" tref_extension byte) 1 && eqb (named "tref_extension_flag" tref_extension byte) 0

-- the marker before PES_extension_field_length, and a TREF with it
abbrev pub with_marker : Bool → Stamp → Stamp
with_marker marked stamp = record { marked = marked && stamp.marked; time = stamp.time }

-- Within PES_extension_field_length: the flags, and TREF where they say so. 'Other bytes are skipped.'
abbrev pub after_tref_flags : Bool → ℕ → List ℕ → Extension
after_tref_flags marked flags bytes =
    cond (tref_flagged flags) (after 5 bytes (λ skipped. WithTref (with_marker marked (stamp_of tref bytes)))) (WithoutTref marked)

abbrev pub extension_field_of : Bool → List ℕ → Extension
extension_field_of marked field = after 1 field (after_tref_flags marked (get_or field 0 0))

-- 'the second extension: marker 1, length 7, then within that length ..'
abbrev pub field_length : ℕ → ℕ
field_length first = named "PES_extension_field_length" second_extension first

abbrev pub after_field_length : ℕ → List ℕ → Extension
after_field_length first bytes =
    after (field_length first) bytes (λ skipped. extension_field_of (fixed_hold second_extension first) (take (field_length first) bytes))

abbrev pub second_extension_of : List ℕ → Extension
second_extension_of bytes = after 1 bytes (after_field_length (get_or bytes 0 0))

-- Sequence counter 2, P-STD 2, and the second extension.
abbrev pub after_buffer : ℕ → List ℕ → Extension
after_buffer flags bytes =
    cond (eqb (named "PES_extension_flag_2" extension_flags flags) 1) (second_extension_of bytes) (WithoutTref true)

abbrev pub after_pack_header : ℕ → List ℕ → Extension
after_pack_header flags bytes =
    after_all (2 * named "program_packet_sequence_counter_flag" extension_flags flags ∷ 2 * named "P-STD_buffer_flag" extension_flags flags ∷ [])
    bytes
    (after_buffer flags)

-- 'pack length byte with its pack header'
abbrev pub after_private_data : ℕ → List ℕ → Extension
after_private_data flags bytes =
    cond (eqb (named "pack_header_field_flag" extension_flags flags) 1)
    (after 1 bytes (λ rest. after (get_or bytes 0 0) rest (after_pack_header flags)))
    (after_pack_header flags bytes)

-- The extension: its byte of flags, private data 16, and on.
abbrev pub after_extension_flags : ℕ → List ℕ → Extension
after_extension_flags flags bytes = after (16 * named "PES_private_data_flag" extension_flags flags) bytes (after_private_data flags)

abbrev pub extension_of : List ℕ → Extension
extension_of bytes = after 1 bytes (after_extension_flags (get_or bytes 0 0))

-- The fields before the extension, in order, by their numbers of bytes: 'PTS 5 bytes, DTS 5, ESCR 6, ES rate 3, trick mode 1, copy
-- info 1, CRC 2'. A field whose flag is 0 has none.
abbrev pub field_bytes : Flags → List ℕ
field_bytes flags =
    5
    ∷ 5 * dts_flag flags.pts_dts
    ∷ 6 * flags.escr
    ∷ 3 * flags.es_rate
    ∷ 1 * flags.trick_mode
    ∷ 1 * flags.copy_info
    ∷ 2 * flags.crc
    ∷ []

abbrev pub after_crc : Flags → List ℕ → Extension
after_crc flags bytes = cond (eqb flags.extension 1) (extension_of bytes) (WithoutTref true)

-- The header data whole.
abbrev pub header_data_of : Flags → List ℕ → Extension
header_data_of flags bytes = after_all (field_bytes flags) bytes (after_crc flags)
