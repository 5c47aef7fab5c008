-- What the header data of a PES packet are, in the words of Table 2-21 and of document 01: the fields stand one after the other, each
-- exactly where its flag is 1. In order: from the last field to the first. The laws that join this to the walk are in proofs/FieldLaws.antt and
-- proofs/WalkLaws.antt.
-- Assumes nothing.
use Rattle.std.specs.Prelude.{ℕ, ◌≡◌, Bool, true, false, List, [], ◌∷◌, ◌++◌, length}
use Rattle.syntax.specs.Table.{fixed_hold}
use Rattle.syntax.specs.Named.{named}
use Rattle.stamps.specs.Tables.{tref}
use Rattle.stamps.specs.Stamps.{dts_flag, stamp_of}
use Rattle.pes_fields.specs.Tables.{extension_flags, second_extension}
use Rattle.pes_fields.specs.HeaderData.{Flags, tref_flagged, with_marker}
use Rattle.pes_fields.specs.declared.Extension.{Extension}
use Rattle.pes_fields.specs.declared.Extension.TheVariants.{WithoutTref, WithTref}

-- fields one after the other, and then the rest
abbrev pub in_order : List (List ℕ) → List ℕ → List ℕ
in_order [] rest = rest
in_order (field ∷ fields) rest = field ++ in_order fields rest

-- A field of n bytes, there exactly when its flag is 1.
pub data Optional (n : ℕ) : ℕ → List ℕ → Type 0 where
  absent : Optional n 0 []
  present : {field : List ℕ} → length field ≡ n → Optional n 1 field

-- The bytes within PES_extension_field_length: the flags, TREF where they say so, and reserved bytes. Beside them stands what they
-- give, where `marked` is whether the marker before the length was right.
pub data ExtensionField (marked : Bool) : List ℕ → Extension → Type 0 where
  without_tref : {flags : ℕ} {rest : List ℕ} → tref_flagged flags ≡ false → ExtensionField marked (flags ∷ rest) (WithoutTref marked)
  with_tref : {flags : ℕ} (field rest : List ℕ) → tref_flagged flags ≡ true → length field ≡ 5
      → ExtensionField marked (flags ∷ field ++ rest) (WithTref (with_marker marked (stamp_of tref field)))

-- if (PES_extension_flag_2 == '1'): marker_bit, PES_extension_field_length, and so many bytes
pub data SecondExtension : ℕ → List ℕ → Extension → Type 0 where
  absent : SecondExtension 0 [] (WithoutTref true)
  present : {first : ℕ} {field : List ℕ} {given : Extension}
      → length field ≡ named "PES_extension_field_length" second_extension first
      → ExtensionField (fixed_hold second_extension first) field given
      → SecondExtension 1 (first ∷ field) given

-- if (pack_header_field_flag == '1'): pack_field_length, and so many bytes of pack_header()
pub data PackHeader : ℕ → List ℕ → Type 0 where
  absent : PackHeader 0 []
  present : {header : List ℕ} → PackHeader 1 (length header ∷ header)

-- if (PES_extension_flag == '1'): the byte of flags and the fields that they say
pub data PesExtension : ℕ → List ℕ → Extension → Type 0 where
  absent : PesExtension 0 [] (WithoutTref true)
  present : {flags : ℕ} {private_data packHeader sequenceCounter buffer second : List ℕ} {given : Extension}
      → Optional 16 (named "PES_private_data_flag" extension_flags flags) private_data
      → PackHeader (named "pack_header_field_flag" extension_flags flags) packHeader
      → Optional 2 (named "program_packet_sequence_counter_flag" extension_flags flags) sequenceCounter
      → Optional 2 (named "P-STD_buffer_flag" extension_flags flags) buffer
      → SecondExtension (named "PES_extension_flag_2" extension_flags flags) second given
      → PesExtension 1 (flags ∷ in_order (private_data ∷ packHeader ∷ sequenceCounter ∷ buffer ∷ []) second) given

-- The header data: each field in its turn, and bytes that are skipped.
pub record HeaderData (flags : Flags) (bytes pts dts : List ℕ) (given : Extension) : Type 0 where
  pub escr : List ℕ
  pub es_rate : List ℕ
  pub trick_mode : List ℕ
  pub copy_info : List ℕ
  pub crc : List ℕ
  pub extension : List ℕ
  pub skipped : List ℕ
  pub order : bytes ≡ in_order (pts ∷ dts ∷ escr ∷ es_rate ∷ trick_mode ∷ copy_info ∷ crc ∷ extension ∷ []) skipped
  pub pts_is : length pts ≡ 5
  pub dts_is : Optional 5 (dts_flag flags.pts_dts) dts
  pub escr_is : Optional 6 flags.escr escr
  pub es_rate_is : Optional 3 flags.es_rate es_rate
  pub trick_mode_is : Optional 1 flags.trick_mode trick_mode
  pub copy_info_is : Optional 1 flags.copy_info copy_info
  pub crc_is : Optional 2 flags.crc crc
  pub extension_is : PesExtension flags.extension extension given
