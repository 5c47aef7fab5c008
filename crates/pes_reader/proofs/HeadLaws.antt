-- The head byte by byte: what the code reads off nine bytes is what the table says of them as one number.
-- Assumes nothing.
use Prim.Native.Nat.{ℕ, ◌+◌, ◌*◌, ◌/◌, ◌%◌, ◌^◌, ◌≤◌, ◌<◌}
use mathlib.Core.Path.{◌≡◌, sym, ap, ◌∙◌}
use mathlib.Core.Bool.{Bool, true, ◌&&◌}
use mathlib.Core.List.{List, [], ◌∷◌}
use native.Mathlib.Omega.{arith}
use lib.Dec.{eqb, leb}
use lib.ListN.{length, get_or, take}
use lib.Seq.{get_or-take}
use Rattle.syntax.specs.Table.{AreBytes, number}
use Rattle.syntax.specs.Named.{named}
use Rattle.pes_fields.specs.Tables.{head, packet_flags}
use Rattle.pes_fields.specs.HeaderData.{flags_of}
use Rattle.pes_reader.specs.Reading.{is_video_header}

-- the tests of refusal 20, on the length, the prefix, the two bits, stream_id and PES_header_data_length
abbrev pub video_tests : ℕ → ℕ → ℕ → ℕ → ℕ → Bool
video_tests long prefix bits stream_id data_length =
    leb 9 long && (eqb prefix 0x000001 && (eqb bits 0b10 && true)) && leb 0xE0 stream_id && leb stream_id 0xEF && leb (9 + data_length) long

-- the flags of the head are those of its eighth byte
flags_in_byte : (n : ℕ) → flags_of head n ≡ flags_of packet_flags (n / 2 ^ 8 % 2 ^ 8)
flags_in_byte n =
    λ i. record {
      pts_dts = e_pts_dts i;
      escr = e_escr i;
      es_rate = e_es_rate i;
      trick_mode = e_trick_mode i;
      copy_info = e_copy_info i;
      crc = e_crc i;
      extension = e_extension i;
    }
  where
    e_pts_dts : named "PTS_DTS_flags" head n ≡ named "PTS_DTS_flags" packet_flags (n / 2 ^ 8 % 2 ^ 8)
    e_pts_dts = omega arith

    e_escr : named "ESCR_flag" head n ≡ named "ESCR_flag" packet_flags (n / 2 ^ 8 % 2 ^ 8)
    e_escr = omega arith

    e_es_rate : named "ES_rate_flag" head n ≡ named "ES_rate_flag" packet_flags (n / 2 ^ 8 % 2 ^ 8)
    e_es_rate = omega arith

    e_trick_mode : named "DSM_trick_mode_flag" head n ≡ named "DSM_trick_mode_flag" packet_flags (n / 2 ^ 8 % 2 ^ 8)
    e_trick_mode = omega arith

    e_copy_info : named "additional_copy_info_flag" head n ≡ named "additional_copy_info_flag" packet_flags (n / 2 ^ 8 % 2 ^ 8)
    e_copy_info = omega arith

    e_crc : named "PES_CRC_flag" head n ≡ named "PES_CRC_flag" packet_flags (n / 2 ^ 8 % 2 ^ 8)
    e_crc = omega arith

    e_extension : named "PES_extension_flag" head n ≡ named "PES_extension_flag" packet_flags (n / 2 ^ 8 % 2 ^ 8)
    e_extension = omega arith

module _ (l : List ℕ) (bytes : AreBytes l) where
  pub prefix_of_head : number 9 l / 2 ^ 48 % 2 ^ 24 ≡ number 3 l
  prefix_of_head = omega (arith, bytes 0, bytes 1, bytes 2, bytes 3, bytes 4, bytes 5, bytes 6, bytes 7, bytes 8)

  pub stream_id_of_head : named "stream_id" head (number 9 l) ≡ get_or l 3 0
  stream_id_of_head = omega (arith, bytes 0, bytes 1, bytes 2, bytes 3, bytes 4, bytes 5, bytes 6, bytes 7, bytes 8)

  pub bits_of_head : number 9 l / 2 ^ 22 % 2 ^ 2 ≡ get_or l 6 0 / 64
  bits_of_head = omega (arith, bytes 0, bytes 1, bytes 2, bytes 3, bytes 4, bytes 5, bytes 6, bytes 7, bytes 8)

  pub data_length_of_head : named "PES_header_data_length" head (number 9 l) ≡ get_or l 8 0
  data_length_of_head = omega (arith, bytes 0, bytes 1, bytes 2, bytes 3, bytes 4, bytes 5, bytes 6, bytes 7, bytes 8)

  pub flags_of_head : flags_of head (number 9 l) ≡ flags_of packet_flags (get_or l 7 0)
  flags_of_head = flags_in_byte (number 9 l) ∙ ap (flags_of packet_flags) eighth
    where
      eighth : number 9 l / 2 ^ 8 % 2 ^ 8 ≡ get_or l 7 0
      eighth = omega (arith, bytes 0, bytes 1, bytes 2, bytes 3, bytes 4, bytes 5, bytes 6, bytes 7, bytes 8)

  pub video_header_of_bytes : is_video_header l ≡ video_tests (length l) (number 3 l) (get_or l 6 0 / 64) (get_or l 3 0) (get_or l 8 0)
  video_header_of_bytes =
      ap (λ (x : ℕ). video_tests (length l) x (number 9 l / 2 ^ 22 % 2 ^ 2) (named "stream_id" head (number 9 l)) (named "PES_header_data_length" head (number 9 l))) prefix_of_head
      ∙ ap (λ (x : ℕ). video_tests (length l) (number 3 l) x (named "stream_id" head (number 9 l)) (named "PES_header_data_length" head (number 9 l))) bits_of_head
      ∙ ap (λ (x : ℕ). video_tests (length l) (number 3 l) (get_or l 6 0 / 64) x (named "PES_header_data_length" head (number 9 l))) stream_id_of_head
      ∙ ap (λ (x : ℕ). video_tests (length l) (number 3 l) (get_or l 6 0 / 64) (get_or l 3 0) x) data_length_of_head

-- the first three bytes as a number, and as bytes
pub prefix_bytes : (l : List ℕ) → AreBytes l → 3 ≤ length l → number 3 l ≡ 0x000001 → take 3 l ≡ 0x00 ∷ 0x00 ∷ 0x01 ∷ []
prefix_bytes [] bytes long e = absurd (omega arith)
prefix_bytes (a ∷ []) bytes long e = absurd (omega arith)
prefix_bytes (a ∷ b ∷ []) bytes long e = absurd (omega arith)
prefix_bytes (a ∷ b ∷ c ∷ l) bytes long e =
    let first : a ≡ 0x00 = omega (arith, bytes 0, bytes 1, bytes 2) in
    let second : b ≡ 0x00 = omega (arith, bytes 0, bytes 1, bytes 2) in
    let third : c ≡ 0x01 = omega (arith, bytes 0, bytes 1, bytes 2) in
    cc

pub prefix_number : (l : List ℕ) → take 3 l ≡ 0x00 ∷ 0x00 ∷ 0x01 ∷ [] → number 3 l ≡ 0x000001
prefix_number l e = ap₃ (at 0 (omega arith)) (at 1 (omega arith)) (at 2 (omega arith))
  where
    at : (i : ℕ) → i < 3 → get_or l i 0 ≡ get_or (0x00 ∷ 0x00 ∷ 0x01 ∷ []) i 0
    at i h = sym (get_or-take 3 l i 0 h) ∙ ap (λ (x : List ℕ). get_or x i 0) e

    ap₃ : {a b c : ℕ} → a ≡ 0x00 → b ≡ 0x00 → c ≡ 0x01 → a * 65536 + (b * 256 + (c * 1 + 0)) ≡ 0x000001
    ap₃ p q r = omega arith
