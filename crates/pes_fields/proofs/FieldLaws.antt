-- Where the fields stand in order, the walk over them finds each: from what a header is to what the reader's definition says.
-- Assumes nothing.
use Prim.Native.Nat.{ℕ, ◌*◌}
use mathlib.Core.Path.{◌≡◌, refl, sym, ap, ap₂, ◌∙◌}
use mathlib.Core.Bool.{Bool, true, false, cond}
use mathlib.Core.List.{List, [], ◌∷◌, ◌++◌, append_assoc}
use native.Mathlib.Omega.{arith}
use lib.Dec.{eqb}
use lib.ListN.{length, take, drop, get_or, length-append}
use lib.Seq.{take_at, drop_at}
use Rattle.syntax.specs.Table.{Table, fixed_hold}
use Rattle.syntax.specs.Named.{named}
use Rattle.stamps.specs.Tables as Tables
use Rattle.stamps.specs.Tables.{tref}
use Rattle.stamps.specs.Stamps.{stamp_of, with_dts, without_dts, stamps_of}
use Rattle.stamps.proofs.StampLaws.{stamp_before}
use Rattle.stamps.specs.declared.Stamp.{Stamp}
use Rattle.pes_fields.specs.Tables.{extension_flags, second_extension}
use Rattle.pes_fields.specs.HeaderData.{Flags, after, after_all, with_marker, after_tref_flags, extension_field_of, field_length, after_field_length, second_extension_of, after_buffer, after_pack_header, after_private_data, after_extension_flags, extension_of, field_bytes, after_crc, header_data_of}
use Rattle.pes_fields.proofs.HeaderDataLaws.{after_fits}
use Rattle.pes_fields.specs.Meaning.{in_order, Optional, ExtensionField, without_tref, with_tref, SecondExtension, PackHeader, PesExtension, HeaderData}
use Rattle.pes_fields.specs.declared.Extension.{Extension}
use Rattle.pes_fields.specs.declared.Extension.TheVariants.{DoesNotFit, WithoutTref, WithTref}

-- a field that stands there is passed over
pub after_part : {n : ℕ} (part rest : List ℕ) (next : List ℕ → Extension) → length part ≡ n → after n (part ++ rest) next ≡ next rest
after_part {n} part rest next e =
    after_fits n (part ++ rest) next (omega (arith, length-append part rest, e)) ∙ ap next (drop_at part rest n e)

pub after_first : (x : ℕ) (rest : List ℕ) (next : List ℕ → Extension) → after 1 (x ∷ rest) next ≡ next rest
after_first x rest next = after_part (x ∷ []) rest next refl

pub optional_length : {n flag : ℕ} {part : List ℕ} → Optional n flag part → length part ≡ n * flag
optional_length Optional.absent = omega arith
optional_length (Optional.present e) = omega (arith, e)

-- parts of given sizes, all of them passed over
pub data Sized : List ℕ → List (List ℕ) → Type 0 where
  none : Sized [] []
  one : {n : ℕ} {ns part : List ℕ} {parts : List (List ℕ)} → length part ≡ n → Sized ns parts → Sized (n ∷ ns) (part ∷ parts)

pub all_parts : {ns : List ℕ} {parts : List (List ℕ)} → Sized ns parts → (rest : List ℕ) (next : List ℕ → Extension)
    → after_all ns (in_order parts rest) next ≡ next rest
all_parts none rest next = refl
all_parts (one {n} {ns} {part} {parts} e sized) rest next =
    after_part part (in_order parts rest) (λ bytes. after_all ns bytes next) e ∙ all_parts sized rest next

field_only : {marked : Bool} {field : List ℕ} {given : Extension} → ExtensionField marked field given → extension_field_of marked field ≡ given
field_only {marked} (without_tref {flags} {rest} e) =
    after_first flags rest (after_tref_flags marked flags)
    ∙ ap (λ (t : Bool). cond t (after 5 rest (λ skipped. WithTref (with_marker marked (stamp_of tref rest)))) (WithoutTref marked)) e
field_only {marked} (with_tref {flags} field rest e five) =
    let found : List ℕ → Extension = λ skipped. WithTref (with_marker marked (stamp_of tref (field ++ rest))) in
    after_first flags (field ++ rest) (after_tref_flags marked flags)
    ∙ ap (λ (t : Bool). cond t (after 5 (field ++ rest) found) (WithoutTref marked)) e
    ∙ after_part field rest found five
    ∙ ap (λ (s : Stamp). WithTref (with_marker marked s)) (stamp_before tref field rest (omega (arith, five)))

-- whatever stands after the second extension
second_only : {flag : ℕ} {second : List ℕ} {given : Extension} → SecondExtension flag second given → (rest : List ℕ)
    → cond (eqb flag 1) (second_extension_of (second ++ rest)) (WithoutTref true) ≡ given
second_only SecondExtension.absent rest = refl
second_only (SecondExtension.present {first} {field} {given} long is) rest =
    after_first first (field ++ rest) (after_field_length first)
    ∙ after_part field rest (λ skipped. extension_field_of (fixed_hold second_extension first) (take (field_length first) (field ++ rest))) long
    ∙ ap (extension_field_of (fixed_hold second_extension first)) (take_at field rest (field_length first) long)
    ∙ field_only is

pack_only : {flag : ℕ} {pack : List ℕ} → PackHeader flag pack → (rest : List ℕ) (next : List ℕ → Extension)
    → cond (eqb flag 1) (after 1 (pack ++ rest) (λ bytes. after (get_or (pack ++ rest) 0 0) bytes next)) (next (pack ++ rest)) ≡ next rest
pack_only PackHeader.absent rest next = refl
pack_only (PackHeader.present {header}) rest next =
    after_first (length header) (header ++ rest) (λ bytes. after (length header) bytes next) ∙ after_part header rest next refl

-- whatever stands after the extension
extension_only : {flag : ℕ} {extension : List ℕ} {given : Extension} → PesExtension flag extension given → (rest : List ℕ)
    → cond (eqb flag 1) (extension_of (extension ++ rest)) (WithoutTref true) ≡ given
extension_only PesExtension.absent rest = refl
extension_only
    (PesExtension.present {flags} {private_data} {packHeader} {sequenceCounter} {buffer} {second} {given} private-is pack_is counter-is buffer-is second_is)
    rest =
    after_first flags (in_order (private_data ∷ packHeader ∷ sequenceCounter ∷ buffer ∷ []) second ++ rest) (after_extension_flags flags)
    ∙ ap (after_extension_flags flags) regroup
    ∙ after_part private_data (packHeader ++ (sequenceCounter ++ (buffer ++ (second ++ rest)))) (after_private_data flags) (optional_length private-is)
    ∙ pack_only pack_is (sequenceCounter ++ (buffer ++ (second ++ rest))) (after_pack_header flags)
    ∙ all_parts sized (second ++ rest) (after_buffer flags)
    ∙ second_only second_is rest
  where
    regroup : in_order (private_data ∷ packHeader ∷ sequenceCounter ∷ buffer ∷ []) second ++ rest
        ≡ private_data ++ (packHeader ++ (sequenceCounter ++ (buffer ++ (second ++ rest))))
    regroup = simp append_assoc

    sized : Sized
        (2 * named "program_packet_sequence_counter_flag" extension_flags flags ∷ 2 * named "P-STD_buffer_flag" extension_flags flags ∷ [])
        (sequenceCounter ∷ buffer ∷ [])
    sized = one (optional_length counter-is) (one (optional_length buffer-is) none)

sizes : {flags : Flags} {bytes pts dts : List ℕ} {given : Extension} (h : HeaderData flags bytes pts dts given)
    → Sized (field_bytes flags) (pts ∷ dts ∷ h.escr ∷ h.es_rate ∷ h.trick_mode ∷ h.copy_info ∷ h.crc ∷ [])
sizes h =
    one h.pts_is
    (one (optional_length h.dts_is)
    (one (optional_length h.escr_is)
    (one (optional_length h.es_rate_is)
    (one (optional_length h.trick_mode_is) (one (optional_length h.copy_info_is) (one (optional_length h.crc_is) none))))))

pub header_data_only : {flags : Flags} {bytes pts dts : List ℕ} {given : Extension} → HeaderData flags bytes pts dts given → header_data_of flags bytes ≡ given
header_data_only {flags} h =
    ap (header_data_of flags) h.order
    ∙ all_parts (sizes h) (h.extension ++ h.skipped) (after_crc flags)
    ∙ extension_only h.extension_is h.skipped

-- what stands in order fits
field_fits : {marked : Bool} {field : List ℕ} {given : Extension} → ExtensionField marked field given → given ≡ DoesNotFit → ⊥
field_fits (without_tref e) p = let z : ◌≡◌ {A = ℕ} 0 1 = cc in omega arith
field_fits (with_tref field rest e five) p = let z : ◌≡◌ {A = ℕ} 0 1 = cc in omega arith

second_fits : {flag : ℕ} {second : List ℕ} {given : Extension} → SecondExtension flag second given → given ≡ DoesNotFit → ⊥
second_fits SecondExtension.absent p = let z : ◌≡◌ {A = ℕ} 0 1 = cc in omega arith
second_fits (SecondExtension.present long is) p = field_fits is p

extension_fits : {flag : ℕ} {extension : List ℕ} {given : Extension} → PesExtension flag extension given → given ≡ DoesNotFit → ⊥
extension_fits PesExtension.absent p = let z : ◌≡◌ {A = ℕ} 0 1 = cc in omega arith
extension_fits (PesExtension.present a b c d second) p = second_fits second p

pub header_data_fits : {flags : Flags} {bytes pts dts : List ℕ} {given : Extension} → HeaderData flags bytes pts dts given → given ≡ DoesNotFit → ⊥
header_data_fits h = extension_fits h.extension_is

-- PTS and DTS are read off their own bytes
pub stamps_in_fields : {flags : Flags} {bytes pts dts : List ℕ} {given : Extension} → HeaderData flags bytes pts dts given
    → stamps_of flags.pts_dts (pts ++ dts) ≡ stamps_of flags.pts_dts bytes
stamps_in_fields {flags} {bytes} {pts} {dts} h = by_flag (eqb flags.pts_dts 0b11) refl
  where
    after_dts : List ℕ
    after_dts = in_order (h.escr ∷ h.es_rate ∷ h.trick_mode ∷ h.copy_info ∷ h.crc ∷ h.extension ∷ []) h.skipped

    first : (t : Table) → stamp_of t (pts ++ dts) ≡ stamp_of t bytes
    first t =
        stamp_before t pts dts (omega (arith, h.pts_is))
        ∙ sym (stamp_before t pts (dts ++ after_dts) (omega (arith, h.pts_is)))
        ∙ ap (stamp_of t) (sym h.order)

    second : length dts ≡ 5 → stamp_of Tables.dts (drop 5 (pts ++ dts)) ≡ stamp_of Tables.dts (drop 5 bytes)
    second long =
        ap (stamp_of Tables.dts) (drop_at pts dts 5 h.pts_is)
        ∙ sym (stamp_before Tables.dts dts after_dts (omega (arith, long)))
        ∙ ap (stamp_of Tables.dts) (sym (drop_at pts (dts ++ after_dts) 5 h.pts_is))
        ∙ ap (λ (l : List ℕ). stamp_of Tables.dts (drop 5 l)) (sym h.order)

    pick : (l : List ℕ) (t : Bool) → eqb flags.pts_dts 0b11 ≡ t
        → stamps_of flags.pts_dts l ≡ cond t (with_dts (stamp_of Tables.pts_before_dts l) (stamp_of Tables.dts (drop 5 l))) (without_dts (stamp_of Tables.pts_alone l))
    pick l t e = ap (λ (t : Bool). cond t (with_dts (stamp_of Tables.pts_before_dts l) (stamp_of Tables.dts (drop 5 l))) (without_dts (stamp_of Tables.pts_alone l))) e

    by_flag : (t : Bool) → eqb flags.pts_dts 0b11 ≡ t → stamps_of flags.pts_dts (pts ++ dts) ≡ stamps_of flags.pts_dts bytes
    by_flag true e =
        let long : length dts ≡ 5 * cond true 1 0 = optional_length h.dts_is ∙ ap (λ (t : Bool). 5 * cond t 1 0) e in
        pick (pts ++ dts) true e ∙ ap₂ with_dts (first Tables.pts_before_dts) (second (omega (arith, long))) ∙ sym (pick bytes true e)
    by_flag false e = pick (pts ++ dts) false e ∙ ap without_dts (first Tables.pts_alone) ∙ sym (pick bytes false e)
