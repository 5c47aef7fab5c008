-- Where the walk over the header data ends well, the fields stand in order: from what the reader's definition says to what a header
-- is. The other way is in FieldLaws.antt.
-- Assumes nothing.
use Prim.Native.Nat.{ℕ, zero, suc, ◌*◌, ◌≤◌, ◌<◌}
use mathlib.Core.Path.{◌≡◌, refl, sym, ap, subst, ◌∙◌}
use mathlib.Core.Bool.{Bool, true, false, cond}
use mathlib.Core.List.{List, [], ◌∷◌, ◌++◌, append_assoc}
use native.Mathlib.Omega.{arith}
use borrow.Author.Tests.{leb-true, leb-false}
use lib.Dec.{eqb, leb}
use lib.ListN.{length, take, drop, get_or, take-append-drop}
use lib.Seq.{length-take-le}
use Rattle.syntax.specs.Table.{Table, fixed_hold}
use Rattle.syntax.proofs.Number.{number_take}
use Rattle.syntax.specs.Named.{named}
use Rattle.stamps.specs.Tables.{tref}
use Rattle.stamps.specs.Stamps.{dts_flag, time_of, stamp_of}
use Rattle.stamps.proofs.StampLaws.{stamp, dts_at_most_once}
use Rattle.stamps.specs.declared.Stamp.{Stamp}
use Rattle.pes_fields.specs.Tables.{extension_flags, second_extension}
use Rattle.pes_fields.specs.HeaderData.{Flags, after, after_all, tref_flagged, with_marker, after_tref_flags, extension_field_of, field_length, after_field_length, second_extension_of, after_buffer, after_pack_header, after_private_data, after_extension_flags, extension_of, field_bytes, after_crc, header_data_of}
use Rattle.pes_fields.proofs.HeaderDataLaws.{after_fits, after_short}
use Rattle.pes_fields.proofs.FieldLaws.{Sized, none, one}
use Rattle.pes_fields.specs.Meaning.{in_order, Optional, ExtensionField, without_tref, with_tref, SecondExtension, PackHeader, PesExtension, HeaderData}
use Rattle.pes_fields.specs.declared.Extension.{Extension}
use Rattle.pes_fields.specs.declared.Extension.TheVariants.{DoesNotFit, WithoutTref, WithTref}

abbrev pub Fits : Extension → Type 0
Fits x = x ≡ DoesNotFit → ⊥

-- a field that was passed over is there
passed : (n : ℕ) (l : List ℕ) (next : List ℕ → Extension) {x : Extension} → after n l next ≡ x → Fits x → (n ≤ length l) × (next (drop n l) ≡ x)
passed n l next {x} e fits = by_test (leb n (length l)) refl
  where
    by_test : (t : Bool) → leb n (length l) ≡ t → (n ≤ length l) × (next (drop n l) ≡ x)
    by_test true t = (leb-true n (length l) t, sym (after_fits n l next (leb-true n (length l) t)) ∙ e)
    by_test false t = absurd (fits (sym e ∙ after_short n l next (leb-false n (length l) t)))

-- several fields that were passed over
record Split (ns l : List ℕ) (next : List ℕ → Extension) (x : Extension) : Type 0 where
  parts : List (List ℕ)
  rest : List ℕ
  sized : Sized ns parts
  order : l ≡ in_order parts rest
  then : next rest ≡ x

all_passed : (ns l : List ℕ) (next : List ℕ → Extension) {x : Extension} → after_all ns l next ≡ x → Fits x → Split ns l next x
all_passed [] l next e fits = record { parts = []; rest = l; sized = none; order = refl; then = e }
all_passed (n ∷ ns) l next {x} e fits =
    let first : (n ≤ length l) × (after_all ns (drop n l) next ≡ x) = passed n l (λ bytes. after_all ns bytes next) e fits in
    let s : Split ns (drop n l) next x = all_passed ns (drop n l) next first.1 fits in
    record {
      parts = take n l ∷ s.parts;
      rest = s.rest;
      sized = one (length-take-le n l first.0) s.sized;
      order = sym (take-append-drop n l) ∙ ap (λ (r : List ℕ). take n l ++ r) s.order;
      then = s.then;
    }

optional : (n flag : ℕ) (part : List ℕ) → flag < 2 → length part ≡ n * flag → Optional n flag part
optional n zero [] bit e = Optional.absent
optional n zero (x ∷ part) bit e = absurd (omega arith)
optional n (suc zero) part bit e = Optional.present {field = part} (omega arith)
optional n (suc (suc flag)) part bit e = absurd (omega arith)

-- ---- within the second extension's length

stamp_taken : (t : Table) (l : List ℕ) → stamp_of t (take 5 l) ≡ stamp_of t l
stamp_taken t l = ap (λ (n : ℕ). stamp (fixed_hold t n) (time_of t n)) (number_take 5 l)

field_is : (marked : Bool) (field : List ℕ) {x : Extension} → extension_field_of marked field ≡ x → Fits x → ExtensionField marked field x
field_is marked [] e fits = absurd (fits (sym e))
field_is marked (flags ∷ rest) {x} e fits = by_flags (tref_flagged flags) refl
  where
    found : List ℕ → Extension
    found skipped = WithTref (with_marker marked (stamp_of tref rest))

    after_flags : after_tref_flags marked flags rest ≡ x
    after_flags = (passed 1 (flags ∷ rest) (after_tref_flags marked flags) e fits).1

    by_flags : (t : Bool) → tref_flagged flags ≡ t → ExtensionField marked (flags ∷ rest) x
    by_flags true t =
        let there : (5 ≤ length rest) × (found [] ≡ x) =
        passed 5 rest found (sym (ap (λ (t : Bool). cond t (after 5 rest found) (WithoutTref marked)) t) ∙ after_flags) fits in
        subst (ExtensionField marked (flags ∷ rest)) (ap (λ (s : Stamp). WithTref (with_marker marked s)) (stamp_taken tref rest) ∙ there.1)
        (subst (λ (l : List ℕ). ExtensionField marked (flags ∷ l) (WithTref (with_marker marked (stamp_of tref (take 5 rest))))) (take-append-drop 5 rest)
        (with_tref (take 5 rest) (drop 5 rest) t (length-take-le 5 rest there.0)))
    by_flags false t =
        subst (ExtensionField marked (flags ∷ rest)) (sym (ap (λ (t : Bool). cond t (after 5 rest found) (WithoutTref marked)) t) ∙ after_flags)
        (without_tref t)

-- ---- a part at the front of which something is known, and the rest

record Front (P : List ℕ → Type 0) (l : List ℕ) : Type 0 where
  part : List ℕ
  rest : List ℕ
  whole : l ≡ part ++ rest
  holds : P part

second_is : (flag : ℕ) (l : List ℕ) {x : Extension} → flag < 2 → cond (eqb flag 1) (second_extension_of l) (WithoutTref true) ≡ x → Fits x
    → Front (λ second. SecondExtension flag second x) l
second_is zero l {x} bit e fits =
    record { part = []; rest = l; whole = refl; holds = subst (SecondExtension 0 []) e SecondExtension.absent }
second_is (suc zero) [] bit e fits = absurd (fits (sym e))
second_is (suc zero) (first ∷ bytes) {x} bit e fits =
    let field : List ℕ = take (field_length first) bytes in
    let there : (field_length first ≤ length bytes) × (extension_field_of (fixed_hold second_extension first) field ≡ x) =
    passed (field_length first) bytes (λ skipped. extension_field_of (fixed_hold second_extension first) field)
    (passed 1 (first ∷ bytes) (after_field_length first) e fits).1
    fits in
    record {
      part = first ∷ field;
      rest = drop (field_length first) bytes;
      whole = ap (λ (l : List ℕ). first ∷ l) (sym (take-append-drop (field_length first) bytes));
      holds =
          SecondExtension.present (length-take-le (field_length first) bytes there.0)
          (field_is (fixed_hold second_extension first) field there.1 fits);
    }
second_is (suc (suc flag)) l bit e fits = absurd (omega arith)

-- ---- the pack header, and what follows it

record PackThen (flag : ℕ) (l : List ℕ) (next : List ℕ → Extension) (x : Extension) : Type 0 where
  front : Front (PackHeader flag) l
  then : next front.rest ≡ x

pack_is : (flag : ℕ) (l : List ℕ) (next : List ℕ → Extension) {x : Extension} → flag < 2
    → cond (eqb flag 1) (after 1 l (λ bytes. after (get_or l 0 0) bytes next)) (next l) ≡ x → Fits x → PackThen flag l next x
pack_is zero l next bit e fits = record { front = record { part = []; rest = l; whole = refl; holds = PackHeader.absent }; then = e }
pack_is (suc zero) [] next bit e fits = absurd (fits (sym e))
pack_is (suc zero) (size ∷ bytes) next {x} bit e fits =
    let there : (size ≤ length bytes) × (next (drop size bytes) ≡ x) =
    passed size bytes next (passed 1 (size ∷ bytes) (λ bytes. after size bytes next) e fits).1 fits in
    let long : length (take size bytes) ≡ size = length-take-le size bytes there.0 in
    record {
      front = record {
        part = size ∷ take size bytes;
        rest = drop size bytes;
        whole = ap (λ (l : List ℕ). size ∷ l) (sym (take-append-drop size bytes));
        holds = subst (λ (n : ℕ). PackHeader 1 (n ∷ take size bytes)) long (PackHeader.present {header = take size bytes});
      };
      then = there.1;
    }
pack_is (suc (suc flag)) l next bit e fits = absurd (omega arith)

-- ---- the extension

record Two (a b : ℕ) (parts : List (List ℕ)) : Type 0 where
  first : List ℕ
  second : List ℕ
  are : parts ≡ first ∷ second ∷ []
  first_long : length first ≡ a
  second_long : length second ≡ b

two : {a b : ℕ} {parts : List (List ℕ)} → Sized (a ∷ b ∷ []) parts → Two a b parts
two (one {part = first} e (one {part = second} f none)) =
    record { first = first; second = second; are = refl; first_long = e; second_long = f }

extension_is : (flag : ℕ) (l : List ℕ) {x : Extension} → flag < 2 → cond (eqb flag 1) (extension_of l) (WithoutTref true) ≡ x → Fits x
    → Front (λ extension. PesExtension flag extension x) l
extension_is zero l bit e fits =
    record { part = []; rest = l; whole = refl; holds = subst (PesExtension 0 []) e PesExtension.absent }
extension_is (suc zero) [] bit e fits = absurd (fits (sym e))
extension_is (suc zero) (flags ∷ bytes) {x} bit e fits =
    record {
      part = flags ∷ in_order (private_data ∷ packs.front.part ∷ counters.first ∷ counters.second ∷ []) seconds.part;
      rest = seconds.rest;
      whole = ap (λ (l : List ℕ). flags ∷ l) order;
      holds =
          PesExtension.present
          (optional 16 private_flag private_data (omega arith) (length-take-le (16 * private_flag) bytes privates.0))
          packs.front.holds
          (optional 2 counter_flag counters.first (omega arith) counters.first_long)
          (optional 2 buffer_flag counters.second (omega arith) counters.second_long)
          seconds.holds;
    }
  where
    private_flag : ℕ
    private_flag = named "PES_private_data_flag" extension_flags flags

    counter_flag : ℕ
    counter_flag = named "program_packet_sequence_counter_flag" extension_flags flags

    buffer_flag : ℕ
    buffer_flag = named "P-STD_buffer_flag" extension_flags flags

    private_data : List ℕ
    private_data = take (16 * private_flag) bytes

    privates : (16 * private_flag ≤ length bytes) × (after_private_data flags (drop (16 * private_flag) bytes) ≡ x)
    privates =
        passed (16 * private_flag) bytes (after_private_data flags) (passed 1 (flags ∷ bytes) (after_extension_flags flags) e fits).1 fits

    packs : PackThen (named "pack_header_field_flag" extension_flags flags) (drop (16 * private_flag) bytes) (after_pack_header flags) x
    packs = pack_is (named "pack_header_field_flag" extension_flags flags) (drop (16 * private_flag) bytes) (after_pack_header flags) (omega arith) privates.1 fits

    split : Split (2 * counter_flag ∷ 2 * buffer_flag ∷ []) packs.front.rest (after_buffer flags) x
    split = all_passed (2 * counter_flag ∷ 2 * buffer_flag ∷ []) packs.front.rest (after_buffer flags) packs.then fits

    counters : Two (2 * counter_flag) (2 * buffer_flag) split.parts
    counters = two split.sized

    seconds : Front (λ second. SecondExtension (named "PES_extension_flag_2" extension_flags flags) second x) split.rest
    seconds = second_is (named "PES_extension_flag_2" extension_flags flags) split.rest (omega arith) split.then fits

    order : bytes ≡ in_order (private_data ∷ packs.front.part ∷ counters.first ∷ counters.second ∷ []) seconds.part ++ seconds.rest
    order =
        sym (take-append-drop (16 * private_flag) bytes)
        ∙ ap (λ (l : List ℕ). private_data ++ l)
        (packs.front.whole
        ∙ ap (λ (l : List ℕ). packs.front.part ++ l)
        (split.order
        ∙ ap (λ (ps : List (List ℕ)). in_order ps split.rest) counters.are
        ∙ ap (λ (l : List ℕ). counters.first ++ (counters.second ++ l)) seconds.whole))
        ∙ simp append_assoc
extension_is (suc (suc flag)) l bit e fits = absurd (omega arith)

-- ---- the header data

-- flags of one bit, as the head's table reads them
pub record OneBit (flags : Flags) : Type 0 where
  pub escr : flags.escr < 2
  pub es_rate : flags.es_rate < 2
  pub trick_mode : flags.trick_mode < 2
  pub copy_info : flags.copy_info < 2
  pub crc : flags.crc < 2
  pub extension : flags.extension < 2

pub record Fields (flags : Flags) (bytes : List ℕ) (given : Extension) : Type 0 where
  pub pts : List ℕ
  pub dts : List ℕ
  pub laid : HeaderData flags bytes pts dts given

module _ (flags : Flags) (bits : OneBit flags) (l : List ℕ) {x : Extension} where
  named_parts : {parts : List (List ℕ)} {rest : List ℕ} → Sized (field_bytes flags) parts → l ≡ in_order parts rest
      → Front (λ extension. PesExtension flags.extension extension x) rest → Fields flags l x
  named_parts
      (one {part = pts} pts-long
      (one {part = dts} dts-long
      (one {part = escr} escr-long
      (one {part = es_rate} esRate-long
      (one {part = trick_mode} trickMode-long (one {part = copy_info} copyInfo-long (one {part = crc} crc-long none)))))))
      order
      front =
      record {
        pts = pts;
        dts = dts;
        laid = record {
          escr = escr;
          es_rate = es_rate;
          trick_mode = trick_mode;
          copy_info = copy_info;
          crc = crc;
          extension = front.part;
          skipped = front.rest;
          order = order ∙ ap (in_order (pts ∷ dts ∷ escr ∷ es_rate ∷ trick_mode ∷ copy_info ∷ crc ∷ [])) front.whole;
          pts_is = pts-long;
          dts_is = optional 5 (dts_flag flags.pts_dts) dts (omega (arith, dts_at_most_once flags.pts_dts)) dts-long;
          escr_is = optional 6 flags.escr escr bits.escr escr-long;
          es_rate_is = optional 3 flags.es_rate es_rate bits.es_rate esRate-long;
          trick_mode_is = optional 1 flags.trick_mode trick_mode bits.trick_mode trickMode-long;
          copy_info_is = optional 1 flags.copy_info copy_info bits.copy_info copyInfo-long;
          crc_is = optional 2 flags.crc crc bits.crc crc-long;
          extension_is = front.holds;
        };
      }

  pub header_data_is : header_data_of flags l ≡ x → Fits x → Fields flags l x
  header_data_is e fits =
      let split : Split (field_bytes flags) l (after_crc flags) x = all_passed (field_bytes flags) l (after_crc flags) e fits in
      named_parts split.sized split.order (extension_is flags.extension split.rest bits.extension split.then fits)
